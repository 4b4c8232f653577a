pub mod Scopes
mod Reaches
