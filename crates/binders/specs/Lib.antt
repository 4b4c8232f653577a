pub mod Binders
pub mod Memos
