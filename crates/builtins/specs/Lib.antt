pub mod ArrayFold
pub mod RawHash
