mod Bytes
pub mod Laws
mod Pieces
