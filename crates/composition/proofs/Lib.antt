-- Proofs of crate `composition`.
pub mod Branches
pub mod Bytes
pub mod Turning
pub mod Operators
pub mod Putting
pub mod Composing
pub mod Unpacked
