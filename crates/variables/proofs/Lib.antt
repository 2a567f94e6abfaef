-- Proofs of crate `variables`.
pub mod Columns
pub mod Storing
