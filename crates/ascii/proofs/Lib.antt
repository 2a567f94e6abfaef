-- Proofs of crate `ascii`.
pub mod Numbers
pub mod Sameness
