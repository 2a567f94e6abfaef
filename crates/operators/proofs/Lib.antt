-- Proofs of crate `operators`: what the functions are proved by.
pub mod Operators
