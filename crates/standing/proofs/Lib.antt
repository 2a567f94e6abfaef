-- Proofs of crate `standing`: what the functions are proved by.
pub mod Holding
