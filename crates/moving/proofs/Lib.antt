-- Proofs of crate `moving`: what the functions are proved by.
pub mod Parts
