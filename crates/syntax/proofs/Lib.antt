-- Proofs of crate `syntax`: what the functions are proved by.
pub mod Parameters
pub mod Refusals
