-- Proofs of crate `interpreter`: what its function is proved by, and the laws that other crates cite.
pub mod Giving
pub mod Nothing
pub mod Due
