-- Proofs of crate `picking`: what its functions are proved by.
pub mod Picking
