-- Proofs of crate `rounds`: what the functions are proved by.
pub mod Propagating
pub mod Following
pub mod Visiting
pub mod Turning
pub mod Lent
