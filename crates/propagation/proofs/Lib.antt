-- Proofs of crate `propagation`: what the functions are proved by.
pub mod Overwriting
pub mod Valuations
pub mod Blanks
pub mod Finishing
pub mod Settling
pub mod Acting
