-- Proofs of crate `engine`: what the functions are proved by.
pub mod Counts
pub mod Entering
pub mod Loading
pub mod Guards
pub mod Changing
pub mod Firings
pub mod Accepted
pub mod Working
