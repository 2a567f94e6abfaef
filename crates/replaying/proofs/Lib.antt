-- Proofs of crate `replaying`: what the functions are proved by.
pub mod Tests
pub mod Outcomes
pub mod Written
pub mod Longer
pub mod Ends
pub mod Entries
pub mod Refiring
pub mod Slices
