-- Proofs of crate `cases`.
pub mod Beside
pub mod Counting
