-- Proofs of crate `parser`.
pub mod Steps
pub mod Grouping
pub mod Places
pub mod Loops
pub mod Forms
pub mod Texts
