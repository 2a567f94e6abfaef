-- Proofs of crate `expressions`: what the functions are proved by.
pub mod OperandCounts
pub mod Evaluating
pub mod Skipping
