-- Proofs of crate `steps`: what the functions are proved by.
pub mod FaultNumbers
pub mod NumbersApart
pub mod Parts
pub mod StepTests
pub mod Declarations
