-- Proofs of crate `inspection`: what the functions are proved by, and the theorems.
pub mod Asked
pub mod QueryTests
pub mod First
pub mod Lowest
pub mod Outside
pub mod Firing
pub mod HeldMarks
