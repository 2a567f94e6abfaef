-- Proofs of crate `texts`: of its statements, then of its code.
pub mod Rows
pub mod Refusals
pub mod Orders
pub mod Meanings
pub mod Limits
pub mod Accepting
pub mod Outside
pub mod Room
pub mod Cells
pub mod Small
pub mod Sorting
pub mod Given
pub mod Written
pub mod Narrow
pub mod Writing
pub mod Models
