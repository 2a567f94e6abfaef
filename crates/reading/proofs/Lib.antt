-- Proofs of crate `reading`: what the functions are proved by, and of the cells lent what the crates above cite.
pub mod Cells
mod Marking
mod Giving
mod Walking
mod Remaining
