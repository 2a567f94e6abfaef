-- Proofs of crate `rewriting`: the statements of specs/, and what the functions are proved by.
pub mod Accepted
pub mod Kept
pub mod Printing
pub mod Prints
pub mod Runs
pub mod Writing
