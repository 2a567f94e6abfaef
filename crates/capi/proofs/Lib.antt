-- Laws that the proofs of the functions cite, and the theorem.
pub mod Coding
pub mod Reached
