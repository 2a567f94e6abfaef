-- Proofs of crate `semantics`: its theorems, and the laws that other crates cite.
pub mod Growth
pub mod Effects
pub mod Counting
pub mod Derived
pub mod Rounds
pub mod Sequential
pub mod Rows
pub mod Alike
pub mod Shuffling
pub mod Accepted
pub mod Knowing
pub mod Deciding
