-- Proofs of crate `waiting`: the laws that other crates cite.
pub mod Gathering
pub mod Scoping
pub mod Reading
pub mod Waiting
pub mod Quiet
pub mod Touched
pub mod Spots
pub mod Marks
pub mod News
pub mod Mentions
pub mod Counting
pub mod Waking
