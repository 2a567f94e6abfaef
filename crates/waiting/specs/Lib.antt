-- Definitions of crate `waiting`: how the code goes about it. None is 01's own.
pub mod Waiting
pub mod Spots
pub mod Marks
pub mod News
pub mod Index
pub mod Waking
