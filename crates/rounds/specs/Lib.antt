-- Definitions of crate `rounds`: how the code goes about it. None is 01's own.
pub mod Cells
pub mod Rounds
pub mod Lent
