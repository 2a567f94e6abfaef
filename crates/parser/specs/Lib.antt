-- Definitions of crate `parser`.
-- how the code goes about it:
pub mod Levels
