-- Definitions and statements of crate `dialogue`.
-- 01's own:
pub mod Sizes
pub mod Transcript
-- how the code goes about it:
pub mod Turns
pub mod Cells
pub mod Program
-- statements:
pub mod Theorems
