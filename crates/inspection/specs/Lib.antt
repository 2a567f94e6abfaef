-- Definitions and statements of crate `inspection`.
-- 01's own:
pub mod Queries
-- how the code goes about it:
pub mod Asked
-- statements:
pub mod Theorems
