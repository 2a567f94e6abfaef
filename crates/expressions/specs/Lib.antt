-- Definitions of crate `expressions`.
-- 01's own:
pub mod Expressions
-- how the code goes about it:
pub mod Cells
