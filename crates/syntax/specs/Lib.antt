-- Definitions of crate `syntax`.
-- 01's own:
pub mod Readings
-- how the code goes about it:
pub mod Nodes
