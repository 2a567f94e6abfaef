-- Definitions and statements of crate `commands`.
-- 01's own:
pub mod Commands
-- statements:
pub mod Theorems
