-- Definitions and statements of crate `lines`.
-- 01's own:
pub mod Lines
-- statements:
pub mod Theorems
