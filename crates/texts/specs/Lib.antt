-- Definitions and statements of crate `texts`.
-- 02's own:
pub mod Texts
-- statements:
pub mod Rows
pub mod Theorems
