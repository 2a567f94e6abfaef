-- Definitions of crate `interpreter`.
-- 01's own:
pub mod Instructions
-- how the code goes about it:
pub mod Cells
pub mod Gathering
