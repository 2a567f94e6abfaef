-- Definitions of crate `composition`.
-- 02's own:
pub mod Typing
-- how the code goes about it:
pub mod Parts
pub mod Arranging
