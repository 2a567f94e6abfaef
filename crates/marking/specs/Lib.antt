-- Definitions of crate `marking`.
-- 01's own, and A4's:
pub mod Marks
