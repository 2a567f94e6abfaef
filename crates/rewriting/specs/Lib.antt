-- Definitions and statements of crate `rewriting`.
-- 02's own, and what the code keeps and lends for it:
pub mod Rewriting
-- statements:
pub mod Theorems
