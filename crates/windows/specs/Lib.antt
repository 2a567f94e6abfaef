-- Definitions and statements of crate `windows`, in document 02's order (A9).
-- 02's own:
pub mod Logs
pub mod Figures
pub mod Reports
-- how the code goes about it:
pub mod Sliding
pub mod Lent
-- statements:
pub mod Theorems
