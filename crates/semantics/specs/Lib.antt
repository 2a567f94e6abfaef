-- Definitions and statements of crate `semantics`, in document 01's order.
-- 01's own:
pub mod Actions
pub mod Propagation
pub mod Sequential
pub mod Meanings
pub mod Firing
-- how the code's loops are counted:
pub mod Counting
-- statements:
pub mod Theorems
pub mod Rows
