-- Definitions and statements of crate `evaluation`, in document 01's order.
-- 01's own:
pub mod Numbers
pub mod Meaning
-- statements:
pub mod Laws
pub mod Rows
