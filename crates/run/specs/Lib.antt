-- Definitions and statements of crate `run`, in document 01's order.
-- 01's own:
pub mod Lists
-- how the code goes about it:
pub mod Lent
-- what each function promises:
pub mod Promises
-- statements:
pub mod Theorems
pub mod Rows
pub mod MannerRows
