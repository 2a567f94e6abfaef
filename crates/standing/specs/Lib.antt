-- Definitions of crate `standing`, in document 01's order.
-- 01's own:
pub mod Runs
pub mod Holding
-- how the code goes about it:
pub mod Lent
