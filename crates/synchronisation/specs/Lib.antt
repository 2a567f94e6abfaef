-- Definitions and statements of crate `synchronisation`, in document 02's order.
-- 02's own:
pub mod Synchronisations
-- how the code goes about it:
pub mod Members
-- statements:
pub mod Theorems
