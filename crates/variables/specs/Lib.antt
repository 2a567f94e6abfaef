-- Definitions of crate `variables`.
-- how the code goes about it:
pub mod Rows
