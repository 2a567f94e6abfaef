-- Definitions of crate `scanner`.
-- how the code goes about it:
pub mod Scanning
