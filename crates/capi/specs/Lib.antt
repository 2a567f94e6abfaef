-- Definitions and statements of crate `capi`.
-- how the code goes about it:
pub mod Codes
-- what each function promises:
pub mod Promises
-- statements:
pub mod Theorems
