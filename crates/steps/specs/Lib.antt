-- Definitions of crate `steps`.
-- 01's own:
pub mod Calls
pub mod Answers
-- statements:
pub mod Theorems
-- how the code goes about it:
pub mod Declarations
pub mod Lent
