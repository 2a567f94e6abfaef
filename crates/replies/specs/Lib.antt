-- Definitions of crate `replies`.
-- 01's own:
pub mod Replies
-- how the code goes about it:
pub mod Printing
