-- Definitions of crate `kinds`, and the statement that the table follows 01's list.
-- 01's own:
pub mod Kinds
pub mod Sameness
