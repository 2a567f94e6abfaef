-- Definitions of crate `results`, which the promises of several crates share.
-- 01's own:
pub mod Results
pub mod Refusals
