-- Definitions of crate `cases`.
-- how the code goes about it:
pub mod Cases
