-- Definitions of crate `replaying`.
-- 01's own:
pub mod Replays
-- how the code goes about it:
pub mod Moves
