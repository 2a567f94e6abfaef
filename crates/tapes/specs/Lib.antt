-- Definitions of crate `tapes`: cells that are written one after another.
-- how the code goes about it:
pub mod Tapes
