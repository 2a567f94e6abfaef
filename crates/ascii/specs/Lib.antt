-- Definitions of crate `ascii`, which lines, commands and texts share.
-- 01's and 02's own:
pub mod Ascii
