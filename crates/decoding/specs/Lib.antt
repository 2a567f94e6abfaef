-- Definitions of crate `decoding`: an expression beside a model, and what an accepted file is decoded to.
-- 01's own:
pub mod Outside
-- how the code goes about it:
pub mod Decoding
pub mod NextPlaces
