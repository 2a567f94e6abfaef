-- Definitions of crate `engine`: what its functions are lent.
-- how the code goes about it:
pub mod Cells
pub mod Lent
