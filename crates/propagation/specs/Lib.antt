-- Definitions of crate `propagation`: what its functions are lent and leave.
-- how the code goes about it:
pub mod Cells
pub mod Lent
