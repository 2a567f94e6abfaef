-- Definitions of crate `filling`: how the code goes about it.
pub mod Filled
