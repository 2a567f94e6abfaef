-- Definitions of crate `reading`: how the code goes about it.
pub mod Readings
