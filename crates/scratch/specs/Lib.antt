-- Definitions of crate `scratch`.
pub mod Blank
