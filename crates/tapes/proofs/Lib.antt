-- Proofs of crate `tapes`.
pub mod Tapes
