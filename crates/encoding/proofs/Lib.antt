-- Proofs of crate `encoding`.
pub mod Numbers
pub mod Files
