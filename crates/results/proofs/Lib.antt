-- Proofs of crate `results`: the numbers of the refusals.
pub mod Numbers
