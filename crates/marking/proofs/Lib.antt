-- Proofs of crate `marking`: what the functions are proved by, and what a run that holds its marks has.
pub mod MarksWritten
pub mod Refreshed
