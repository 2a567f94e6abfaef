-- Proofs of crate `indexing`: what the functions are proved by.
pub mod Linking
pub mod Owning
