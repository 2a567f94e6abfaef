-- Proofs of crate `commands`: the statements of specs/, and what the functions are proved by.
pub mod Commands
