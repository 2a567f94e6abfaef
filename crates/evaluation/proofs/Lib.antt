-- Proofs of crate `evaluation`: the rows and laws of specs/, then what the functions are proved by.
pub mod Rows
pub mod Laws
pub mod Signed
