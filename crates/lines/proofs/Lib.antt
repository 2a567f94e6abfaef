-- Proofs of crate `lines`: the statements of specs/, then what the functions are proved by.
pub mod Decimal
pub mod Room
pub mod Taping
pub mod Lines
