-- Proofs of crate `kinds`: the rule of the table, and the bytes of the kinds, and equality.
pub mod Follows
pub mod Bytes
pub mod Equality
