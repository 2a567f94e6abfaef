-- Proofs of crate `scanner`.
pub mod Spellings
pub mod Numerals
pub mod Parentheses
pub mod Lengths
pub mod Meanings
pub mod FirstWords
