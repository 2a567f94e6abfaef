-- Proofs of crate `synchronisation`: what the functions' proofs share, then the theorems in the order of specs/Theorems.antt.
-- functions:
pub mod Lists
pub mod Sheets
pub mod Places
pub mod NewNodes
pub mod Pieces
pub mod Depth
pub mod Extending
pub mod Joining
pub mod Calling
-- theorems:
pub mod Listed
pub mod Written
pub mod Accepted
pub mod Answers
pub mod More
pub mod Firing
pub mod Guards
pub mod Effects
pub mod OldTransitions
pub mod OldCalls
pub mod Exchanges
pub mod Shuffling
