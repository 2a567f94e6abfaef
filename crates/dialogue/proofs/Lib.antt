-- Proofs of crate `dialogue`: what the functions are proved by, then the statements of specs/.
pub mod Kept
pub mod Scanning
pub mod FirstCells
pub mod RunSizes
pub mod Files
pub mod Bytewise
pub mod Pieces
pub mod Printed
pub mod Order
