-- Definitions and statements of crate `model`, in document 01's order.
-- 01's own:
pub mod Trees
pub mod Nodes
pub mod Sizes
pub mod Walk
pub mod Check
pub mod WellFormed
pub mod Shuffle
-- how the code goes about it:
pub mod Room
pub mod Standing
pub mod Walkers
-- statements:
pub mod Theorems
