-- Definitions and statements of crate `grammar`, in the order of document 02's A2.
-- 02's own:
pub mod Words
pub mod Tokens
pub mod Phrases
pub mod Reading
-- how the code goes about it:
pub mod Held
-- statements:
pub mod Theorems
