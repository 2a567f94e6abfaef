-- Definitions of crate `encoding`: the bytes of a model file, from its sizes and the kinds and parameters of its nodes.
-- how the code goes about it:
pub mod Files
