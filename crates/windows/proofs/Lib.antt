-- Proofs of crate `windows`.
mod Calling
mod Candidates
mod Entering
mod Falling
mod LogRows
mod Order
mod Orders
mod Passing
mod Queues
mod Reporting
mod Rings
mod RowsGone
mod WindowSteps
