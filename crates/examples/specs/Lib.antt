-- Document 01's examples over all of the library, and its limits, refusals and orders of checks as tables that the prover computes. Each file opens with its notions.
pub mod Compared
pub mod Inputs
pub mod Examples
pub mod Edges
pub mod RefusalRows
pub mod Orders
