-- What is demanded of the calls together. Each file opens with its notions.
pub mod DemandTwo
