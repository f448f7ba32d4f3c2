-- Doubles. Each file opens with its notions.
pub mod Whole
pub mod Rounded
pub mod Exactly
pub mod Between
pub mod Error
pub mod Near
pub mod Quotients
pub mod Bits
pub mod Words
pub mod Examples
