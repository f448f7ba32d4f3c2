-- Bytes in a buffer. Each file opens with its notions.
pub mod Numbers
pub mod Beginnings
pub mod Decimals
