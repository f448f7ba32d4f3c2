-- What the exported functions give, by the promises of the library; then the laws. Each file opens with its notions.
pub mod Replies
pub mod Exports
pub mod SumLaws
pub mod NumberLaws
