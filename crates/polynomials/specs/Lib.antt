-- Lists of whole numbers as polynomials. Definitions first, then the laws that speak of them; each file opens with its notions.
pub mod Tests
pub mod Indices
pub mod Lists
pub mod Places
pub mod Blocks
pub mod Pairs
pub mod IndexLaws
pub mod SearchLaws
pub mod ListLaws
pub mod BoundLaws
pub mod PlaceLaws
pub mod ReductionLaws
pub mod TableLaws
pub mod BlockLaws
pub mod PairLaws
pub mod Examples
