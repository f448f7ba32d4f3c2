-- Polynomials modulo p: divided, and evaluated. Definitions first, then the laws that speak of them; each file opens with its notions.
pub mod Divisions
pub mod Values
pub mod Powers
pub mod Differences
pub mod CongruenceLaws
pub mod DivisionLaws
pub mod ReverseLaws
pub mod ValueLaws
pub mod PowerLaws
pub mod IndependenceLaws
pub mod DifferenceLaws
