-- "The double lane", in its order and words; then the laws. Each file opens with its notions.
pub mod Lanes
pub mod LaneLaws
pub mod Accepting
pub mod ExactLaws
pub mod SumLaws
pub mod QuotientLaws
pub mod ResidueLaws
pub mod Answering
pub mod Agreements
pub mod Examples
