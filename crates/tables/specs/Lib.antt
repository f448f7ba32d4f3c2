-- Document 01's correction table, in its order and words; then the laws. Each file opens with its notions.
pub mod Tables
pub mod Admitting
pub mod TableLaws
pub mod FitLaws
pub mod ByTableLaws
pub mod BuildLaws
