-- Document 01's "The job program", in its order and words; then the state that takes a job's bytes; then the laws. Each file opens with its notions.
pub mod Lines
pub mod Jobs
pub mod States
pub mod Apart
pub mod Adding
pub mod Texts
pub mod ByteLaws
pub mod AddingLaws
pub mod FeedLaws
pub mod TakingLaws
pub mod CoherentLaws
pub mod CompletingLaws
pub mod HeaderLaws
pub mod LineLaws
pub mod FinishLaws
pub mod JobLaws
pub mod Examples
