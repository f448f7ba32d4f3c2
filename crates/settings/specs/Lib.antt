-- Document 01's settings, in its order and words; then the laws. Each file opens with its notions.
pub mod Answers
pub mod Limits
pub mod Refusals
pub mod Settings
pub mod Choices
pub mod Coefficients
pub mod SharedAnswers
pub mod AnswerLaws
pub mod SettingLaws
pub mod CoefficientLaws
pub mod ChoiceLaws
pub mod Bounds
pub mod Accepting
