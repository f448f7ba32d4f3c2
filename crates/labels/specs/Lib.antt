-- Request T-07, "Label check words", in its order and words; then what the workers ask of each other; then the laws. Each file opens with its notions.
pub mod Labels
pub mod Working
pub mod WordLaws
pub mod CheckLaws
pub mod SettingLaws
pub mod MultiplyLaws
pub mod DivisionSteps
pub mod GeneratorLaws
pub mod CheckWordLaws
pub mod RootLaws
pub mod LabelLaws
pub mod OnlyLaws
pub mod DistanceLaws
pub mod Written
pub mod Examples
