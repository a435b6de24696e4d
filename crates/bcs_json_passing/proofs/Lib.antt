pub mod Prelude
pub mod Turns
pub mod WholeTexts
pub mod OtherMembers
