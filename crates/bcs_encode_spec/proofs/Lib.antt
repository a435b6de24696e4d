pub mod Prelude
pub mod BelowLaws
pub mod EntryOrder
pub mod FormLaws
pub mod CanonicalForm
pub mod FormOf
pub mod Growth
pub mod PrefixLaws
mod Refusals
pub mod Sorting
pub mod SoundForms
pub mod UniqueForms
