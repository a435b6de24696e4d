pub mod Prelude
pub mod AppendsLaws
pub mod GivenLaws
pub mod ValidatingLaws
pub mod ValidatingViews
pub mod MapEntries
pub mod Options
pub mod OutputSteps
pub mod RowsFit
pub mod RowSteps
pub mod EntryArranging
pub mod NumberViews
pub mod WritingViews
pub mod WritingLaws
pub mod LayingLaws
mod SortedEntries
