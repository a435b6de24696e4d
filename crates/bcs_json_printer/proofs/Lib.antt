pub mod Prelude
pub mod ShownViews
pub mod ShownDepths
pub mod PrintedRows
pub mod Places
pub mod FieldOrder
pub mod SentRows
pub mod ShownBack
