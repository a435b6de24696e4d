pub mod Prelude
pub mod SameByViews
pub mod Classes
