pub mod Passing
pub mod Fixed
