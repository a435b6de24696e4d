pub mod Shown
pub mod Text
pub mod Shaped
pub mod Parts
pub mod Json
