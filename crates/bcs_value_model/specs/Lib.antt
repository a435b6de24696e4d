pub mod Tree
pub mod View
pub mod Fits
pub mod Same
pub mod Limits
pub mod Words
pub mod Laws
