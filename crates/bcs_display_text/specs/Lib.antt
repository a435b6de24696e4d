pub mod Columns
pub mod Escaped
pub mod Laws
pub mod Painted
