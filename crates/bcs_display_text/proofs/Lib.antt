pub mod Digits
pub mod EscapedUnits
pub mod Printable
