pub mod Prelude
pub mod Scans
pub mod Slices
pub mod Wholes
