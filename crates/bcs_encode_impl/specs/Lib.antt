pub mod Held
pub mod Stored
pub mod Validating
pub mod Appends
pub mod Writing
pub mod Laying
