pub mod Plain
pub mod Canonical
pub mod Lengths
pub mod Sound
pub mod Encodes
pub mod Entries
pub mod Refused
pub mod Laws
