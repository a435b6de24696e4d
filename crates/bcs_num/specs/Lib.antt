pub mod Laws
pub mod Le
pub mod Uleb
