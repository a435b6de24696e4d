pub mod Kinds
pub mod Leaf
pub mod Refused
