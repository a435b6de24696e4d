pub mod Following
pub mod Order
pub mod Spans
