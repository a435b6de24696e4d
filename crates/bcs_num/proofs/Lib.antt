pub mod Prelude
pub mod Decimals
pub mod LeLaws
pub mod LeReading
pub mod Ranges
mod Room
pub mod UlebLaws
pub mod UlebReading
mod UlebWriting
