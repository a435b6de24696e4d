pub mod Prelude
pub mod Passings
pub mod Steps
pub mod Openings
pub mod WholeRows
pub mod Reaching
pub mod FixedParts
