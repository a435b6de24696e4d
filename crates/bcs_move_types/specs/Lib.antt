-- What this crate defines for its contracts.
pub mod FaultNames
