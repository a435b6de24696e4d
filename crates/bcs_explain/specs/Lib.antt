pub mod Covering
pub mod ScalarParsing
pub use Rattle.bcs_decode_spec.specs.Accepting
pub use Rattle.bcs_decode_spec.specs.Stopping
