pub use Rattle.bcs_value_model.specs.Tree
pub use Rattle.bcs_value_model.specs.View
pub use Rattle.bcs_value_model.specs.Fits
pub use Rattle.bcs_value_model.specs.Same
pub use Rattle.bcs_value_model.specs.Limits
pub use Rattle.bcs_value_model.specs.Words
pub use Rattle.bcs_value_model.specs.Laws
pub mod RepeatedEntries
