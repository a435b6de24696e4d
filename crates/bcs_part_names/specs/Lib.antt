pub mod Names
pub mod NameSteps
pub mod NameLaws
pub mod Labels
pub mod Pointers
pub mod Contents
