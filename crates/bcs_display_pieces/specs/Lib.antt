pub mod EndsAt
pub mod IsPlain
pub mod Viewing
