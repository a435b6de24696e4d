pub mod Accepting
pub mod Stopping
pub mod Reading
pub mod Steps
pub mod Exact
pub mod Laws
pub mod Stop
pub mod Width
