pub mod Known
pub mod Numbers
pub mod Sees
pub mod Reads
pub mod Kept
pub mod Past
pub mod Reaching
pub mod Texts
