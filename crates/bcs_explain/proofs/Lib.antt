mod Prelude
mod Advancing
mod Covering
mod ScalarParsing
mod Keys
