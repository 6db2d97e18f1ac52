pub mod Deletes
pub mod Standing
pub mod Meaning
