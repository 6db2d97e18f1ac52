pub mod Id
pub mod Blob
