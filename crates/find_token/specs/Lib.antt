pub mod Tokens
pub mod Pages
