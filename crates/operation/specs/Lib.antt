pub mod Calls
pub mod Notes
pub mod Pieces
pub mod Wants
pub mod Stages
pub mod Each
pub mod Giving
