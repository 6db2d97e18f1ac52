pub mod Ranges
pub mod Changes
pub mod Puts
pub mod Unsynceds
pub mod Calls
pub mod Placing
pub mod Openings
pub mod Fusings
