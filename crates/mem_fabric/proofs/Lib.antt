pub mod Questions
pub mod Worlds
pub mod Sounds
pub mod Stops
pub mod Making
pub mod Goes
pub mod Answering
pub mod Playing
