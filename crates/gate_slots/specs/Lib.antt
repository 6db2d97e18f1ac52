pub mod Cell
pub mod Gate
pub mod Slots
