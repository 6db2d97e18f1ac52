pub mod Gates
pub mod Cells
pub mod Writes
pub mod Rest
pub mod OtherSlot
pub mod Loading
