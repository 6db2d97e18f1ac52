pub mod Holding
pub mod Faults
pub mod Spots
pub mod Starting
pub mod Nodes
pub mod Layouts
