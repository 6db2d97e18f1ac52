pub mod NumberBytes
pub mod Tools
pub mod Fields
pub mod Fronts
pub mod Firsts
pub mod Spells
pub mod CountedLists
