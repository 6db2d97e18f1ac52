pub mod DeleteLaws
pub mod Examples
