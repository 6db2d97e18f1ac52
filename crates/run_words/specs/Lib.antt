pub mod Pathnames
pub mod Options
pub mod Reading
pub mod Settings
