pub mod NumberLemmas
pub mod WordLemmas
pub mod OnceLemmas
pub mod PathnameLemmas
pub mod ReadLemmas
pub mod SettingsLemmas
