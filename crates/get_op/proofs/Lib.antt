pub mod GetLaws
