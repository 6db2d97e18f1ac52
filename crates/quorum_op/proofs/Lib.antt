pub mod CountLaws
pub mod StandingLaws
pub mod SlotLaws
