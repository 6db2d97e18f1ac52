pub mod PutLaws
pub mod WantLaws
pub mod StepLaws
pub mod Examples
