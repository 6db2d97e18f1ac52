pub mod ListLaws
pub mod PieceLaws
pub mod AskingLaws
pub mod StageLaws
pub mod EachLaws
pub mod GivingLaws
