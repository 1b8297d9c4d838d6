pub mod JoinLaws
pub mod WayLaws
