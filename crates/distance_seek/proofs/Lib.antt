pub mod SearchLaws
pub mod WayLaws
pub mod OffsetLaws
pub mod NearestFirst
pub mod TurnLaws
