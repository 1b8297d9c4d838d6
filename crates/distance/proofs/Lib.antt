pub mod NearestLaws
pub mod WhiteLaws
