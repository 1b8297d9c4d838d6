pub mod CentreCall
pub mod NumberLaws
pub mod RoundingLaws
pub mod OriginLaws
