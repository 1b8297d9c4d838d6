pub mod Literals
pub mod GroundLaws
pub mod CentreLaws
