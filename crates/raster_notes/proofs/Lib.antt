pub mod TellLaws
pub mod NoteLaws
