pub mod CallLaws
pub mod CheckCall
