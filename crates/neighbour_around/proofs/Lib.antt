pub mod BesideLaws
pub mod SurroundLaws
