pub mod GapLaws
pub mod BesideLaws
pub mod FatherLaws
pub mod LeafLaws
pub mod AroundLaws
pub mod HandedLaws
pub mod CallLaws
