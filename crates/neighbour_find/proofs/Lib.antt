pub mod StepLaws
pub mod ClimbLaws
pub mod CallLaws
