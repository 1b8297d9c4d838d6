pub mod KindLaws
pub mod LaneLaws
pub mod WindowLaws
