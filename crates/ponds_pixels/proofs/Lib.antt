pub mod FoldLaws
pub mod FourLaws
pub mod UnderLaws
pub mod PixelLaws
