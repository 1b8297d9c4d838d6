pub mod PixelLaws
