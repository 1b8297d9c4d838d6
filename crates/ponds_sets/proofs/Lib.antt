pub mod PlaceLaws
pub mod SetsLaws
pub mod PlacedLaws
pub mod TouchLaws
pub mod LineLaws
pub mod ShoreLaws
