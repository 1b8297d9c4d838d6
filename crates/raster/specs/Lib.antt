pub mod Sums
pub mod Raster
pub mod Calls
pub mod Blocks
