pub mod Marked
pub mod Tied
pub mod PondsOnSheetA
pub mod Walks
pub mod WrongLibraries
pub mod RowsOfRaster
pub mod PondsOfRaster
