pub mod TableLaws
pub mod PathLaws
pub mod TreeLaws
pub mod PictureLaws
pub mod UpperLaws
