pub mod PaintingLaws
