pub mod LeafLaws
pub mod LinesLaws
