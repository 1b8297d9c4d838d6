pub mod LinkLaws
pub mod ReadCallLaws
