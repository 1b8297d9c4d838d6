pub mod WriteCallLaws
