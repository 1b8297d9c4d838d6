pub mod SeenLaws
pub mod SoundLaws
pub mod SoundExactly
