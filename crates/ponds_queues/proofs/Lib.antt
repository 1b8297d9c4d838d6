pub mod PlaceLaws
pub mod WordLaws
pub mod QueueLaws
pub mod SonLaws
