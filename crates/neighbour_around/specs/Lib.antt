pub mod SonBeside
pub mod Surround
