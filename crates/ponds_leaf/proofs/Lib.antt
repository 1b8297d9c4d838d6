pub mod ForkLaws
pub mod FourLaws
