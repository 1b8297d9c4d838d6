pub mod KindLaws
pub mod ForkLaws
pub mod NotedLaws
