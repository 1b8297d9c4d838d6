pub mod BlackLaws
pub mod CallLaws
pub mod RankedLaws
pub mod OneLeafLaws
