pub mod GrownLaws
pub mod GatheredLaws
pub mod EntryLaws
pub mod WordLaws
