pub mod CountLaws
pub mod RankLaws
