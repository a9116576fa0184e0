pub mod StateWords
pub mod CallLaws
pub mod CodeRange
pub mod Commands
