pub mod Words
pub mod Commands
pub mod Promises
pub mod Pieces
