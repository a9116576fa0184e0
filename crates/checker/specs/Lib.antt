pub mod Refusals
pub mod Reasons
pub mod Views
pub mod Promises
pub mod Pieces
pub mod Buffers
