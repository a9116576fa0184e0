pub mod Words
pub mod Writing
pub mod Refusals
pub mod Promises
pub mod RoundTrip
pub mod Cases
pub mod Pieces
