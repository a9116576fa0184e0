pub mod Series
pub mod Claim
pub mod Frame
pub mod Samples
