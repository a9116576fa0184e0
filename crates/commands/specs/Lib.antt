pub mod Gates
pub mod Ports
pub mod ByBits
pub mod Answers
pub mod Promises
pub mod Handing
pub mod Cases
