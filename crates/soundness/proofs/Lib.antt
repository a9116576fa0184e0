pub mod RunsAlike
pub mod Theorem
pub mod Frame
pub mod Samples
