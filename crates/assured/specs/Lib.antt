pub mod Assured
pub mod Library
pub mod ForC
pub mod Commands
