pub mod Word
pub mod Actions
pub mod Shadows
pub mod Operations
pub mod Bytes
pub mod Agreement
pub mod Alarms
pub mod Pinned
