pub mod GateLaws
pub mod RateLaws
pub mod WordOrder
pub mod ByBits
pub mod ListLaws
pub mod Handing
pub mod Cases
