pub mod WordLaws
pub mod Putting
pub mod EntryLaws
pub mod ImageLaws
pub mod RefusalLaws
pub mod ReadBack
pub mod RoundTrip
pub mod Cases
