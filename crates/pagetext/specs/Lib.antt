-- The lines of the activity page, and what they say of each verdict.
pub mod Texts
pub mod Line
