-- Entries as lines of text.
pub mod Listing
