-- What the direct reader of detail lines owes.
pub mod Direct
pub mod Guess
