-- The proof that it holds.
pub mod TheFacts
