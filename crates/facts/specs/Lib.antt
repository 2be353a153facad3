-- Document 01's table of facts.
pub mod Facts
