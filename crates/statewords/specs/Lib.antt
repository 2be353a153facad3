-- A state as words: the layout.
pub mod Layout
