-- One cell of the settlement table: its layout, its marks, the read that it holds.
pub mod Layout
pub mod Marks
pub mod Read
