-- The header rows one, two, three, four and thirty, in document 01's order.
pub mod Time
pub mod One
pub mod Two
pub mod Three
pub mod Four
pub mod Thirty
pub mod Answer
