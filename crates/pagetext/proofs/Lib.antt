-- The table of texts, the widths of columns, and how they are filled.
pub mod Texts
pub mod Lines
pub mod Widths
pub mod Table
pub mod Entry
pub mod Column
pub mod Heading
pub mod Pairs
