-- The registry checks of a record that has all its rows.
pub mod Check
