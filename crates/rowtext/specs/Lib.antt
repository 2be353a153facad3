-- The texts of the rows that Write puts out.
pub mod Text
pub mod Value
