-- The call Write: the record that it puts out, and what it answers.
pub mod Record
pub mod Write
pub mod Private
pub mod Contract
