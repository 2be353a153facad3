-- Laws of the definitions, by subject; each function's proof cites them.
pub mod Numbers
pub mod Stages
pub mod Found
pub mod Passed
