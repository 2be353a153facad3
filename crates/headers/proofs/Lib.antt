-- Laws of the definitions, by subject; each function's proof cites them.
pub mod Moment
pub mod Stops
pub mod Forms
pub mod Pairs
pub mod Passed
