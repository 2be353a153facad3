-- Laws of the definitions, by subject; each function's proof cites them. That the call asks nothing.
pub mod Counting
pub mod Asks
