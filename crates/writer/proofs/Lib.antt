-- Laws of the definitions, by subject; each function's proof cites them.
pub mod Records
pub mod Answers
pub mod Done
-- The call asks nothing.
pub mod Asks
