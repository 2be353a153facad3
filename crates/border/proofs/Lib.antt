-- Laws of the definitions, by subject; each function's proof cites them.
pub mod Small
pub mod Crossing
pub mod FreshLeft
-- No call asks anything.
pub mod Asks
