-- Laws, by subject; each function's proof cites them.
pub mod Every
pub mod Front
pub mod InWord
pub mod Numeral
pub mod Digit
pub mod Value
pub mod Row
