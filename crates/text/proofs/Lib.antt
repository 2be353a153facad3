-- Laws of the definitions, by subject; each function's proof cites them.
pub mod Truth
pub mod Left
pub mod Class
pub mod Equal
pub mod Comma
pub mod Decimal
pub mod DigitsOf
