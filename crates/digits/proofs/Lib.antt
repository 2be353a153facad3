-- Laws of the definitions, by subject; each function's proof cites them.
pub mod Fill
pub mod Decimal
pub mod Puts
