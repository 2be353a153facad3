-- Laws of the definitions, by subject; each function's proof cites them.
pub mod Scan
pub mod Unpad
pub mod Identifiers
pub mod Bytewise
pub mod Put
pub mod Words
