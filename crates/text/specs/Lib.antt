-- What rows and registry say of bytes: classes, fields, digits and numbers, identifiers.
pub mod Byte
pub mod Field
pub mod Number
pub mod Identifier
