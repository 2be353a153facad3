-- Identifiers as the registry has them: padded at the end with spaces, and in order by bytes.
pub mod Padding
pub mod Order
pub mod Private
