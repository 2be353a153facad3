-- The calls under their names for C.
pub mod Exports
