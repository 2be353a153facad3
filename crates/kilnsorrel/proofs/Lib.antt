-- Everything that is claimed holds of the exported calls.
pub mod Exports
