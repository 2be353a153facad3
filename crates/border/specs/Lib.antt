-- The calls at the border to C and Rust.
pub mod Border
pub mod Private
pub mod Contract
