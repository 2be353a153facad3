-- The registry: its rules over the bytes, and the index of its meters.
pub mod Entry
pub mod Registry
pub mod Index
