-- The batch that a finish works in.
pub mod Batch
