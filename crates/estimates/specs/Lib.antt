-- The call Estimates.
pub mod Estimates
pub mod Contract
