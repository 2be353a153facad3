-- What the calls promise, and what a report is made of.
pub mod Keeps
pub mod Report
pub mod Contract
