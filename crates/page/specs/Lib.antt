-- The call page: pages of a report's entries.
pub mod Page
pub mod Contract
pub mod Laid
