-- Laws of the definitions, and what the proofs of the calls share.
-- Entries put into a report.
pub mod Reports
-- The batches of a feed, and the last one.
pub mod Batching
-- The calls ask nothing.
pub mod Asks
