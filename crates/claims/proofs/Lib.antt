-- The claims' proofs: Claims is the file to read.
pub mod Chains
pub mod Answers
pub mod OfRattle
pub mod OfBorder
pub mod Claims
