-- What the loader answers with: verdicts, refusals, entries, and entries as words.
pub mod Verdict
pub mod Refusal
pub mod Outcome
pub mod Words
pub mod Output
