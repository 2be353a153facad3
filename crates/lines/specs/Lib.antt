-- Lines, outcomes, and what every row tests first: what the crates of the rows share.
pub mod Line
pub mod End
pub mod Row
pub mod Answer
pub mod Text
