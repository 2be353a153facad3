-- The read that a cell holds: which read wins, and when a cell is sound.
pub mod Load
pub mod Sound
