-- Laws of the plain loader; Demand3 has the theorems.
-- What demand 3 asks of the rules of one registry, and that they keep it; a record whole, and the row that ends it.
pub mod Lawful
pub mod Rules
pub mod WholeRecord
pub mod LastRow
-- One file: pieces, lines, the two seams, lines further down, and where an event's unit began.
pub mod Pieces
pub mod Lines
pub mod LineScan
pub mod Seam
pub mod Raise
pub mod Invariant
pub mod Range
pub mod Bounds
pub mod Isolation
-- The table: loads, and which read wins.
pub mod Loads
pub mod Latest
pub mod Good
pub mod Few
-- Calls: one that is refused; 201 bytes are enough, so is the room; a chain of calls, and one that takes a file.
pub mod Refused
pub mod Kept
pub mod Room
pub mod Calls
pub mod File
pub mod Chains
-- The theorems, and samples by computation.
pub mod AnyRules
pub mod Demand3
pub mod Samples
