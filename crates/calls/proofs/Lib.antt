-- What several clauses of a contract tell together, and what is asked of lifetimes.
pub mod Told
pub mod Asked
