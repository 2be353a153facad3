-- The cells of a registry: how many there are, the number of each, and what a call says of one.
pub mod Number
pub mod Address
pub mod Sound
