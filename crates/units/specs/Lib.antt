-- What the functions on units answer, as the plain loader's units and events.
pub mod Answer
