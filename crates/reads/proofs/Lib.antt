-- Laws of the definitions, by subject; each function's proof cites them.
pub mod Scan
pub mod Count
pub mod Frame
pub mod Held
pub mod Stamps
pub mod SoundParts
