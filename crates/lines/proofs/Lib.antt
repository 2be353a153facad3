-- Laws of the definitions, by subject; each function's proof cites them.
pub mod Lines
pub mod Begin
pub mod Ended
pub mod Ends
pub mod Keeping
pub mod Text
