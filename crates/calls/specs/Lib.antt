-- A call that a program makes.
pub mod RealCall
