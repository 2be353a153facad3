-- What reading some bytes of a piece does, as the plain loader's scan.
pub mod Ran
