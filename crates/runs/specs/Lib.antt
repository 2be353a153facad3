-- What runs of lines do, as the plain loader's scan.
pub mod Run
