-- What is claimed of the calls: Claims is the file to read; Library says what a library is, Rattle and Border which calls a program may make.
pub mod Library
pub mod Claims
pub mod Rattle
pub mod Border
