-- What the functions that read a record's rows answer, as the plain loader's rows.
pub mod Answer
