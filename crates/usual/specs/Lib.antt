-- What the quick readers of usual rows owe, beside the rows' rules in headers.
pub mod Answer
