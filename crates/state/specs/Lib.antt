-- What is kept between calls: the fresh one, the view of any, and what a call on it returns.
pub mod Fresh
pub mod View
pub mod Refused
pub mod Contract
