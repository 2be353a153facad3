-- Laws of the definitions: a fresh state's view, what a call returns, and what a call that is not refused has.
pub mod FreshView
pub mod Refusals
-- Fresh asks nothing.
pub mod Asks
