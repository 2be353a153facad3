-- The calendar that document 01 speaks of in "Rows": real dates, clock times, day numbers, the intervals of a day.
pub mod Date
pub mod Clock
pub mod Day
pub mod Intervals
pub mod Answer
