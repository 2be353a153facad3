-- A written record reads back.
pub mod RoundTrip
