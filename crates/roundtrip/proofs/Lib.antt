-- The proof that a written record reads back, by subject, lowest first.
pub mod Fields
pub mod ValueBack
pub mod RowsBack
pub mod CellBack
pub mod MeterBack
pub mod LinesBack
pub mod RecordBack
pub mod RoundTrip
