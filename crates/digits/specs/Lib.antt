-- Numbers in decimal, and texts put into lent bytes.
pub mod Decimal
pub mod Put
