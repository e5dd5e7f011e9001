-- Decimal numbers in text.
pub mod Feeding
pub mod Reading
