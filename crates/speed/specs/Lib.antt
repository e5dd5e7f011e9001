-- The calls that are timed, as numbers.
pub mod Says
