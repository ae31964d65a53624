-- The squared distance in exact numbers.
pub mod Exact
