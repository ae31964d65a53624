-- The least-squares fit operator: the basis over a square of samples, the inverse of its normal matrix, the rows, and what is kept of them.
pub mod Basis
pub mod Inverse
pub mod Rows
pub mod Call
pub mod Steps
