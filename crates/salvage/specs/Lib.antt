-- Damaged corner files: their records and what is wrong with one, what the call answers and leaves, and what may be claimed of it.
pub mod Faults
pub mod Records
pub mod Call
pub mod Claims
pub mod Steps
