-- The claim of specs/ proved: what roundings add up to, the gaps that they round, the theorem, and that what is within a limit is finite.
pub mod Errors
pub mod Gaps
pub mod Distance
pub mod Finite
