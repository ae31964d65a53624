-- What merging means: corners in a flat list, the two rules by which corners meet, the fold that merges, and what the public call answers and leaves behind.
pub mod Meets
pub mod Fold
pub mod Call
pub mod Claims
-- what the private steps promise each other
pub mod Steps
