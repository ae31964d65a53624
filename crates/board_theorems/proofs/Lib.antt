-- The theorems of tying corners to places.
pub mod OrderMore
pub mod NearestLaws
pub mod TieLaws
pub mod Theorems
pub mod Cases
pub mod Exact
