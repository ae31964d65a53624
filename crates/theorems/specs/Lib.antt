-- What is claimed over several crates.
pub mod Claims
pub mod WholeRoad
pub mod Inverted
