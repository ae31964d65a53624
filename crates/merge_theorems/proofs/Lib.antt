-- What the clinics rely on: the theorems of merging, of both routines and of the public call, its closed cases, and distances in exact numbers.
pub mod Cases
pub mod GrowLaws
pub mod Theorems
pub mod Clinics
pub mod Apart
