-- What the float leaves mean, each in IEEE 754's words over a format, so that binary32 and binary64 share it.
-- `lib.Ieee` has the values and the operations that Rattle has itself; these are the ones it lacks.
pub mod Magnitude
pub mod Whole
pub mod Convert
pub mod Root
pub mod NearestRoot
pub mod TotalOrder
pub mod Steps
