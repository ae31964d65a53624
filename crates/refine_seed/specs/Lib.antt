-- The saddle-point refiner of one seed: a run's steps, the tests, what the call answers, what may be claimed of it, and what the steps of the work promise.
pub mod Run
pub mod PixelSlope
pub mod Refine
pub mod Alone
pub mod Claims
pub mod StepsEnding
pub mod Spot
pub mod StepsSpot
pub mod Before
