-- The refiner's formulas: the saddle of a fit, the blend between pixels, the sensitivity and the step, the covariance.
pub mod Numbers
pub mod Solve
pub mod Between
pub mod Sensitivity
pub mod Covariance
pub mod Steps
