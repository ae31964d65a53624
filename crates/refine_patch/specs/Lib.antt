-- The fits of four patches at once, and what the steps of the work promise.
pub mod StepsFrom
pub mod StepsFour
pub mod StepsRows
