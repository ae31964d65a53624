-- The fit on a patch, the window between pixels, one candidate of a run; and what the steps of the work promise: the sums, the nine kept fits, the fits about two bases, a candidate's outcome.
pub mod Fit
pub mod Windows
pub mod Candidate
pub mod StepsAdding
pub mod StepsCache
pub mod StepsBases
pub mod StepsTries
