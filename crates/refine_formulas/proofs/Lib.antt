-- Laws of the refiner's parts.
pub mod Choice
pub mod SolveLaws
pub mod KernelLaws
