-- Laws that the functions' proofs cite, and what may be claimed of the coefficients.
pub mod SizeLaws
pub mod StencilLaws
pub mod SignLaws
pub mod AdditionLaws
pub mod Differences
pub mod CallLaws
pub mod Moves
pub mod Theorems
pub mod Cases
