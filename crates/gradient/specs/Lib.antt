-- The gradient of the ChESS response at a cell of a tile: the cells that it reads, the whole coefficient of each, the public call, and what may be claimed of it.
pub mod Stencil
pub mod Coefficients
pub mod Call
pub mod Claims
pub mod Steps
