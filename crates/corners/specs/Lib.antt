-- Corners in a flat list.
pub mod Corners
