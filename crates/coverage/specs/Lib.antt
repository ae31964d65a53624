-- How corners cover an image: the tile of a corner, the summary of a list, the calls that keep it, and what may be claimed of them.
pub mod Tiles
pub mod Summary
pub mod Call
pub mod Claims
pub mod Steps
