-- What an image is, what of it a patch is, when two images show the same, and what an image that passed its test has.
pub mod Image
pub mod Levels
pub mod Patch
pub mod Same
pub mod Steps
pub mod View
