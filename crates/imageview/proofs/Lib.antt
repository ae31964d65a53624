-- Laws of images that more than one proof cites.
pub mod ImageLaws
pub mod LevelLaws
pub mod PatchLaws
pub mod SameLaws
pub mod Unpadded
