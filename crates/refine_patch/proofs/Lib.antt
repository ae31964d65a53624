-- Laws of four numbers side by side, of the rows of four patches, and of a patch in an image.
pub mod LaneLaws
pub mod FourLaws
pub mod RowLaws
pub mod PatchLaws
