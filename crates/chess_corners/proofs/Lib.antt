-- Laws of the face.
pub mod FaceLaws
pub mod SeedLaws
