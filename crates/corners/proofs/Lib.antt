-- Laws of corners in a flat list.
pub mod CornerLaws
