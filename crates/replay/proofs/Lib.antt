pub mod BufferLaws
pub mod SpoilLaws
