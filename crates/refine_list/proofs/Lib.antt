-- Laws of refining a list.
pub mod ListLaws
pub mod FirstLaws
pub mod RepeatLaws
pub mod PixelsAlone
