-- Laws of the peak scan.
pub mod CountLaws
pub mod BlockLaws
pub mod WindowLaws
pub mod FrameLaws
pub mod PeakLaws
pub mod ListLaws
pub mod GatherLaws
pub mod NarrowLaws
pub mod PartLaws
pub mod ChosenLaws
pub mod CallLaws
pub mod Theorems
pub mod BoundLaws
pub mod Cases
