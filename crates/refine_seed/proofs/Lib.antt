-- Laws of the refiner.
pub mod StepLaws
pub mod ClosingLaws
pub mod EntryLaws
pub mod NumberLaws
pub mod ColumnLaws
pub mod SpotLaws
pub mod LentLaws
pub mod Theorems
pub mod BadSeed
pub mod Before
pub mod PixelsAlone
