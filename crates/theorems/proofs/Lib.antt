-- What joins several crates: the marked examples, two refined seeds as closed cases, the theorems from image to peak, the whole road, and inverted boards.
pub mod Marked
pub mod Seeds
pub mod PixelLaws
pub mod Road
pub mod Halfway
pub mod RecordLaws
pub mod CallLaws
pub mod WholeRoad
pub mod Inverted
