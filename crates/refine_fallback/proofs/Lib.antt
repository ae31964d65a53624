-- Laws of a second try.
pub mod TestLaws
pub mod OperatorLaws
pub mod WalkLaws
pub mod Theorems
