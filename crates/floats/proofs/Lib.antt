-- Laws that more than one function's proof cites, over the format: other crates cite them too.
pub mod Value
pub mod Pattern
pub mod Fractions
pub mod Half
pub mod Relative
pub mod OrderLaws
pub mod WholeLaws
pub mod PartLaws
pub mod BitLaws
pub mod NarrowLaws
pub mod SaturatingLaws
pub mod LeafLaws
pub mod Roots
pub mod NearestRoots
pub mod RootCases
pub mod Cases
