-- Laws of the response, and demand 3.
pub mod PassLaws
pub mod RowLaws
pub mod RingLaws
pub mod RegionLaws
pub mod CallLaws
pub mod DemandThree
pub mod PixelsAlone
