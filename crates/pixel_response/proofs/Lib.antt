-- Laws of one pixel's response, and demand 3 of it.
pub mod PixelLaws
pub mod SumLaws
pub mod RoundLaws
pub mod ValueLaws
pub mod DemandLaws
pub mod Inversion
