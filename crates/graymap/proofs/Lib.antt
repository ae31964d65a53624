-- Laws of the grammar over what is left of a file, of the samples and of the answers; theorems and closed cases.
pub mod TailLaws
pub mod GapLaws
pub mod CutLaws
pub mod DigitLaws
pub mod HeaderLaws
pub mod SampleLaws
pub mod CallLaws
pub mod PlainLaws
pub mod Theorems
pub mod Cases
