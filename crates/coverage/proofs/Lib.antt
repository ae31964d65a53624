-- Laws of tiles, of entries written one by one, of the summary and of the calls; the theorems, and closed cases.
pub mod TileLaws
pub mod EntryLaws
pub mod SummaryLaws
pub mod MoveLaws
pub mod WayLaws
pub mod Theorems
pub mod Cases
