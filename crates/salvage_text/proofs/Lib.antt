-- Laws of sizes and of lines; closed cases.
pub mod SizeLaws
pub mod LineLaws
pub mod Cases
