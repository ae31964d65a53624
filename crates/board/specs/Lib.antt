-- Each predicted place of a board tied to its corner of a list.
pub mod Nearest
pub mod Call
pub mod Steps
