-- What salvage-print reads from the command line, and the lines that it writes.
pub mod Sizes
pub mod Lines
pub mod Steps
