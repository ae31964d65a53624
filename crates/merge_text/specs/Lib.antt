-- What merge-print reads and prints, and which files it refuses.
pub mod Text
