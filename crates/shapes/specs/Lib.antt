-- The shapes that definitions share: lists by their entries, work in turns, tests of many numbers, and the numbers that are written most.
pub mod Lists
pub mod Turns
pub mod Numbers
pub mod Tests
