-- What the harness of the replays promises: where words stand, what a buffer holds and is judged by, what is spoilt, and the counting.
pub mod Place
pub mod Buffers
pub mod Spoil
pub mod Aim
pub mod Count
