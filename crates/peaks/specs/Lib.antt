-- Peaks of a response: the rule of one pixel, the call over all of them, what may be claimed of it, and what its steps promise each other.
pub mod Peak
pub mod Call
pub mod Claims
pub mod Sound
pub mod Listed
pub mod Steps
