-- The ChESS response of one pixel's 21 samples: exactly, and as it is written; demand 3 of it; and the steps of the work.
pub mod Samples
pub mod Near
pub mod Steps
