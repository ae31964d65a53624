-- The ChESS response at a pixel and over a region; what the public call answers and writes; demand 3 of its buffer; and the steps of the work.
pub mod Demand
pub mod Region
pub mod Call
pub mod Alone
pub mod StepsStarts
pub mod StepsFrame
