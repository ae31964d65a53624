-- Binary graymaps: their grammar, what the reader answers, what may be claimed of it, and what its steps promise each other.
pub mod Grammar
pub mod Call
pub mod Claims
pub mod Steps
