-- Refining a list of corners with a second try: the public calls, what may be claimed of them, and the steps of the work.
pub mod Call
pub mod Claims
pub mod Steps
