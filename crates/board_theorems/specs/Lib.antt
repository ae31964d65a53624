-- What the clinics rely on: which lists are accepted, what each place is given, and what is refused.
pub mod Claims
pub mod Exact
