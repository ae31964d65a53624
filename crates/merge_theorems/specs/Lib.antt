-- What the clinics rely on: the promises of a call that merged, how far apart corners that meet can be in exact numbers, and a list that a second merge changes.
pub mod Promises
pub mod Apart
pub mod Bridged
