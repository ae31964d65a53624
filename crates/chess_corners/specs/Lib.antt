-- What each exported function returns and writes, by the definitions of the calls that they wrap.
pub mod Told
pub mod Face
pub mod Fallback
pub mod Seed
