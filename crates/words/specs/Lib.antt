-- Numbers written as bytes.
pub mod Words
