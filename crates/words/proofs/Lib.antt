-- Laws of words.
pub mod WordLaws
