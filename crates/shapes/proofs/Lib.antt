-- Laws of the shapes, each once, over the type of the entries and what is read past a list's end.
pub mod TurnLaws
pub mod ListLaws
pub mod TestLaws
