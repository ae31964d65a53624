-- What a view of borrowed bytes stands for.
pub mod Seen
