-- Refining a list of corners.
pub mod Refining
pub mod Alone
pub mod Steps
pub mod Seeds
