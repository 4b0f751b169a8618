pub mod Known
pub mod Wins
pub mod Once
pub mod Lawful
pub mod Sequences
pub mod Pinned
