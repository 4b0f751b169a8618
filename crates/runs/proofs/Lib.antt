pub mod Runs
pub mod Invariants
pub mod Squares
pub mod Over
pub mod Guards
pub mod Walks
pub mod Counting
