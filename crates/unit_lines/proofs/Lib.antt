pub mod Endings
pub mod Pairs
pub mod Cuts
pub mod OwnLine
pub mod Accepted
