pub mod Hexadecimal
pub mod Answers
pub mod Fields
pub mod Line
pub mod Outcomes
pub mod Ending
pub mod Written
