pub mod Firsts
pub mod Passing
pub mod Rows
pub mod Refusing
