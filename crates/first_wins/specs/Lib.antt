pub mod Keys
pub mod Equivalences
pub mod Entering
pub mod Earliest
pub mod Laws
pub mod Words
