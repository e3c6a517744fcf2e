pub mod Races
pub mod Marks
pub mod Tabled
pub mod Orders
pub mod Searches
