pub mod Translations
pub mod Slots
