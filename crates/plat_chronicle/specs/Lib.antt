pub mod Pages
pub mod Spaces
pub mod Removals
pub mod Kinds
pub mod Translations
pub mod Present
pub mod Chronicle
