pub mod Canonical
pub mod Finding
pub mod OneText
pub mod PlacedNames
pub mod Reading
pub mod Unquoting
