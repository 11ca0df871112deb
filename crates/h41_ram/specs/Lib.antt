pub mod RegisterMap
pub mod NamedRegisters
pub mod NamedFlags
pub mod RamState
pub mod RegisterMapLaws
pub mod MarkLaws
pub mod private
