pub mod Addresses
pub mod PageMap
pub mod Images
pub mod KeystrokeCode
pub mod FunctionTables
pub mod PageLaws
pub mod FunctionLaws
pub mod private
