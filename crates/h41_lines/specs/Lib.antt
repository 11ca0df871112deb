pub mod Characters
pub mod Laws
pub mod Lines
pub mod Numbers
pub mod Words
pub mod private
