-- What the functions of this crate promise one another, and what a block and the readers of items
-- promise their callers. It connects values of the code with the other definitions. No law needs
-- these files.
pub mod BlockReading
pub mod Contents
pub mod Entries
pub mod ItemReading
pub mod ProgramTexts
pub mod TakenBlocks
