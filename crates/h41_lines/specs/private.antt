-- Connects tables of words with the code that finds a word in them. No rule and no law needs this
-- file.
pub mod Hashes
