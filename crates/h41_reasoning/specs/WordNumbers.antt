-- The numbers of words, passed on under a name of their own, because another definition has the
-- same name.
unfoldable pub use Rattle.h41_words.specs.WordTable.{number_of}
