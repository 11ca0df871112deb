-- The words that copy registers, passed on from one place. Declares nothing.
pub use Rattle.h41_words.specs.declared.rows.RegisterTransfer.TheVariants.{CToG, GToC, ExchangeCG}
pub use Rattle.h41_words.specs.declared.rows.RegisterTransfer.TheVariants.{CToM, MToC, ExchangeCM}
pub use Rattle.h41_words.specs.declared.rows.RegisterTransfer.TheVariants.{CToN, NToC, ExchangeCN}
pub use Rattle.h41_words.specs.declared.rows.RegisterTransfer.TheVariants.{StatusToT, TToStatus}
pub use Rattle.h41_words.specs.declared.rows.RegisterTransfer.TheVariants.{ExchangeStatusT}
pub use Rattle.h41_words.specs.declared.rows.RegisterTransfer.TheVariants.{CToStatus, StatusToC}
pub use Rattle.h41_words.specs.declared.rows.RegisterTransfer.TheVariants.{ExchangeCStatus}
