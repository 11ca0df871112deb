-- The operations of arithmetic words, passed on from one place. Declares nothing.
pub use Rattle.h41_words.specs.declared.operation.Operation.TheVariants.{ClearA, ClearB, ClearC}
pub use Rattle.h41_words.specs.declared.operation.Operation.TheVariants.{ExchangeAB, AToB}
pub use Rattle.h41_words.specs.declared.operation.Operation.TheVariants.{ExchangeAC, BToC}
pub use Rattle.h41_words.specs.declared.operation.Operation.TheVariants.{ExchangeBC, CToA, AddBToA}
pub use Rattle.h41_words.specs.declared.operation.Operation.TheVariants.{AddCToA, IncrementA}
pub use Rattle.h41_words.specs.declared.operation.Operation.TheVariants.{SubtractBFromA, DecrementA}
pub use Rattle.h41_words.specs.declared.operation.Operation.TheVariants.{SubtractCFromA, DoubleC}
pub use Rattle.h41_words.specs.declared.operation.Operation.TheVariants.{AddAToC, IncrementC}
pub use Rattle.h41_words.specs.declared.operation.Operation.TheVariants.{SubtractCFromAToC}
pub use Rattle.h41_words.specs.declared.operation.Operation.TheVariants.{DecrementC, NegateC}
pub use Rattle.h41_words.specs.declared.operation.Operation.TheVariants.{ComplementC, TestBNonzero}
pub use Rattle.h41_words.specs.declared.operation.Operation.TheVariants.{TestCNonzero}
pub use Rattle.h41_words.specs.declared.operation.Operation.TheVariants.{TestALessThanC}
pub use Rattle.h41_words.specs.declared.operation.Operation.TheVariants.{TestALessThanB}
pub use Rattle.h41_words.specs.declared.operation.Operation.TheVariants.{TestANonzero}
pub use Rattle.h41_words.specs.declared.operation.Operation.TheVariants.{TestADiffersFromC}
pub use Rattle.h41_words.specs.declared.operation.Operation.TheVariants.{ShiftRightA, ShiftRightB}
pub use Rattle.h41_words.specs.declared.operation.Operation.TheVariants.{ShiftRightC, ShiftLeftA}
