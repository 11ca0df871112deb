-- The names of other crates that proofs about microcode cite, passed on from one place. Declares nothing.
pub use Rattle.std.proofs.Common.{refl, ap, subst, sym, ◌∙◌, inl, inr, arith, rules}
pub use Rattle.h41_laws_words.proofs.Registers.{held_at, register_set}
