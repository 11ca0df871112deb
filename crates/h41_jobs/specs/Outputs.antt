-- What is written if a text is not written completely.
use Rattle.std.specs.Prelude.{ℕ, List, take, Option}
use Rattle.std.specs.Io.KnownBytes.{Appends}

-- A prefix of the text is written, which may be all of it.
abbrev pub AppendsFront : {W : Type 0} → (W → Option (List ℕ)) → W → W → List ℕ → Type 0
AppendsFront contents old new text =
    (count : ℕ) × Appends (contents old) (contents new) (take count text)
