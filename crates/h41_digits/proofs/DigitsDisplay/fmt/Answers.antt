use Rattle.std.proofs.Common.{rules, IsUtf8, sym, subst, take}
use Rattle.std.proofs.lemmas.Str.{IsUtf8-from_ascii}
use Rattle.std.specs.Str.{IsAscii}
use Rattle.h41_digits.proofs.Values.{ascii_text}
use Rattle.h41_digits.proofs.DigitsDisplay.fmt.Goals as goal

pub unwrap-requires : goal.unwrap-requires
unwrap-requires g c =
    let ascii : IsAscii (take g.row.N c.glyphs-glyphs.result) =
    subst IsAscii (sym c.glyphs-glyphs.ensures.digits) (ascii_text g.row.N c.args.self.now c.glyphs-glyphs.ensures.from) in
    let valid : IsUtf8 (take g.row.N c.glyphs-glyphs.result) = IsUtf8-from_ascii _ ascii in
    search (rules, valid)
