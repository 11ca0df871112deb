use Rattle.std.proofs.Common.{◌≡◌, ◌-◌, ◌+◌, arith, refl, sym, ap, ◌∙◌, ◌∷◌, ◌++◌, [], drop, length-set}
use Rattle.std.proofs.lemmas.List.{take_more_set}
use Rattle.h41_digits.specs.Register.{text}
use Rattle.h41_digits.proofs.Packed.{is_register, text-from, text-past}
use Rattle.h41_digits.proofs.Digits.glyphs.Goals as goal

pub loop-i-init : goal.loop-i-init
loop-i-init g c =
    let all : g.row.N - 0 ≡ g.row.N = omega arith in (
      sym (ap (λ place. text (drop place c.args.self.now)) all
          ∙ text-past g.row.N c.self.inside.word c.args.self.now c.self.view_is c.self.invariant.1),
      refl,
    )

pub loop-i-preserved : goal.loop-i-preserved
loop-i-preserved g c =
    let place = g.row.N - 1 - c.loop-i.i in
    let next = g.row.N - c.loop-i.i in
    let below : g.row.N - (c.loop-i.i + 1) ≡ place = omega arith in
    let above : text (drop next c.args.self.now) ++ c.glyph.result ∷ [] ≡ text (drop place c.args.self.now) =
    ap (λ glyph. text (drop next c.args.self.now) ++ glyph ∷ []) c.glyph.ensures.value
    ∙ text-from g.row.N c.self.inside.word place next c.args.self.now c.self.view_is c.self.invariant.1 (omega arith) (omega arith) in (
      take_more_set c.loop-i.glyphs c.loop-i.i c.glyph.result (omega arith)
          ∙ ap (λ glyphs. glyphs ++ c.glyph.result ∷ []) c.loop-i.invariant.0
          ∙ above
          ∙ ap (λ place. text (drop place c.args.self.now)) (sym below),
      length-set c.loop-i.glyphs c.loop-i.i c.glyph.result ∙ c.loop-i.invariant.1,
    )

pub returns-clause-from : goal.returns-clause-from
returns-clause-from g c = (is_register g.row.N c.self.inside.word c.args.self.now c.self.view_is c.self.invariant.1).0
