use Rattle.std.proofs.Common.{◌∙◌, ap, sym, slice_set}
use Rattle.std.proofs.lemmas.List.{map-set}
use Rattle.h41_pages.specs.KeystrokeCode.{code_byte}
use Rattle.h41_pages.proofs.image.Image.write.Goals as goal

pub invariant_of-self : goal.invariant_of-self
invariant_of-self c =
    let words = c.self.inside.words.items in
    let code = c.self.inside.code.items in (
      c.self.invariant.0,
      ap (slice_set code c.args.offset) c.code_byte.ensures
          ∙ ap (λ code. slice_set code c.args.offset (code_byte c.args.word)) c.self.invariant.1
          ∙ sym (map-set code_byte words c.args.offset c.args.word),
    )
