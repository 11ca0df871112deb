use Rattle.std.proofs.Common.{◌≡◌, arith, inl, inr, sym, ◌∙◌}
use Rattle.std.proofs.lemmas.Bool.{eqb-true}
use Rattle.h41_commands.proofs.WordValues.{hex-Err, hex-Ok, word_values-bad, word_values-image}
use Rattle.h41_commands.proofs.blocks.page_words.PageWords.add.Goals as goal
use Rattle.h41_commands.proofs.blocks.page_words.PageWords.add.Goals.{then-value-gt-GREATEST, else-value-gt-GREATEST}

pub returns-in-Err : goal.returns-in-Err
returns-in-Err c = λ words e.
    let bad = hex-Err c.args.word.now c.in-Err.fault c.in-Err.ensures.value in
    rw bad.1 (sym (word_values-bad words c.args.word.now bad.0))

pub returns-in-Ok : goal.returns-in-Ok
returns-in-Ok c = λ words e.
    let number = hex-Ok c.args.word.now c.in-Ok.value c.in-Ok.ensures.value in
    rw c.or-self.ensures (word_values-image words c.args.word.now c.args.self.now.fault c.args.self.now.words.items number.0
    (elim c.if-value-gt-GREATEST.branch [
      | then-value-gt-GREATEST w ↦ inl (omega arith)
      | else-value-gt-GREATEST w ↦
          let full : w.len.result ≡ 4096 =
          eqb-true w.len.result 4096 (sym w.value-is ∙ c.if-len-eq-PAGE_WORDS.true) in
          let ok = c.args.self.now.words.ok.0 in inr (omega arith)
    ])
    e)
