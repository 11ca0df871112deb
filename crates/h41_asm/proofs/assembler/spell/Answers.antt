use Rattle.std.proofs.Common.{◌≡◌, ℕ, ◌+◌, Ok, List, [], ◌∷◌, ◌<◌, length, append-nil, drop, refl, sym, ◌∙◌, ap, arith}
use Rattle.std.specs.Borrow.{Bor}
use Rattle.std.proofs.lemmas.List.{drop_all, drop_more}
use Rattle.h41_asm.specs.declared.kept.KeptLine.{KeptLine}
use Rattle.h41_asm.specs.private.CodeStatements.{in_code}
use Rattle.h41_asm.specs.Faults.{read_length}
use Rattle.h41_asm.specs.private.KeptLines.{AreReady, Said, kept_said, said_faults}
use Rattle.h41_asm.specs.private.LabelTable.{labels_in}
use Rattle.h41_asm.specs.Placing.{Labels}
use Rattle.h41_asm.proofs.Keeping.{faults_next, refused_first, said_at, spelled_next}
use Rattle.h41_asm.proofs.assembler.spell.Goals as goal

pub loop-i-init : goal.loop-i-init
loop-i-init c =
    rw (c.from-address.ensures, c.in_ok-words.ensures.items)
    (record {
      ready = c.requires.ready;
      within = omega arith;
      faults = refl;
      spelled = λ others spelled. spelled;
    })

pub loop-i-preserved : goal.loop-i-preserved
loop-i-preserved c =
    let address = c.loop-i.address in
    let labels : Labels = labels_in c.args.labels.now in
    let lines = c.args.lines.now in
    let names = c.args.names.now in
    let line : KeptLine = c.index-lines-i.result in
    let own_line : drop c.loop-i.i lines ≡ line ∷ drop (c.loop-i.i + 1) lines =
    drop_more lines c.loop-i.i line c.loop-i-test.true ∙ ap (λ line. line ∷ drop (c.loop-i.i + 1) lines) (sym c.index-lines-i.is) in
    let inside : c.loop-i.i < length names = omega (arith, c.requires.length, c.loop-i-test.true) in
    let none : Bor (List ℕ) = record { ref_ptr = (0, 0); now = [] } in
    let statement = in_code c.with-statement.result in
    let said : Said = (line.number, Ok statement) in
    let rest : List Said = kept_said (drop (c.loop-i.i + 1) lines) (drop (c.loop-i.i + 1) names) in
    let left : kept_said (drop c.loop-i.i lines) (drop c.loop-i.i names) ≡ said ∷ rest =
    said_at lines names c.loop-i.i line _ own_line (drop_more names c.loop-i.i none inside)
    ∙ ap (λ own. (line.number, Ok own) ∷ rest) (sym c.with-statement.ensures) in
    let ready : AreReady address (said ∷ rest) = rw left at c.loop-i.invariant.ready in
    let own = c.in-Ok.ensures in
    let long : c.length.result ≡ read_length said.1 = c.length.ensures in
    record {
      ready = rw long ready.2;
      within = omega (arith, long, ready.1);
      faults = rw long (faults_next labels address said statement rest refl own.ok
          ∙ ap (λ some. said_faults labels address some) (sym left) ∙ c.loop-i.invariant.faults);
      spelled = λ others spelled.
          let more =
          spelled_next labels address said statement rest c.loop-i.words.items
          c.push_statement.new.words.items others refl own.own (rw long at spelled) in
          rw more.1 (c.loop-i.invariant.spelled more.0 (rw left more.2));
    }

pub returns-in-Err-clause-err : goal.returns-in-Err-clause-err
returns-in-Err-clause-err c =
    let labels : Labels = labels_in c.args.labels.now in
    let lines = c.args.lines.now in
    let names = c.args.names.now in
    let line : KeptLine = c.index-lines-i.result in
    let own_line : drop c.loop-i.i lines ≡ line ∷ drop (c.loop-i.i + 1) lines =
    drop_more lines c.loop-i.i line c.loop-i-test.true ∙ ap (λ line. line ∷ drop (c.loop-i.i + 1) lines) (sym c.index-lines-i.is) in
    let inside : c.loop-i.i < length names = omega (arith, c.requires.length, c.loop-i-test.true) in
    let none : Bor (List ℕ) = record { ref_ptr = (0, 0); now = [] } in
    let statement = in_code c.with-statement.result in
    let said : Said = (line.number, Ok statement) in
    let rest : List Said = kept_said (drop (c.loop-i.i + 1) lines) (drop (c.loop-i.i + 1) names) in
    let left : kept_said (drop c.loop-i.i lines) (drop c.loop-i.i names) ≡ said ∷ rest =
    said_at lines names c.loop-i.i line _ own_line (drop_more names c.loop-i.i none inside)
    ∙ ap (λ own. (line.number, Ok own) ∷ rest) (sym c.with-statement.ensures) in
    let first = sym c.loop-i.invariant.faults ∙ ap (λ some. said_faults labels c.loop-i.address some) left in
    rw (c.at_line.ensures, first) (refused_first _ c.in-Err.error line.number _ c.in-Err.ensures.err)

pub returns-clause-words : goal.returns-clause-words
returns-clause-words c =
    let none : drop c.loop-i.i c.args.lines.now ≡ [] = drop_all c.loop-i.i c.args.lines.now c.loop-i-test.false in
    rw (← append-nil c.loop-i.words.items) (c.loop-i.invariant.spelled [] (rw none refl))

pub push_statement-requires : goal.push_statement-requires
push_statement-requires c = omega (arith, c.loop-i.invariant.within)
