use Rattle.std.proofs.Common.{◌≡◌, codes, arith, refl, rules}
use Rattle.std.proofs.lemmas.Slice.Eq.{text_from_reads}
use Rattle.h41_commands.specs.Commands.{plain_of_word}
use Rattle.h41_commands.proofs.commands.PlainKind.of_word.Goals as goal

pub returns-in-unplug : goal.returns-in-unplug
unfolding plain_of_word
returns-in-unplug c =
    let same : c.args.word.now ≡ codes "unplug" = text_from_reads c.args.word.now (codes "unplug") (omega arith) (search rules) in
    rw same refl

pub returns-in-size : goal.returns-in-size
unfolding plain_of_word
returns-in-size c =
    let same : c.args.word.now ≡ codes "size" = text_from_reads c.args.word.now (codes "size") (omega arith) (search rules) in
    rw same refl

pub returns-in-reset : goal.returns-in-reset
unfolding plain_of_word
returns-in-reset c =
    let same : c.args.word.now ≡ codes "reset" = text_from_reads c.args.word.now (codes "reset") (omega arith) (search rules) in
    rw same refl

pub returns-in-call : goal.returns-in-call
unfolding plain_of_word
returns-in-call c =
    let same : c.args.word.now ≡ codes "call" = text_from_reads c.args.word.now (codes "call") (omega arith) (search rules) in
    rw same refl

pub returns-in-step : goal.returns-in-step
unfolding plain_of_word
returns-in-step c =
    let same : c.args.word.now ≡ codes "step" = text_from_reads c.args.word.now (codes "step") (omega arith) (search rules) in
    rw same refl

pub returns-in-run : goal.returns-in-run
unfolding plain_of_word
returns-in-run c =
    let same : c.args.word.now ≡ codes "run" = text_from_reads c.args.word.now (codes "run") (omega arith) (search rules) in
    rw same refl

pub returns-in-trace : goal.returns-in-trace
unfolding plain_of_word
returns-in-trace c =
    let same : c.args.word.now ≡ codes "trace" = text_from_reads c.args.word.now (codes "trace") (omega arith) (search rules) in
    rw same refl

pub returns-in-break : goal.returns-in-break
unfolding plain_of_word
returns-in-break c =
    let same : c.args.word.now ≡ codes "break" = text_from_reads c.args.word.now (codes "break") (omega arith) (search rules) in
    rw same refl

pub returns-in-unbreak : goal.returns-in-unbreak
unfolding plain_of_word
returns-in-unbreak c =
    let same : c.args.word.now ≡ codes "unbreak" = text_from_reads c.args.word.now (codes "unbreak") (omega arith) (search rules) in
    rw same refl

pub returns-in-list : goal.returns-in-list
unfolding plain_of_word
returns-in-list c =
    let same : c.args.word.now ≡ codes "list" = text_from_reads c.args.word.now (codes "list") (omega arith) (search rules) in
    rw same refl

pub returns-in-show : goal.returns-in-show
unfolding plain_of_word
returns-in-show c =
    let same : c.args.word.now ≡ codes "show" = text_from_reads c.args.word.now (codes "show") (omega arith) (search rules) in
    rw same refl

pub returns-in-key : goal.returns-in-key
unfolding plain_of_word
returns-in-key c =
    let same : c.args.word.now ≡ codes "key" = text_from_reads c.args.word.now (codes "key") (omega arith) (search rules) in
    rw same refl
