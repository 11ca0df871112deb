use Rattle.std.proofs.Common.{◌≡◌, codes, arith, refl, rules}
use Rattle.std.proofs.lemmas.Slice.Eq.{text_from_reads}
use Rattle.h41_commands.specs.Commands.{kind_of_word}
use Rattle.h41_commands.proofs.commands.BlockKind.of_word.Goals as goal

pub returns-in-words : goal.returns-in-words
unfolding kind_of_word
returns-in-words c =
    let same : c.args.word.now ≡ codes "words" = text_from_reads c.args.word.now (codes "words") (omega arith) (search rules) in
    rw same refl

pub returns-in-image : goal.returns-in-image
unfolding kind_of_word
returns-in-image c =
    let same : c.args.word.now ≡ codes "image" = text_from_reads c.args.word.now (codes "image") (omega arith) (search rules) in
    rw same refl

pub returns-in-asm : goal.returns-in-asm
unfolding kind_of_word
returns-in-asm c =
    let same : c.args.word.now ≡ codes "asm" = text_from_reads c.args.word.now (codes "asm") (omega arith) (search rules) in
    rw same refl

pub returns-in-load : goal.returns-in-load
unfolding kind_of_word
returns-in-load c =
    let same : c.args.word.now ≡ codes "load" = text_from_reads c.args.word.now (codes "load") (omega arith) (search rules) in
    rw same refl

pub returns-in-program : goal.returns-in-program
unfolding kind_of_word
returns-in-program c =
    let same : c.args.word.now ≡ codes "program" = text_from_reads c.args.word.now (codes "program") (omega arith) (search rules) in
    rw same refl
