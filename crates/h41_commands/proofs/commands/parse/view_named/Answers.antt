use Rattle.std.proofs.Common.{◌≡◌, codes, arith, refl, rules}
use Rattle.std.proofs.lemmas.Slice.Eq.{text_from_reads}
use Rattle.h41_commands.specs.Commands.{view_named}
use Rattle.h41_commands.proofs.commands.parse.view_named.Goals as goal

pub returns-in-cpu : goal.returns-in-cpu
unfolding view_named
returns-in-cpu c =
    let same : c.args.what.now ≡ codes "cpu" = text_from_reads c.args.what.now (codes "cpu") (omega arith) (search rules) in
    rw same refl

pub returns-in-stack : goal.returns-in-stack
unfolding view_named
returns-in-stack c =
    let same : c.args.what.now ≡ codes "stack" = text_from_reads c.args.what.now (codes "stack") (omega arith) (search rules) in
    rw same refl

pub returns-in-flags : goal.returns-in-flags
unfolding view_named
returns-in-flags c =
    let same : c.args.what.now ≡ codes "flags" = text_from_reads c.args.what.now (codes "flags") (omega arith) (search rules) in
    rw same refl

pub returns-in-alpha : goal.returns-in-alpha
unfolding view_named
returns-in-alpha c =
    let same : c.args.what.now ≡ codes "alpha" = text_from_reads c.args.what.now (codes "alpha") (omega arith) (search rules) in
    rw same refl

pub returns-in-display : goal.returns-in-display
unfolding view_named
returns-in-display c =
    let same : c.args.what.now ≡ codes "display" = text_from_reads c.args.what.now (codes "display") (omega arith) (search rules) in
    rw same refl

pub returns-in-pos : goal.returns-in-pos
unfolding view_named
returns-in-pos c =
    let same : c.args.what.now ≡ codes "pos" = text_from_reads c.args.what.now (codes "pos") (omega arith) (search rules) in
    rw same refl

pub returns-in-lines : goal.returns-in-lines
unfolding view_named
returns-in-lines c =
    let same : c.args.what.now ≡ codes "lines" = text_from_reads c.args.what.now (codes "lines") (omega arith) (search rules) in
    rw same refl

pub returns-in-functions : goal.returns-in-functions
unfolding view_named
returns-in-functions c =
    let same : c.args.what.now ≡ codes "functions" = text_from_reads c.args.what.now (codes "functions") (omega arith) (search rules) in
    rw same refl
