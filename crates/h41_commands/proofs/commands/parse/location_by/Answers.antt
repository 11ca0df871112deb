use Rattle.std.proofs.Common.{◌≡◌, codes, arith, rules}
use Rattle.std.proofs.lemmas.Slice.Eq.{text_from_reads}
use Rattle.h41_commands.proofs.commands.parse.location_by.Goals as goal

pub returns-in_ok-hexadecimal-in-w : goal.returns-in_ok-hexadecimal-in-w
returns-in_ok-hexadecimal-in-w c =
    let same : c.args.kind.now ≡ codes "w" = text_from_reads c.args.kind.now (codes "w") (omega arith) (search rules) in
    rw same (search rules)

pub returns-in_err-hexadecimal-in-w : goal.returns-in_err-hexadecimal-in-w
returns-in_err-hexadecimal-in-w c =
    let same : c.args.kind.now ≡ codes "w" = text_from_reads c.args.kind.now (codes "w") (omega arith) (search rules) in
    rw same (search rules)

pub returns-in_ok-byte-in-l : goal.returns-in_ok-byte-in-l
returns-in_ok-byte-in-l c =
    let same : c.args.kind.now ≡ codes "l" = text_from_reads c.args.kind.now (codes "l") (omega arith) (search rules) in
    rw same (search rules)

pub returns-in_err-byte-in-l : goal.returns-in_err-byte-in-l
returns-in_err-byte-in-l c =
    let same : c.args.kind.now ≡ codes "l" = text_from_reads c.args.kind.now (codes "l") (omega arith) (search rules) in
    rw same (search rules)

pub returns-in_ok-address-in-p : goal.returns-in_ok-address-in-p
returns-in_ok-address-in-p c =
    let same : c.args.kind.now ≡ codes "p" = text_from_reads c.args.kind.now (codes "p") (omega arith) (search rules) in
    rw same (search rules)

pub returns-in_err-address-in-p : goal.returns-in_err-address-in-p
returns-in_err-address-in-p c =
    let same : c.args.kind.now ≡ codes "p" = text_from_reads c.args.kind.now (codes "p") (omega arith) (search rules) in
    rw same (search rules)
