use Rattle.std.proofs.Common.{refl, arith}
use Rattle.h41_codes.proofs.Beginnings.{begins_label}
use Rattle.h41_codes.proofs.Broken.{broken_at}
use Rattle.h41_codes.proofs.decoder.linked.Goals as goal
use Rattle.h41_codes.proofs.decoder.linked.Goals.{then-end-lt4-via-then-end-lt4, then-end-lt4-via-else-end-lt4+then-end-bytes}

pub returns-then-bytes-lt3-clause-broken : goal.returns-then-bytes-lt3-clause-broken
returns-then-bytes-lt3-clause-broken c =
    broken_at 12 0xC0 0xCE c.args.bytes.now refl c.requires.first.0 c.requires.first.1 (λ fits. omega (arith, fits.0))

pub returns-then-end-lt4-clause-broken : goal.returns-then-end-lt4-clause-broken
returns-then-end-lt4-clause-broken c =
    broken_at 12 0xC0 0xCE c.args.bytes.now refl c.requires.first.0 c.requires.first.1
    (λ fits.
    let label = fits.1 (omega arith) in
    elim c.then-end-lt4.branch [
      | then-end-lt4-via-then-end-lt4 w ↦ omega (arith, label.0)
      | then-end-lt4-via-else-end-lt4+then-end-bytes w ↦ omega (arith, label.1)
    ])

pub returns-clause-line : goal.returns-clause-line
returns-clause-line c =
    let bytes = c.args.bytes.now in
    begins_label bytes c.new-link.result c.from-end.result c.of-name.result
    c.requires.first.0 c.requires.first.1 (omega (arith, c.type_inv.bytes 1))
    (omega (arith, c.new-link.ensures, c.from.ensures, c.from-2.ensures)) c.if-third-lt240.false (omega (arith, c.type_inv.bytes 2))
    (omega (arith, c.type_inv.bytes 3)) c.from-end.ensures c.if-end-lt4.false
    c.if-end-bytes.false c.of-name.ensures.value c.of-name.ensures.bytes
