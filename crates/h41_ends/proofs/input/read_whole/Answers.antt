use Rattle.std.proofs.Common.{ℕ, ◌-◌, List, ◌++◌, drop, ap, ◌∙◌, arith, length-take}
use Rattle.std.proofs.lemmas.List.{take-append-le}
use Rattle.h41_ends.proofs.Reading.{input_front}
use Rattle.h41_ends.proofs.input.read_whole.Goals as goal

pub returns-then-count-eq0-clause-bytes : goal.returns-then-count-eq0-clause-bytes
returns-then-count-eq0-clause-bytes g c =
    input_front (g.R.Source.remaining c.args.reader.now) (g.R.Source.remaining c.loop-count.reader) (g.R.Source.remaining c.read.new.self)
    c.loop-count.bytes.items c.read.new.buffer c.extend_from_slice.new.self.items
    67108864 c.in-Ok.count (67108864 - c.len-room.result) c.min.result
    c.loop-count.invariant.2 (c.in-Ok.ensures).bytes.0 (c.in-Ok.ensures).bytes.1 (omega (
      arith,
      length-take c.min-most.result c.loop-count.block,
      c.min-most.ensures,
      c.read.auto.buffer,
    )) (c.in-Ok.ensures).bound.0
    (omega (arith, c.loop-count.bytes.ok.0, c.loop-count.invariant.0))
    (omega (arith, c.loop-count.bytes.ok.0, c.len-room.ensures)) c.min.ensures
    ((c.in_ok-extend_from_slice.ensures).items
    ∙ ap (λ (piece : List ℕ). c.loop-count.bytes.items ++ piece)
    (take-append-le c.min.result c.read.new.buffer (drop c.min-most.result c.loop-count.block)
    (omega (arith, c.min.ensures, (c.in-Ok.ensures).bound.0)))) c.then-count-eq0.either
