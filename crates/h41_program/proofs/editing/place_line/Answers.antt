use Rattle.std.proofs.Common.{sym, ◌∙◌, ap}
use Rattle.h41_program.specs.declared.editing.Change.TheVariants.{Put}
use Rattle.h41_program.specs.private.EditSteps.{lines_of_change, listed_of}
use Rattle.h41_program.proofs.EditAnswers.{leaves_new, put_there, some_found, stands_new, stands_there}
use Rattle.h41_program.proofs.Inner.{inner_line}
use Rattle.h41_program.proofs.editing.place_line.Goals as goal

pub unwrap-new-requires : goal.unwrap-new-requires
unwrap-new-requires g c =
    let puts = put_there c.args.line c.args.placement (inner_line c.args.line c.requires.inner c.know_ranges.ensures) in
    let left =
    leaves_new c.byte_round_trip.ensures.again c.byte_round_trip.ensures.one c.args.ram.now.registers
    c.change_at.new.ram.registers (lines_of_change (Put c.args.line c.args.placement)) c.args.at
    c.in_ok-count.count c.args.line c.requires.sound puts c.in_ok-count.ensures.lines c.in_ok-count.ensures.count in
    some_found c.line_behind.result left.has.there (c.line_behind.ensures.line left.leaves.listed left.leaves.read ∙ left.has.got)

pub returns-clause-read : goal.returns-clause-read
returns-clause-read g c =
    let puts = put_there c.args.line c.args.placement (inner_line c.args.line c.requires.inner c.know_ranges.ensures) in
    let left =
    leaves_new c.byte_round_trip.ensures.again c.byte_round_trip.ensures.one c.args.ram.now.registers
    c.change_at.new.ram.registers (lines_of_change (Put c.args.line c.args.placement)) c.args.at
    c.in_ok-count.count c.args.line c.requires.sound puts c.in_ok-count.ensures.lines c.in_ok-count.ensures.count in
    left.leaves

pub returns-clause-answer : goal.returns-clause-answer
returns-clause-answer g c =
    let leaves = returns-clause-read g c in
    stands_new c.args.ram.now.registers c.change_at.new.ram.registers c.args.at c.in_ok-count.count
    c.in_ok-count.ensures.count leaves.listed leaves.read c.unwrap-new.result.listed
    (sym (ap listed_of c.unwrap-new.ensures) ∙ c.line_behind.ensures.line leaves.listed leaves.read)

pub returns-clause-stands : goal.returns-clause-stands
returns-clause-stands g c =
    let puts = put_there c.args.line c.args.placement (inner_line c.args.line c.requires.inner c.know_ranges.ensures) in
    let left =
    leaves_new c.byte_round_trip.ensures.again c.byte_round_trip.ensures.one c.args.ram.now.registers
    c.change_at.new.ram.registers (lines_of_change (Put c.args.line c.args.placement)) c.args.at
    c.in_ok-count.count c.args.line c.requires.sound puts c.in_ok-count.ensures.lines c.in_ok-count.ensures.count in
    stands_there c.byte_round_trip.ensures.again c.byte_round_trip.ensures.one c.args.ram.now.registers
    c.change_at.new.ram.registers (lines_of_change (Put c.args.line c.args.placement)) c.args.at
    c.in_ok-count.count c.args.line c.in_ok-count.ensures.sound left c.unwrap-new.result.listed
    (sym (ap listed_of c.unwrap-new.ensures) ∙ c.line_behind.ensures.line left.leaves.listed left.leaves.read)
