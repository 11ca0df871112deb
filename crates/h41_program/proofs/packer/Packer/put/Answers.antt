use Rattle.std.proofs.Common.{subst}
use Rattle.h41_program.specs.private.Packers.{Pushes, null_between}
use Rattle.h41_program.proofs.Packings.{puts}
use Rattle.h41_program.proofs.packer.Packer.put.Goals as goal

pub returns : goal.returns
returns c lines packs =
    puts c.args.self.now c.part.new.self c.push_line.new.self c.args.line lines packs
    (subst (λ number. Pushes c.args.self.now c.part.new.self (null_between number c.args.self.now.last)) c.is_number.ensures c.part.ensures)
    c.push_line.ensures
