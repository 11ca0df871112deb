use Rattle.std.proofs.Common.{false, rules}
use Rattle.std.specs.Result.{result_err}
use Rattle.h41_xrom.proofs.KeysKept.{known_kept, unknown_kept}
use Rattle.h41_xrom.proofs.Pressing.{key_known, key_quiet, key_unknown}
use Rattle.h41_xrom.proofs.LabelsKept.{state_is}
use Rattle.h41_xrom.proofs.calculator.Calculator.key.Goals as goal

pub accept-requires : goal.accept-requires
accept-requires g c = (
  search rules,
  (
    (c.in-Ok.ensures).stored,
    key_quiet _ c.args.self.now.state c.args.key c.waits.result c.key_flags.result c.in-Ok.action _ c.waits.ensures
        (c.in-Ok.ensures).accepted,
  ),
)

pub returns-in-Ok-clause-key : goal.returns-in-Ok-clause-key
returns-in-Ok-clause-key g c =
    key_known _ c.args.self.now.state c.accept.new.self.state c.args.key c.waits.result c.key_flags.result
    c.in-Ok.action _ (result_err c.accept.result) (state_is c.self.view_is) c.waits.ensures
    c.key_flags.ensures (c.in-Ok.ensures).accepted c.accept.ensures.key

pub returns-in-Ok-clause-kept : goal.returns-in-Ok-clause-kept
returns-in-Ok-clause-kept g c =
    known_kept _ _ c.args.self.now c.accept.new.self c.args.key c.waits.result c.key_flags.result c.in-Ok.action _
    c.self.view_is c.waits.ensures c.key_flags.ensures (c.in-Ok.ensures).accepted c.accept.ensures.kept

pub returns-in-Err-clause-key : goal.returns-in-Err-clause-key
returns-in-Err-clause-key g c =
    key_unknown _ c.args.self.now.state c.args.key c.waits.result c.key_flags.result c.into.result
    (state_is c.self.view_is) c.waits.ensures c.key_flags.ensures (c.in-Err.ensures).refused
    c.into.ensures

pub returns-in-Err-clause-kept : goal.returns-in-Err-clause-kept
returns-in-Err-clause-kept g c =
    unknown_kept false _ c.args.self.now c.args.key c.waits.result c.key_flags.result c.self.view_is
    c.waits.ensures c.key_flags.ensures (c.in-Err.ensures).refused
