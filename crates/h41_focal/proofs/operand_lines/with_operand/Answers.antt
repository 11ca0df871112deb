use Rattle.std.proofs.Common.{◌≡◌, false, sym, Ok, ◌∙◌}
use Rattle.h41_focal.proofs.LinesTaken.{digits_taken, flag_taken, label_taken, register_taken}
use Rattle.h41_rows.specs.Profile.{is_use_left_out}
use Rattle.h41_focal.proofs.operand_lines.with_operand.Goals as goal

pub returns-in-Register : goal.returns-in-Register
returns-in-Register g c =
    let held : is_use_left_out c.args.function c.args.operand ≡ false =
    sym c.is_left_out.ensures ∙ c.if-is_left_out.false in
    let taken = c.use_of.ensures in
    let row = rw c.in-Register.is at taken in
    record {
      taken =
          register_taken c.args.pages.now c.args.origin c.args.function c.args.operand c.in-Register.taken _ _ _ held row.0 row.1
          c.with_register.ensures.used;
      unchanged = c.with_register.ensures.unchanged;
      keeps = c.with_register.ensures.keeps;
    }

pub returns-in-Digits : goal.returns-in-Digits
returns-in-Digits g c =
    let held : is_use_left_out c.args.function c.args.operand ≡ false =
    sym c.is_left_out.ensures ∙ c.if-is_left_out.false in
    let taken = c.use_of.ensures in
    let row = rw c.in-Digits.is at taken in
    record {
      taken =
          digits_taken c.args.pages.now c.args.origin c.args.function c.args.operand c.in-Digits.taken _ _ _ held row.0 row.1
          (c.digits_line.ensures.used c.args.pages.now);
      unchanged = c.digits_line.ensures.unchanged;
      keeps = c.digits_line.ensures.keeps;
    }

pub returns-in-Flag : goal.returns-in-Flag
returns-in-Flag g c =
    let held : is_use_left_out c.args.function c.args.operand ≡ false =
    sym c.is_left_out.ensures ∙ c.if-is_left_out.false in
    let taken = c.use_of.ensures in
    let row = rw c.in-Flag.is at taken in
    record {
      taken =
          flag_taken c.args.pages.now c.args.origin c.args.function c.args.operand c.in-Flag.taken _ _ _ held row.0 row.1
          c.flag_line.ensures.used;
      unchanged = c.flag_line.ensures.unchanged;
      keeps = c.flag_line.ensures.keeps;
    }

pub returns-in-Label : goal.returns-in-Label
returns-in-Label g c =
    let held : is_use_left_out c.args.function c.args.operand ≡ false =
    sym c.is_left_out.ensures ∙ c.if-is_left_out.false in
    let taken = c.use_of.ensures in
    let row = rw c.in-Label.is at taken in
    record {
      taken =
          label_taken c.args.pages.now c.args.origin c.args.function c.args.operand _ _ (Ok c.be_silent.result) held row.0 row.1
          (c.be_silent.ensures.done 0 c.args.pages.now);
      unchanged = tt;
      keeps = c.be_silent.ensures.keeps;
    }
