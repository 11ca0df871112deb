-- The machine after a line, compared with memory and cached answers before the line began.
use Rattle.std.proofs.Common.{◌≡◌, false, Ok, Err, Result, OnErr, ap, subst, sym, ◌∙◌}
use Rattle.h41_codes.specs.declared.line.Line.{Line}
use Rattle.h41_focal.specs.LabelSearches.{StepKeeps}
use Rattle.h41_focal.specs.LineStep.{Stands}
use Rattle.h41_focal.specs.declared.origin.Origin.TheVariants.{Program}
use Rattle.h41_focal.specs.declared.refusal.FocalRefusal.{FocalRefusal}
use Rattle.h41_focal.specs.private.Searching.{AsksOf}
use Rattle.h41_pages.specs.PageMap.{PageMap}
use Rattle.h41_positions.specs.FocalState.{Machine}
use Rattle.h41_positions.specs.LabelledMachine.{LabelledMachine, begun_ram, machine_of, with_line_begun}
use Rattle.h41_positions.specs.declared.position.Position.{Position}
use Rattle.h41_ram.proofs.Marks.{stays}
use Rattle.h41_ram.specs.RamState.{KeepsMark, RamState}

-- No line can be read at the position.
pub record Refuses (pages : PageMap) (old new : LabelledMachine) : Type 0 where
  pub unchanged : machine_of new ≡ machine_of old
  pub kept : StepKeeps pages old new
  pub mark : KeepsMark (begun_ram old.ram) new.ram
  pub clear : new.ram.touched ≡ false

pub refuses : (pages : PageMap) (old begun : LabelledMachine) (refusal : FocalRefusal)
    → begun ≡ with_line_begun old → Stands pages (machine_of begun) (Err refusal) → Refuses pages old begun
refuses pages old begun refusal is stands =
    record {
      unchanged = ap machine_of is;
      kept = (
        Err refusal,
        subst (λ (machine : Machine). Stands pages machine (Err refusal)) (ap machine_of is) stands,
        ap (λ (labelled : LabelledMachine). labelled.focal.labels) is,
      );
      mark =
          subst (λ (ram : RamState). KeepsMark (begun_ram old.ram) ram) (sym (ap (λ (labelled : LabelledMachine). labelled.ram) is))
          (stays (begun_ram old.ram));
      clear = ap (λ (labelled : LabelledMachine). labelled.ram.touched) is;
    }

-- A line can be read at the position.
pub record Takes {A : Type 0} (pages : PageMap) (old new : LabelledMachine) (result : Result A FocalRefusal)
    : Type 0 where
  pub unchanged : OnErr result (machine_of new ≡ machine_of old)
  pub kept : StepKeeps pages old new
  pub mark : KeepsMark (begun_ram old.ram) new.ram
  pub clear : new.ram.touched ≡ false

pub takes : {A : Type 0} (pages : PageMap) (old begun new : LabelledMachine) (line : Line) (next : Position)
    (result : Result A FocalRefusal)
    → begun ≡ with_line_begun old → Stands pages (machine_of begun) (Ok (line, next)) → OnErr result (machine_of new ≡ machine_of begun)
    → AsksOf (Program next) line begun new → Takes pages old new result
takes pages old begun new line next result is stands unchanged kept =
    record {
      unchanged = still result unchanged;
      kept = (
        Ok (line, next),
        subst (λ (machine : Machine). Stands pages machine (Ok (line, next))) (ap machine_of is) stands,
        (subst (λ (labelled : LabelledMachine). AsksOf (Program next) line labelled new) is kept).asks,
      );
      mark = subst (λ (labelled : LabelledMachine). KeepsMark labelled.ram new.ram) is kept.mark;
      clear = kept.left stands.0 ∙ ap (λ (labelled : LabelledMachine). labelled.ram.touched) is;
    }
  where
    still : {B : Type 0} (result : Result B FocalRefusal) → OnErr result (machine_of new ≡ machine_of begun)
        → OnErr result (machine_of new ≡ machine_of old)
    still (Ok value) same = tt
    still (Err refusal) same = same ∙ ap machine_of is

-- A machine that is unchanged with its cached answers.
pub same_machine : {A : Type 0} (old new : LabelledMachine) (result : Result A FocalRefusal)
    → OnErr result (new ≡ old) → OnErr result (machine_of new ≡ machine_of old)
same_machine old new (Ok value) same = tt
same_machine old new (Err refusal) same = ap machine_of same
