use Rattle.std.proofs.Common.{◌≡◌, ◌∙◌, ap, subst, sym, Bool, true, List, ℕ}
use Rattle.std.specs.Prelude.{MatchBool}
use Rattle.h41_positions.specs.FocalState.{Machine}
use Rattle.h41_keys.specs.declared.input.Input.{Input}
use Rattle.h41_pages.specs.PageMap.{PageMap}
use Rattle.h41_xrom.specs.Calculator.{CalculatorState, machine_of}
use Rattle.h41_xrom.specs.Display.{ShowsEntry, ShowsShownLine, entry_text}
use Rattle.h41_xrom.proofs.calculator.Calculator.shown_entry.Goals as goal

-- Program mode is on.
shows : (s : CalculatorState) (input : Input) (pages : PageMap) (machine : Machine) (text : List ℕ) → input ≡ s.input
    → input.program_mode ≡ true → pages ≡ s.nut.pages → machine ≡ machine_of s → ShowsShownLine pages machine input.entry text
    → ShowsEntry s text
shows s input pages machine text is on own same shown =
    let mode : s.input.program_mode ≡ true = sym (ap (λ (i : Input). i.program_mode) is) ∙ on in
    subst
    (λ (b : Bool). MatchBool b (ShowsShownLine s.nut.pages (machine_of s) s.input.entry text) (text ≡ entry_text s.nut.ram s.input.entry))
    (sym mode)
    (subst (λ (i : Input). ShowsShownLine s.nut.pages (machine_of s) i.entry text) is
    (subst (λ (p : PageMap). ShowsShownLine p (machine_of s) input.entry text) own
    (subst (λ (m : Machine). ShowsShownLine pages m input.entry text) same shown)))

pub returns-then-input : goal.returns-then-input
returns-then-input g c =
    shows c.args.self.now.state _ _ _ _ c.input-input.ensures c.if-input.true c.pages.ensures c.machine.ensures.machine c.shown_line.ensures
