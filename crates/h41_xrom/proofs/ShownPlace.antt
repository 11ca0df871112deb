-- Where the shown line is, in the keyboard's terms.
use Rattle.std.proofs.Common.{◌≡◌, ℕ, Bool, true, false, ◌||◌, [], Err, refl, sym, ap, subst, ◌∙◌}
use Rattle.std.specs.Prelude.{◌&&◌}
use Rattle.std.proofs.Math.Bool.{and-false}
use Rattle.h41_positions.specs.FocalState.{Machine}
use Rattle.h41_keys.specs.declared.input.Place.TheVariants as places
use Rattle.h41_pages.specs.PageMap.{PageMap}
use Rattle.h41_positions.specs.declared.position.Position.{Position}
use Rattle.h41_positions.specs.declared.position.Position.TheVariants.{Page}
use Rattle.h41_program.specs.declared.refusal.ProgramRefusal.TheVariants.{BrokenProgram}
use Rattle.h41_ram.specs.RegisterMap.{RegisterMap, is_sound}
use Rattle.h41_xrom.specs.KeyActions.{IsPlace}
use Rattle.h41_xrom.specs.private.PrivateCalls.{IsFinalAt, PutsEnd}

-- The shown line is in a page.
pub place_there : (pages : PageMap) (from machine : Machine) (address : ℕ) (final kept puts : Bool) → from ≡ machine
    → from.focal.position ≡ Page address → IsFinalAt pages from.memory address final → kept ≡ (from.focal.at_line_00 || final)
    → PutsEnd from.memory puts → IsPlace pages machine machine.focal.position (places.Page kept puts)
place_there pages from machine address final kept puts same is finals keeps ends =
    let (first, stands, final_is) = finals in
    let (last, answers, puts_is) = ends in
    let kept_is = keeps ∙ ap (λ (of : Bool). from.focal.at_line_00 || of) final_is in
    let there : IsPlace pages from from.focal.position (places.Page kept puts) =
    subst (λ (at : Position). IsPlace pages from at (places.Page kept puts)) (sym is)
    (first, last, stands, answers, (λ i. places.Page (kept_is i) (puts_is i))) in
    subst (λ (of : Machine). IsPlace pages of of.focal.position (places.Page kept puts)) same there

-- BACK changes nothing, at line 00 or because of the line.
pub kept_at : (at_line_00 final kept : Bool) → kept ≡ at_line_00 → at_line_00 ≡ true → kept ≡ (at_line_00 || final)
kept_at at_line_00 final kept is on = is ∙ on ∙ ap (λ (of : Bool). of || final) (sym on)

pub kept_by : (at_line_00 final kept : Bool) → kept ≡ final → at_line_00 ≡ false → kept ≡ (at_line_00 || final)
kept_by at_line_00 final kept is off = is ∙ ap (λ (of : Bool). of || final) (sym off)

-- If there is no line at the address, there is no .END.
pub final_of_none : (memory : RegisterMap) → false ≡ (is_sound memory && false)
final_of_none memory = sym (and-false (is_sound memory))

-- In sound memory the answer depends on the line; memory that is not sound has no lines.
pub final_of_sound : (memory : RegisterMap) (final of : Bool) → is_sound memory ≡ true → final ≡ of → final ≡ (is_sound memory && of)
final_of_sound memory final of sound is = is ∙ ap (λ (lines : Bool). lines && of) (sym sound)

pub final_of_lost : (memory : RegisterMap) (final of : Bool) → is_sound memory ≡ false → final ≡ false → final ≡ (is_sound memory && of)
final_of_lost memory final of lost is = is ∙ ap (λ (lines : Bool). lines && of) (sym lost)

-- Memory that is not sound has no last program.
pub lost_puts_none : (memory : RegisterMap) → is_sound memory ≡ false → PutsEnd memory false
lost_puts_none memory lost =
    (Err BrokenProgram, ([], record { sound = λ sound. absurd (let no : ⊥ = cc in no); lost = λ is. refl }, refl), refl)
