use Rattle.std.proofs.Common.{◌≡◌, ◌≢◌, ◌++◌, ap, sym, ◌∙◌, List, ℕ}
use Rattle.std.specs.Prelude.{slice_index}
use Rattle.h41_decimal.specs.Holding.{after_nulls, text_in}
use Rattle.h41_ram.specs.RegisterMap.{alpha_of, register_at, with_alpha}
use Rattle.h41_rows.specs.RowEffects.{last_24}
use Rattle.h41_rows.proofs.Recalled.{recall_text-bytes, recall_text-shown}
use Rattle.h41_show.specs.DisplayFormat.{format_of}
use Rattle.h41_show.specs.RegisterText.{register_text}
use Rattle.h41_rows.proofs.alpha.append_register.Goals as goal

pub returns-then-get-eq-ALPHA_DATA-clause-change : goal.returns-then-get-eq-ALPHA_DATA-clause-change
returns-then-get-eq-ALPHA_DATA-clause-change g c =
    let memory = c.args.ram.now.registers in
    let register = register_at memory c.args.address in
    let place : slice_index register 13 ≡ 1 =
    ap (λ (r : List ℕ). slice_index r 13) (sym c.read-register.ensures) ∙ sym c.get.ensures.digit ∙ c.if-get-eq-ALPHA_DATA.true in
    c.append_text.ensures.change c.args.address
    ∙ ap (λ (text : List ℕ). with_alpha memory (last_24 (alpha_of memory ++ text)))
    (c.after_nulls.ensures.bytes ∙ ap after_nulls c.alpha_data.ensures ∙ ap text_in c.read-register.ensures
    ∙ sym (recall_text-bytes (format_of memory) register place))

pub returns-else-get-eq-ALPHA_DATA-clause-change : goal.returns-else-get-eq-ALPHA_DATA-clause-change
returns-else-get-eq-ALPHA_DATA-clause-change g c =
    let memory = c.args.ram.now.registers in
    let register = register_at memory c.args.address in
    let place : slice_index register 13 ≢ 1 =
    λ same. c.if-get-eq-ALPHA_DATA.false (c.get.ensures.digit ∙ ap (λ (r : List ℕ). slice_index r 13) c.read-register.ensures ∙ same) in
    c.append_text-else-get-eq-ALPHA_DATA.ensures.change c.args.address
    ∙ ap (λ (text : List ℕ). with_alpha memory (last_24 (alpha_of memory ++ text)))
    (c.as_bytes.ensures.value ∙ c.as_str.ensures.value ∙ c.register_text-text.ensures
    ∙ ap (λ f. register_text f c.read-register.result) c.from_flags.ensures
    ∙ ap (register_text (format_of memory)) c.read-register.ensures
    ∙ recall_text-shown (format_of memory) register place)
