use Rattle.std.proofs.Common.{◌≡◌, ◌↔◌, ◌∙◌, ℕ, List, Ok, ap, sym, subst, drop, take, length, ◌-◌, rules}
use Rattle.std.proofs.lemmas.List.{drop-map, length-drop, take_all}
use Rattle.h41_codes.specs.ByteGrammar.{Begins}
use Rattle.h41_codes.specs.declared.line.Line.{Line}
use Rattle.h41_pages.specs.KeystrokeCode.{code_from}
use Rattle.h41_pages.proofs.Labels.{name_is_read, name_read}
use Rattle.h41_pages.proofs.image.Image.label_name.Goals as goal

code_behind : (words code : List ℕ) (offset : ℕ) → code ≡ code_from words 0
    → take (length code - offset) (drop offset code) ≡ code_from words offset
code_behind words code offset is = search (rules, take_all, length-drop, drop-map)

pub returns-in-Ok : goal.returns-in-Ok
returns-in-Ok c =
    let words = c.args.self.now.words in
    let read = code_behind words c.code.result.now c.args.offset c.code.ensures.code in
    c.name_of.ensures
    ∙ sym (ap name_read c.in-Ok.is)
    ∙ name_is_read (drop c.args.offset words) c.decode.result
    (subst (λ (bytes : List ℕ). (line : Line) (count : ℕ) → (c.decode.result ≡ Ok (line, count)) ↔ Begins bytes line count) read
    c.decode.ensures.line)

pub returns-in-Err : goal.returns-in-Err
returns-in-Err c =
    let words = c.args.self.now.words in
    let read = code_behind words c.code.result.now c.args.offset c.code.ensures.code in
    sym (ap name_read c.in-Err.is)
    ∙ name_is_read (drop c.args.offset words) c.decode.result
    (subst (λ (bytes : List ℕ). (line : Line) (count : ℕ) → (c.decode.result ≡ Ok (line, count)) ↔ Begins bytes line count) read
    c.decode.ensures.line)
