use Rattle.std.proofs.Common.{◌≡◌, ◌<◌, ℕ, sym, ◌∙◌, subst, slice_index}
use Rattle.h41_asm.specs.private.Openings.{hash_of, place_count}
use Rattle.h41_asm.proofs.Openings.{found_at, missed_at, words_at}
use Rattle.h41_asm.proofs.opening.opening_among.Goals as goal

pub returns-then-eq-clause-value : goal.returns-then-eq-clause-value
returns-then-eq-clause-value c =
    let here : c.from.result ≡ slice_index c.args.places.now (hash_of c.args.first.now) = cc (c.from.ensures, c.hash_of.ensures.value) in
    let near = subst (λ (n : ℕ). n < place_count) c.hash_of.ensures.value c.hash_of.ensures.bound in
    let same = rw c.as_bytes.ensures.value at (sym c.eq.ensures ∙ c.if-eq.true) in
    found_at c.args.openings.now c.args.places.now c.args.first.now c.from.result _ c.requires near here same

pub returns-then-eq-clause-words : goal.returns-then-eq-clause-words
returns-then-eq-clause-words c =
    let here : c.from.result ≡ slice_index c.args.places.now (hash_of c.args.first.now) = cc (c.from.ensures, c.hash_of.ensures.value) in
    let near = subst (λ (n : ℕ). n < place_count) c.hash_of.ensures.value c.hash_of.ensures.bound in
    words_at c.args.openings.now c.args.places.now c.args.first.now c.from.result _ c.requires near here

pub returns-else-eq-clause-value : goal.returns-else-eq-clause-value
returns-else-eq-clause-value c =
    let here : c.from.result ≡ slice_index c.args.places.now (hash_of c.args.first.now) = cc (c.from.ensures, c.hash_of.ensures.value) in
    let near = subst (λ (n : ℕ). n < place_count) c.hash_of.ensures.value c.hash_of.ensures.bound in
    let differs = rw c.as_bytes.ensures.value at (sym c.eq.ensures ∙ c.if-eq.false) in
    missed_at c.args.openings.now c.args.places.now c.args.first.now c.from.result _ c.requires near here differs
