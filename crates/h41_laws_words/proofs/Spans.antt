-- The places of a field are places of a register.
use Rattle.std.proofs.Common.{ℕ, ◌<◌, filter, nat_lt, refl, arith}
use Rattle.std.proofs.lemmas.Bool.{ltb-true}
use Rattle.std.proofs.lemmas.List.Elements.{All-filter}
use Rattle.std.proofs.lemmas.List.Sums.{AllPass-from_list_all}
use Rattle.h41_fields.specs.Field.{is_place, last_place, places, register_places}
use Rattle.h41_fields.specs.declared.field.Field.{Field}
use Rattle.h41_fields.specs.declared.field.Pointer.{Pointer}
use Rattle.h41_laws_words.proofs.Registers.{below_at}

pub last_inside : (field : Field) (p q : ℕ) (active : Pointer) → last_place field p q active < 14
unfolding last_place places register_places
last_inside field p q active =
    below_at 14 (filter (is_place field p q active) register_places) _ (omega arith)
    (All-filter (is_place field p q active) (λ place. place < 14) register_places
    (λ k d within. ltb-true _ 14 (AllPass-from_list_all (λ place. nat_lt place 14) register_places refl k d within)))
