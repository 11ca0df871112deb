-- A block, line by line.
use Rattle.std.proofs.Common.{◌≡◌, ℕ, suc, ◌+◌, Bool, true, false, cond, not, List, [], ◌∷◌, ◌++◌, length, Option, take, drop, refl, sym}
use Rattle.std.proofs.Common.{◌∙◌, ap, arith, subst}
use Rattle.std.specs.List.{list_any, before_first, after_first, position_or_len}
use Rattle.std.proofs.lemmas.Bool.{or_parts, or_left, or_right}
use Rattle.std.proofs.lemmas.Grind.{common_steps}
use Rattle.std.proofs.lemmas.List.Folds.{list_any-append}
use Rattle.h41_commands.specs.declared.commands.BlockKind.{BlockKind}
use Rattle.h41_commands.specs.private.TakenBlocks.{TakenBlock}
use Rattle.h41_commands.specs.private.Entries.{IsTaken}
use Rattle.h41_commands.specs.DeckLines.{is_end}

-- None of the lines inside so far ends the block, the block has taken them, and the rest follows
-- them.
pub record ReadsBlock (kind : Option BlockKind) (inside all rest : List (List ℕ)) (block : TakenBlock) : Type 0 where
  pub parts : all ≡ inside ++ rest
  pub endless : list_any is_end inside ≡ false
  pub taken : IsTaken kind inside block

end_after : (inside rest : List (List ℕ)) (line : List ℕ) → list_any is_end inside ≡ false → is_end line ≡ true
    → position_or_len is_end (inside ++ line ∷ rest) ≡ length inside
end_after [] rest line none e = ap (λ (b : Bool). cond (not b) (1 + position_or_len is_end rest) 0) e
end_after (other ∷ inside) rest line none e =
    let parts = or_parts (is_end other) (list_any is_end inside) none in
    let more : position_or_len is_end (inside ++ line ∷ rest) ≡ length inside = end_after inside rest line parts.1 e in
    ap (λ (b : Bool). cond (not b) (1 + position_or_len is_end (inside ++ line ∷ rest)) 0) parts.0 ∙ omega arith

pub no_end : (lines : List (List ℕ)) → list_any is_end lines ≡ false → position_or_len is_end lines ≡ length lines
no_end [] none = refl
no_end (line ∷ lines) none =
    let parts = or_parts (is_end line) (list_any is_end lines) none in
    let more : position_or_len is_end lines ≡ length lines = no_end lines parts.1 in
    ap (λ (b : Bool). cond (not b) (1 + position_or_len is_end lines) 0) parts.0 ∙ omega arith

front : (inside rest : List (List ℕ)) (n : ℕ) → n ≡ length inside → take n (inside ++ rest) ≡ inside
front inside rest n e = grind (arith, common_steps)

back : (inside rest : List (List ℕ)) (line : List ℕ) (n : ℕ) → n ≡ length inside → drop (n + 1) (inside ++ line ∷ rest) ≡ rest
back [] rest line n e = let z : n + 1 ≡ suc 0 = omega arith in rw z refl
back (other ∷ inside) rest line n e =
    let on : n + 1 ≡ suc (length inside + 1) = omega arith in
    rw on (back inside rest line (length inside) refl)

-- The line that ends the block was read.
pub record EndsBlock (kind : Option BlockKind) (all rest : List (List ℕ)) (block : TakenBlock) : Type 0 where
  pub ended : true ≡ list_any is_end all
  pub taken : IsTaken kind (before_first is_end all) block
  pub rest_is : rest ≡ after_first is_end all

pub ends_block : (kind : Option BlockKind) (line : List ℕ) (inside all rest : List (List ℕ)) (block : TakenBlock)
    → ReadsBlock kind inside all (line ∷ rest) block → is_end line ≡ true → EndsBlock kind all rest block
ends_block kind line inside all rest block h e =
    let at : position_or_len is_end (inside ++ line ∷ rest) ≡ length inside = end_after inside rest line h.endless e in
    let any : list_any is_end (inside ++ line ∷ rest) ≡ true =
    list_any-append is_end inside (line ∷ rest) ∙ or_right _ _ (or_left (is_end line) (list_any is_end rest) e) in
    let before : before_first is_end (inside ++ line ∷ rest) ≡ inside = front inside (line ∷ rest) _ at in
    let lines_are : before_first is_end all ≡ inside = ap (before_first is_end) h.parts ∙ before in
    record {
      ended = sym (ap (list_any is_end) h.parts ∙ any);
      taken = subst (λ lines. IsTaken kind lines block) (sym lines_are) h.taken;
      rest_is = sym (ap (after_first is_end) h.parts ∙ back inside rest line _ at);
    }
