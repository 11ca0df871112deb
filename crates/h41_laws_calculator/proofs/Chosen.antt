-- Answers that exist, by a test or without one.
use Rattle.std.proofs.Common.{◌≡◌, Bool, true, false, MatchBool, refl, ap, ◌∙◌}
use Rattle.h41_laws_words.specs.HasOne.{HasOne}
use Rattle.h41_laws_words.proofs.Answering.{Has}

pub right_answer : {A : Type 0} {IsRight : A → Type 0} (answer : A) → IsRight answer → Has IsRight
right_answer answer right = record { answer = answer; right = right }

pub one_there : {A : Type 0} {IsRight : A → Type 0} → HasOne IsRight → Has IsRight
one_there found = record { answer = found.answer; right = found.right }

pub alone : {A : Type 0} (other : A) → Has (λ answer. answer ≡ other)
alone other = record { answer = other; right = refl }

pub either : {A : Type 0} (t : Bool) (Then Else : A → Type 0) → Has Then → Has Else
    → Has (λ answer. MatchBool t (Then answer) (Else answer))
either true Then Else first second = first
either false Then Else first second = second

-- An answer that depends on another one.
pub through : {A B : Type 0} {IsFirst : A → Type 0} {Follows : A → B → Type 0} → Has IsFirst
    → ((first : A) → IsFirst first → Has (Follows first)) → Has (λ answer. (first : A) × IsFirst first × Follows first answer)
through first follows =
    let found = follows first.answer first.right in record { answer = found.answer; right = (first.answer, first.right, found.right) }

-- An answer that is made of another one.
pub made_of : {A B : Type 0} {IsFirst : A → Type 0} (made : A → B) → Has IsFirst
    → Has (λ answer. (first : A) × IsFirst first × (answer ≡ made first))
made_of made first = record { answer = made first.answer; right = (first.answer, first.right, refl) }

-- An answer that is made of the only other one.
pub one_made : {A B : Type 0} {IsRight : A → Type 0} (made : A → B) → HasOne IsRight
    → HasOne (λ answer. (of : A) × IsRight of × (answer ≡ made of))
one_made made found = record {
  answer = made found.answer;
  right = (found.answer, found.right, refl);
  only = λ other is. is.2 ∙ ap made (found.only is.0 is.1);
}

-- Pairs with the same parts, and a pair that is the only right one.
abbrev pair : {A B : Type 0} → A → B → A × B
pair a b = (a, b)

pub same_pair : {A B : Type 0} (x y : A × B) → x.0 ≡ y.0 → x.1 ≡ y.1 → x ≡ y
same_pair {A} {B} x y p q = ap (λ (a : A). pair a x.1) p ∙ ap (λ (b : B). pair y.0 b) q

pub one_pair : {A B : Type 0} (IsRight : A × B → Type 0) (answer : A × B) → IsRight answer
    → ((other : A × B) → IsRight other → (other.0 ≡ answer.0) × (other.1 ≡ answer.1)) → HasOne IsRight
one_pair IsRight answer right same =
    record { answer = answer; right = right; only = λ other again. let both = same other again in same_pair other answer both.0 both.1 }
