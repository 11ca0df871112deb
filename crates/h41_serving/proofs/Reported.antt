-- What writing a text reports, and what a text after others does.
use Rattle.std.proofs.Common.{◌≡◌, Bool, true, false, List, ℕ, ◌+◌, ◌++◌, length, take, min, Option, Some, None, arith}
use Rattle.std.proofs.Common.{Result, Ok, Err, OnErr, OnOk, ap₂, append_assoc, drop, refl, subst, sym, ◌∙◌}
use Rattle.std.proofs.Math.Seq.{take-add}
use Rattle.std.specs.Prelude.{MatchBool, is_err}
use Rattle.std.proofs.lemmas.Grind.{common_steps}
use Rattle.std.specs.Io.KnownBytes.{Appends}
use Rattle.h41_ends.specs.declared.sink.Sink as sinks
use Rattle.h41_ends.specs.Ends.{Appended}
use Rattle.h41_jobs.specs.Outputs.{AppendsFront}
use Rattle.h41_serving.specs.Causes.{TellsOn}
use Rattle.h41_serving.specs.Tasks.{Tells}

pub written_tells : {T F E : Type 0} (result : Result T F) (stderr : sinks.Ghosts E) (old new : E) (text : List ℕ)
    → OnOk result (Appended stderr.contents old new text) → OnErr result (AppendsFront stderr.contents old new text)
    → OnOk result (stderr.flushed new ≡ true) → stderr.failed new ≡ is_err result → Tells stderr old new text
written_tells (Ok done) stderr old new text whole front flushed mark =
    record { whole = λ is. whole; flushed = λ is. flushed; front = λ is. cc }
written_tells (Err fault) stderr old new text whole front flushed mark =
    record { whole = λ is. cc; flushed = λ is. cc; front = λ is. front }

-- A prefix of a text is a prefix of a longer text.
front_of_more : (n : ℕ) (a b : List ℕ) → take (min n (length a)) (a ++ b) ≡ take n a
front_of_more n a b = grind (arith, common_steps)

front_behind : (n : ℕ) (a b : List ℕ) → take (length a + n) (a ++ b) ≡ a ++ take n b
front_behind n a b =
    let first : take (length a) (a ++ b) ≡ a = grind (arith, common_steps) in
    let rest : drop (length a) (a ++ b) ≡ b = grind (arith, common_steps) in
    take-add (length a) n (a ++ b) ∙ ap₂ (λ (xs ys : List ℕ). xs ++ take n ys) first rest

appends_both : (old mid new : Option (List ℕ)) (a b : List ℕ) → Appends old mid a → Appends mid new b → Appends old new (a ++ b)
appends_both None mid new a b first second = tt
appends_both (Some before) None new a b first second = absurd first
appends_both (Some before) (Some between) None a b first second = absurd second
appends_both (Some before) (Some between) (Some after) a b first second =
    let joined : after ≡ (before ++ a) ++ b = cc in
    joined ∙ append_assoc before a b

module _ {E : Type 0} (stderr : sinks.Ghosts E) (old mid new : E) (a b : List ℕ) where
  front_first : AppendsFront stderr.contents old mid a → AppendsFront stderr.contents old mid (a ++ b)
  front_first front =
      let count = front.0 in (
        min count (length a),
        subst (λ (text : List ℕ). Appends (stderr.contents old) (stderr.contents mid) text)
            (sym (front_of_more count a b)) front.1,
      )

  front_second : Appended stderr.contents old mid a → AppendsFront stderr.contents mid new b
      → AppendsFront stderr.contents old new (a ++ b)
  front_second first front = (
    length a + front.0,
    subst (λ (text : List ℕ). Appends (stderr.contents old) (stderr.contents new) text)
        (sym (front_behind front.0 a b)) (appends_both _ _ _ a (take front.0 b) first front.1),
  )

  -- A text followed by another one.
  pub tells_both : Tells stderr old mid a → TellsOn stderr mid new b → Tells stderr old new (a ++ b)
  tells_both first second = go (stderr.failed mid) refl
    where
      go : (mark : Bool) → stderr.failed mid ≡ mark → Tells stderr old new (a ++ b)
      go true set =
          let same = second.failed set in
          subst (λ (after : E). Tells stderr old after (a ++ b)) (sym same) (record {
            whole = λ is. cc;
            flushed = λ is. cc;
            front = λ is. front_first (first.front set);
          })
      go false unset =
          let more = second.clear unset in
          let whole = first.whole unset in
          record {
            whole = λ is. appends_both _ _ _ a b whole (more.whole is);
            flushed = λ is. more.flushed is;
            front = λ is. front_second whole (more.front is);
          }

module _ {E : Type 0} (stderr : sinks.Ghosts E) (old mid new : E) (a b : List ℕ) where
  -- The same after other texts.
  pub tells_on_both : TellsOn stderr old mid a → TellsOn stderr mid new b → TellsOn stderr old new (a ++ b)
  tells_on_both first second = record {
    clear = λ unset. tells_both stderr old mid new a b (first.clear unset) second;
    failed = λ set.
        let same : mid ≡ old = first.failed set in
        second.failed (subst (λ (of : E). stderr.failed of ≡ true) (sym same) set) ∙ same;
  }

-- A choice that is made.
pub chosen : (b : Bool) (P Q : Type 0) → b ≡ true → P → MatchBool b P Q
chosen true P Q is holds = holds
chosen false P Q is holds = cc

pub not_chosen : (b : Bool) (P Q : Type 0) → b ≡ false → Q → MatchBool b P Q
not_chosen true P Q is holds = cc
not_chosen false P Q is holds = holds
