-- How a command that was executed is answered.
use Rattle.std.proofs.Common.{◌≡◌, true, ℕ, ◌+◌, Bool, List, [], ◌++◌, length, length-append, take, Option, Some, None, Result}
use Rattle.std.proofs.Common.{Ok, Err, refl, sym, ap, subst, ◌∙◌, arith}
use Rattle.std.proofs.KnownBytes.{Appends-nil, Appends-trans}
use Rattle.std.proofs.Math.Seq.{take-append-add}
use Rattle.std.proofs.lemmas.List.{take-append-le}
use Rattle.std.specs.Global.{Global}
use Rattle.std.specs.Prelude.{Vec}
use Rattle.std.specs.Result.{result_err}
use Rattle.std.specs.Io.KnownBytes.{Appends}
use Rattle.h41_commands.specs.declared.commands.BlockKind.TheVariants.{Page, Program}
use Rattle.h41_commands.specs.declared.commands.PageKind.{PageKind}
use Rattle.h41_commands.specs.declared.commands.ProgramKind.{ProgramKind}
use Rattle.h41_commands.specs.declared.commands.Command.{Command}
use Rattle.h41_commands.specs.declared.commands.Command.TheVariants.{Plug, Load}
use Rattle.h41_commands.specs.declared.commands.Command.TheVariants as commands
use Rattle.h41_commands.specs.declared.commands.View.{View}
use Rattle.h41_commands.specs.private.TakenBlocks.{TakenBlock}
use Rattle.h41_commands.specs.Commands.{kind_of}
use Rattle.h41_commands.specs.private.Contents.{MeansBy, values_in}
use Rattle.h41_commands.specs.ProgramBlocks.{Means}
use Rattle.h41_commands.specs.declared.refusal.LineRefusal.{LineRefusal}
use Rattle.h41_commands.specs.Items.{Spelled, with_values}
use Rattle.h41_debug.specs.Bench.{BenchState}
use Rattle.h41_ends.specs.Ends.{AppendsPart}
use Rattle.h41_refusals.specs.declared.refusal.Refusal.{Refusal}
use Rattle.h41_refusals.specs.declared.refusal.Refusal.TheVariants.{Line}
use Rattle.h41_deck.specs.declared.replies.Outcome.{Outcome}
use Rattle.h41_deck.specs.Answers.{ending_line, ends_by, printed_text, says_or_ends}
use Rattle.h41_pages.specs.PageMap.{PageMap}
use Rattle.h41_deck.specs.Listings.{listing_at}
use Rattle.h41_deck.specs.private.Blocks.{LoadsTaken, PlugsTaken}
use Rattle.h41_deck.specs.Replies.{LoadsBlock, LoadsBytes, Plugs, Reply, item_takes_memory, takes_memory}
use Rattle.h41_deck.specs.private.Writing.{IsListed, IsRefusalOf, IsShown, Replies, RepliesInPart, SaysText, item_of}
use Rattle.h41_deck.specs.private.Writing.{made_text, outcome_in, text_in}

-- A command with a block that is not refused allocates memory if the command does.
pub given_memory : (values : Result (List ℕ) LineRefusal) (command : Command) → result_err values ≡ None → takes_memory command ≡ true
    → item_takes_memory (with_values values command) ≡ true
given_memory (Ok values) command accepted takes = takes
given_memory (Err refusal) command accepted takes = cc

-- A block that is refused.
pub refused_text : (values : Result (List ℕ) LineRefusal) (command : Command)
    (refusal : LineRefusal) (s : BenchState) (old : Option (List ℕ))
    → Some refusal ≡ result_err values → SaysText (with_values values command) s s old old (Some (Line refusal))
refused_text (Ok given) command refusal s old e = cc
refused_text (Err why) command refusal s old e =
    let same : why ≡ refusal = cc in
    record { text = []; reply = rw same (refl, refl); written = Appends-nil old }

-- Lines that are not a command.
pub refused_item : (refusal : LineRefusal) (s : BenchState) (old : Option (List ℕ)) (own : Refusal) → own ≡ Line refusal
    → SaysText (Err refusal) s s old old (Some own)
refused_item refusal s old own is =
    record { text = []; reply = (refl, ap (λ (of : Refusal). ends_by (Some of)) is); written = Appends-nil old }

-- A block for a page, or one that is a program.
pub plug_text : (block : TakenBlock) (command : Command) (kind : PageKind) (page bank : ℕ)
    (writable : Bool) (s t : BenchState) (old : Option (List ℕ)) (refusal : Option Refusal)
    → command ≡ Plug kind page bank writable → block.kind ≡ kind_of command → PlugsTaken block page bank writable s t refusal
    → SaysText (item_of command block) s t old old refusal
plug_text block command kind page bank writable s t old refusal spelt own taken =
    let kind_is : block.kind ≡ Some (Page kind) = own ∙ ap kind_of spelt in
    let both : Some (Page taken.kind) ≡ Some (Page kind) = sym taken.kind_is ∙ kind_is in
    let same : taken.kind ≡ kind = cc in
    record {
      text = [];
      reply = rw (spelt, taken.said) (subst (λ of. Plugs of page bank writable taken.values s t (ends_by refusal)) same taken.plugs);
      written = Appends-nil old;
    }

pub load_text : (block : TakenBlock) (command : Command) (kind : ProgramKind) (s t : BenchState) (old : Option (List ℕ))
    (refusal : Option Refusal) → command ≡ Load kind → block.kind ≡ kind_of command → LoadsTaken block s t refusal
    → SaysText (item_of command block) s t old old refusal
load_text block command kind s t old refusal spelt own taken =
    let kind_is : block.kind ≡ Some (Program kind) = own ∙ ap kind_of spelt in
    let both : Some (Program taken.kind) ≡ Some (Program kind) = sym taken.kind_is ∙ kind_is in
    let same : taken.kind ≡ kind = cc in
    record {
      text = [];
      reply = rw (spelt, taken.said) (subst (λ of. LoadsBlock of taken.values s t (ends_by refusal)) same taken.loads);
      written = Appends-nil old;
    }

-- The bytes of a block are loaded, or the block defines none.
pub loads_taken : (block : TakenBlock) (s t : BenchState) (bytes : List ℕ)
    (made : Result (Vec ℕ Global) LineRefusal) (refusal : Option Refusal)
    → MeansBy block made → values_in made ≡ Ok bytes → LoadsBytes (Ok bytes) s t (ends_by refusal) → LoadsTaken block s t refusal
loads_taken block s t bytes made refusal means same loads = record {
  kind = means.kind;
  kind_is = means.kind_is;
  values = means.values;
  said = means.said;
  loads = (Ok bytes, subst (Means means.kind means.values) same means.means, loads);
}

-- It prints nothing.
pub silent_alone : (command : Command) (values : List ℕ) (s t : BenchState) (old : Option (List ℕ)) (refusal : Option Refusal)
    → Reply command values s t (ends_by refusal) → SaysText (Ok (command, values)) s t old old refusal
silent_alone command values s t old refusal reply = record { text = []; reply = reply; written = Appends-nil old }

-- It prints what was made.
reply_of_made : (made : Result (Vec ℕ Global) Refusal) (refusal : Option Refusal) → IsRefusalOf made refusal
    → says_or_ends (text_in made) ≡ record { text = made_text made; refusal = refusal }
reply_of_made (Ok text) refusal is = λ i. record { text = text.items; refusal = sym is i }
reply_of_made (Err why) refusal is = λ i. record { text = []; refusal = sym is i }

pub made_alone : (command : Command) (values : List ℕ) (s : BenchState)
    (old new : Option (List ℕ)) (made : Result (Vec ℕ Global) Refusal) (refusal : Option Refusal)
    → IsRefusalOf made refusal → Reply command values s s (says_or_ends (text_in made)) → Appends old new (made_text made)
    → SaysText (Ok (command, values)) s s old new refusal
made_alone command values s old new made refusal is reply written = record {
  text = made_text made;
  reply = subst (λ answer. Reply command values s s answer) (reply_of_made made refusal is) reply;
  written = written;
}

-- A listing, and a view.
pub list_said : (command : Command) (values : List ℕ) (address count : ℕ)
    (s : BenchState) (pages : PageMap) (made : Result (Vec ℕ Global) Refusal)
    → command ≡ commands.List address count → pages ≡ s.calculator.nut.pages → IsListed pages address count made
    → Reply command values s s (says_or_ends (text_in made))
list_said command values address count s pages made spelt same is =
    rw spelt (refl, ap says_or_ends (is ∙ ap (λ (of : PageMap). listing_at of address count) same))

pub show_said : (command : Command) (values : List ℕ) (view : View) (s : BenchState) (made : Result (Vec ℕ Global) Refusal)
    → command ≡ commands.Show view → IsShown view s made → Reply command values s s (says_or_ends (text_in made))
show_said command values view s made spelt shows = rw spelt (refl, text_in made, shows, refl)

-- A prefix of what is to be written, and nothing more.
pub part_longer : (old new : Option (List ℕ)) (text more : List ℕ) → AppendsPart old new text → AppendsPart old new (text ++ more)
part_longer old new text more part = (
  part.0,
  omega (arith, length-append text more),
  subst (λ (written : List ℕ). Appends old new written) (sym (take-append-le part.0 text more (omega arith))) part.2,
)

made_printed : (made : Result (Vec ℕ Global) Refusal)
    → (ending : List ℕ) × (printed_text (says_or_ends (text_in made)) ≡ made_text made ++ ending)
made_printed (Ok text) = ([], refl)
made_printed (Err refusal) = (ending_line (Some refusal), refl)

pub part_alone : (command : Command) (values : List ℕ) (s : BenchState) (old new : Option (List ℕ)) (made : Result (Vec ℕ Global) Refusal)
    → Reply command values s s (says_or_ends (text_in made)) → AppendsPart old new (made_text made)
    → RepliesInPart (Ok (command, values)) s s old new
part_alone command values s old new made reply part =
    let ending = made_printed made in record {
      text = printed_text (says_or_ends (text_in made));
      printed_until = (says_or_ends (text_in made), reply, refl);
      written = subst (AppendsPart old new) (sym ending.1) (part_longer old new (made_text made) ending.0 part);
    }

-- The text followed by the line of the refusal, and a prefix of that.
pub ends_reply : (item : Spelled) (s t : BenchState) (old mid new : Option (List ℕ)) (refusal : Option Refusal) (outcome : Outcome)
    → SaysText item s t old mid refusal → outcome ≡ outcome_in refusal → Appends mid new (ending_line refusal)
    → Replies item s t old new outcome
ends_reply item s t old mid new refusal outcome said is ending = record {
  answer = record { text = said.text; refusal = refusal };
  reply = said.reply;
  written = Appends-trans old mid new said.text (ending_line refusal) said.written ending;
  outcome_is = is;
}

pub later_part : (old mid new : Option (List ℕ)) (text ending : List ℕ) → Appends old mid text → AppendsPart mid new ending
    → AppendsPart old new (text ++ ending)
later_part old mid new text ending first part = (
  length text + part.0,
  omega (arith, part.1, length-append text ending),
  subst (Appends old new) (sym (take-append-add text ending part.0)) (Appends-trans old mid new text (take part.0 ending) first part.2),
)

pub ends_part : (item : Spelled) (s t : BenchState) (old mid new : Option (List ℕ)) (refusal : Option Refusal)
    → SaysText item s t old mid refusal → AppendsPart mid new (ending_line refusal) → RepliesInPart item s t old new
ends_part item s t old mid new refusal said part = record {
  text = printed_text (record { text = said.text; refusal = refusal });
  printed_until = (record { text = said.text; refusal = refusal }, said.reply, refl);
  written = later_part old mid new said.text (ending_line refusal) said.written part;
}
