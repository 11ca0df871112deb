-- Lists of lines, and answers from them.
use Rattle.std.proofs.Common.{ℕ, Bool, List, refl}
use Rattle.h41_codes.specs.declared.line.Line.{Line}
use Rattle.h41_program.specs.ProgramLaws.{EachIsListed, OneList, ReadIsDetermined}
use Rattle.h41_program.specs.FirstLines.{ReadsTo}
use Rattle.h41_program.specs.SearchLaws.{AnswersAreDetermined, ProgramIsDetermined}
use Rattle.h41_program.specs.Searches.{start_in, up_to_end}
use Rattle.h41_laws_words.proofs.Answering.{Has, has_one}
use Rattle.h41_laws_calculator.specs.ProgramAnswers.{BytesHaveOneList, MemoryHasOneAnswer, ProgramHasOneAnswer}

pub listed : EachIsListed → (ends : Line → Bool) (bytes : List ℕ) (final at : ℕ) → Has (ReadsTo ends bytes final at)
listed lists ends bytes final at = let found = lists ends bytes final at in record { answer = found.0; right = found.1 }

pub one_listed : EachIsListed → ReadIsDetermined → BytesHaveOneList
one_listed lists determined ends bytes final at = has_one (listed lists ends bytes final at) (determined ends bytes final at)

pub by_list : {A : Type 0} → OneList → AnswersAreDetermined A → MemoryHasOneAnswer A
by_list lists determined answer memory at =
    let all = lists memory at in
    has_one (record { answer = answer all.lines; right = (all.lines, all.from, refl) }) (determined memory answer at)

pub by_program : {A : Type 0} → OneList → ProgramIsDetermined A → ProgramHasOneAnswer A
by_program lists determined answer memory at =
    let all = lists memory 0 in
    let own = lists memory (start_in at all.lines) in
    has_one (record {
      answer = answer (up_to_end own.lines);
      right = record { lines = all.lines; own = own.lines; all = all.from; program = own.from; is = refl };
    }) (determined memory answer at)
