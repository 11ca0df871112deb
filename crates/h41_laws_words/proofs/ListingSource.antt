-- The listing of words as a source: its lines, and that they spell these words and no others.
use Rattle.std.proofs.Common.{◌≡◌, ℕ, ◌+◌, ◌<◌, ◌≤◌, List, [], ◌∷◌, ◌++◌, length, map, flat_map, Option, Some, None, refl, sym, ap, ◌∙◌}
use Rattle.std.proofs.Common.{subst, arith, append_assoc, ◌↔◌}
use Rattle.std.specs.Prelude.{Contains, IsSome, IfSome, bytes_eq, codes}
use Rattle.std.specs.List.{AllByRecursion, IsDistinct, cons_option}
use Rattle.std.proofs.lemmas.List.Elements.{recursion_from_All}
use Rattle.h41_words.specs.SecondWord.{SaidByWord}
use Rattle.h41_words.specs.WordTable.{OneWordOfRow, WordOfRow}
use Rattle.h41_dis.specs.declared.cut.Piece.{Piece}
use Rattle.h41_dis.specs.Spelling.{lines_of, pieces, piece_text, spell}
use Rattle.h41_asm.specs.Assembly.{Assembles}
use Rattle.h41_asm.specs.Placing.{Labels, LineSpells, LinesSpell, SpellsRead}
use Rattle.h41_asm.specs.SourceLines.{SourceLine, labels_of, line_of, source_lines, words_of}
use Rattle.h41_laws_words.specs.ListingRoundTrip.{ListingAssembles}
use Rattle.h41_laws_words.proofs.ListingLines.{lines-cons}
use Rattle.h41_laws_words.proofs.ListingPieces.{ReadsPiece, piece_words, reads_pieces, words_of_pieces}

-- The source line of an instruction.
abbrev source_line : Piece → SourceLine
source_line piece = line_of (words_of (piece_text piece.first piece.second))

lines_of_listing : (some : List Piece) → AllByRecursion ReadsPiece some → source_lines (lines_of some) ≡ map source_line some
lines_of_listing [] each = refl
lines_of_listing (piece ∷ rest) each =
    let text = piece_text piece.first piece.second in
    ap source_lines (append_assoc text (codes "\n") (lines_of rest))
    ∙ ap (map (λ line. line_of (words_of line))) (lines-cons text (lines_of rest) each.0.plain)
    ∙ ap (λ lines. source_line piece ∷ lines) (lines_of_listing rest each.1)

no_labels : (some : List Piece) → AllByRecursion ReadsPiece some → labels_of (map source_line some) ≡ []
no_labels [] each = refl
no_labels (piece ∷ rest) each = ap (λ label. cons_option label (labels_of (map source_line rest))) each.0.unlabelled ∙ no_labels rest each.1

-- Whatever the addresses of the labels are, the lines spell the words of the instructions.
line_spells : (labels : Labels) (address : ℕ) (piece : Piece) → ReadsPiece piece
    → LineSpells labels address (source_line piece) (piece_words piece)
line_spells labels address piece reads = record {
  label = subst (λ (label : Option (List ℕ)). IfSome label (λ name. labels name ≡ Some address)) (sym reads.unlabelled) tt;
  words = subst (λ read. SpellsRead labels address read (piece_words piece)) (sym reads.said) refl;
}

spells : (labels : Labels) (address : ℕ) (some : List Piece) → AllByRecursion ReadsPiece some
    → LinesSpell labels address (map source_line some) (flat_map piece_words some)
spells labels address [] each = refl
spells labels address (piece ∷ rest) each = (
  piece_words piece,
  flat_map piece_words rest,
  refl,
  line_spells labels address piece each.0,
  spells labels (address + length (piece_words piece)) rest each.1,
)

-- The lines spell only these words.
spells_only : (labels : Labels) (address : ℕ) (some : List Piece) (words : List ℕ) → AllByRecursion ReadsPiece some
    → LinesSpell labels address (map source_line some) words → words ≡ flat_map piece_words some
spells_only labels address [] words each spelled = spelled
spells_only labels address (piece ∷ rest) words each spelled =
    let own : spelled.0 ≡ piece_words piece = subst (λ read. SpellsRead labels address read spelled.0) each.0.said spelled.3.words in
    let others : spelled.1 ≡ flat_map piece_words rest = spells_only labels (address + length spelled.0) rest spelled.1 each.1 spelled.4 in
    spelled.2 ∙ ap (λ (first : List ℕ). first ++ spelled.1) own ∙ ap (λ (behind : List ℕ). piece_words piece ++ behind) others

module _ (word_of_row : WordOfRow) (one_word_of_row : OneWordOfRow) (said_by_word : SaidByWord) where
  each_reads : (words : List ℕ) → AllByRecursion (λ word. word < 1024) words → AllByRecursion ReadsPiece (pieces words)
  each_reads = reads_pieces word_of_row one_word_of_row said_by_word

  assembles : (words : List ℕ) (origin : ℕ) → AllByRecursion (λ word. word < 1024) words → origin + length words ≤ 0x10000
      → Assembles (spell words) origin words
  unfolding IsDistinct
  assembles words origin each fits =
      let reads = each_reads words each in
      let lines = lines_of_listing (pieces words) reads in
      let none : labels_of (source_lines (spell words)) ≡ [] = ap labels_of lines ∙ no_labels (pieces words) reads in
      let labels : Labels = λ name. None in
      record {
        distinct = subst (λ (names : List (List ℕ)). IsDistinct bytes_eq names) (sym none) tt;
        fits = fits;
        placed = (
          labels,
          record {
            names =
                λ name. subst (λ (names : List (List ℕ)). IsSome (labels name) ↔ Contains names name)
                (sym none) ((λ some. absurd (cc)), (λ at. absurd (omega arith)));
            within = λ name. tt;
            spelled = subst (λ own. LinesSpell labels origin (source_lines (spell words)) own) (words_of_pieces words)
                (subst (λ some. LinesSpell labels origin some (flat_map piece_words (pieces words)))
                (sym lines) (spells labels origin (pieces words) reads));
          },
        );
      }

  assembles_only : (words : List ℕ) (origin : ℕ) (other : List ℕ) → AllByRecursion (λ word. word < 1024) words
      → Assembles (spell words) origin other → other ≡ words
  assembles_only words origin other each assembled =
      let reads = each_reads words each in
      let labels = assembled.placed.0 in
      let spelled =
      subst (λ some. LinesSpell labels origin some other) (lines_of_listing (pieces words) reads) assembled.placed.1.spelled in
      spells_only labels origin (pieces words) other reads spelled ∙ words_of_pieces words

  pub listing_assembles : ListingAssembles
  listing_assembles words origin other each fits =
      let all = recursion_from_All (λ word. word < 1024) words each in (
        (λ assembled. assembles_only words origin other all assembled),
        (λ same. subst (λ (own : List ℕ). Assembles (spell words) origin own) (sym same) (assembles words origin all fits)),
      )
