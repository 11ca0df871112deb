-- The column of addresses: addresses that agree in their 16 bits give the same lines, and a line is written at its place.
use Rattle.std.specs.Prelude.{◌≡◌, ℕ, ◌+◌, ◌%◌, ◌<◌, List, [], ◌∷◌, ◌++◌, refl}
use Rattle.std.proofs.Common.{arith, ap, sym, ◌∙◌, append_assoc}
use Rattle.h41_dis.specs.declared.cut.Piece.{Piece}
use Rattle.h41_dis.specs.Spelling.{columns_of, columns_line, columns_text, piece_line, piece_length}

pub same_columns : (a b : ℕ) (pieces : List Piece) → a % 0x10000 ≡ b % 0x10000 → columns_of a pieces ≡ columns_of b pieces
same_columns a b [] same = refl
same_columns a b (piece ∷ rest) same =
    let next : (a + piece_length piece) % 0x10000 ≡ (b + piece_length piece) % 0x10000 = omega arith in
    rw (same_columns (a + piece_length piece) (b + piece_length piece) rest next, same) refl

regroup : (a b c d : List ℕ) → ((a ++ b) ++ c) ++ d ≡ a ++ ((b ++ c) ++ d)
regroup a b c d = simp append_assoc

-- A line with its columns is written, and the next instruction follows at the next address.
pub next_line : (written before after whole : List ℕ) (address length : ℕ) (piece : Piece) (all left : List Piece) → address < 0x10000
    → all ≡ piece ∷ left → written ++ columns_of address all ≡ whole → before ≡ written ++ columns_text address piece
    → after ≡ before ++ piece_line piece → length ≡ piece_length piece
    → after ++ columns_of ((address + length) % 0x10000) left ≡ whole
next_line written before after whole address length piece all left fits cut known columns line counted =
    let same : address % 0x10000 ≡ address = omega arith in
    let here : columns_line address piece ≡ columns_text address piece ++ piece_line piece =
    ap (λ a. columns_text a piece ++ piece_line piece) same in
    let next = address + length in
    let wraps : columns_of (next % 0x10000) left ≡ columns_of next left = same_columns (next % 0x10000) next left (omega arith) in
    let behind : columns_of next left ≡ columns_of (address + piece_length piece) left = ap (λ n. columns_of (address + n) left) counted in
    ap (λ t. t ++ columns_of (next % 0x10000) left) (line ∙ ap (λ t. t ++ piece_line piece) columns)
    ∙ ap (λ rest. ((written ++ columns_text address piece) ++ piece_line piece) ++ rest) (wraps ∙ behind)
    ∙ regroup written (columns_text address piece) (piece_line piece) (columns_of (address + piece_length piece) left)
    ∙ ap (λ l. written ++ (l ++ columns_of (address + piece_length piece) left)) (sym here)
    ∙ ap (λ pieces. written ++ columns_of address pieces) (sym cut)
    ∙ known
