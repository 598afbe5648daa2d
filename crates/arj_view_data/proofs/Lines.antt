-- What is told line by line.
use Rattle.std.proofs.Common.{◌≡◌, ◌<◌, ℕ, suc, ◌+◌, List, ◌∷◌, ◌++◌, length, take, drop, get_or, sym, ◌∙◌, ap, arith}
use Rattle.std.proofs.Math.Seq.{drop-cons}
use Rattle.std.proofs.lemmas.List.{append-nil, drop_all}
use Rattle.arj_journal.specs.declared.body.Line.{Line}
use Rattle.arj_journal.specs.declared.header.Header.{Header}
use Rattle.arj_standing.proofs.Filters.{take_next}
use Rattle.arj_view_data.specs.Texts.{line_behind, lines_behind}

-- the lines that are left begin with the next one
pub drop_next : {A : Type 0} (xs : List A) (i : ℕ) (x : A) → i < length xs → x ≡ get_or xs i x → drop i xs ≡ x ∷ drop (i + 1) xs
drop_next xs i x lt is = drop-cons xs i x lt ∙ (λ j. sym is j ∷ drop (one_more i j) xs)
  where
    one_more : (n : ℕ) → suc n ≡ n + 1
    one_more n = omega arith

-- what is told of the lines that are left begins with what is told of the next one
pub next_line : (h : Header) (ls : List Line) (i : ℕ) (line : Line) → i < length ls → line ≡ get_or ls i line
    → lines_behind h (take i ls) (drop i ls) ≡ line_behind h (take (i + 1) ls) line ++ lines_behind h (take (i + 1) ls) (drop (i + 1) ls)
next_line h ls i line lt is =
    ap (lines_behind h (take i ls)) (drop_next ls i line lt is)
    ∙ (λ j. line_behind h (sym (take_next ls i line lt is) j) line ++ lines_behind h (sym (take_next ls i line lt is) j) (drop (i + 1) ls))

-- no lines are left at the end
pub all_taken : (h : Header) (ls : List Line) (i : ℕ) (out : List ℕ) → i ≡ length ls → out ≡ out ++ lines_behind h (take i ls) (drop i ls)
all_taken h ls i out e = sym (append-nil out) ∙ ap (λ rest. out ++ lines_behind h (take i ls) rest) (sym (drop_all i ls (omega (arith, e))))
