-- What is told line by line.
use Rattle.std.proofs.Common.{◌≡◌, ◌<◌, ◌≤◌, ℕ, suc, ◌+◌, List, ◌∷◌, ◌++◌, length, take, drop, get_or, sym, ◌∙◌, ap, arith}
use Rattle.std.proofs.Math.Seq.{drop-cons}
use Rattle.std.proofs.lemmas.List.{append-nil, drop_all}
use Rattle.arj_journal.specs.declared.body.Line.{Line}
use Rattle.arj_journal.specs.declared.header.Header.{Header}
use Rattle.arj_standing.proofs.Filters.{take_next}
use Rattle.arj_last.specs.Told.{states_behind, states_from}

drop_next : (ls : List Line) (i : ℕ) (line : Line) → i < length ls → line ≡ get_or ls i line → drop i ls ≡ line ∷ drop (i + 1) ls
drop_next ls i line lt is = drop-cons ls i line lt ∙ (λ j. sym is j ∷ drop (one_more i j) ls)
  where
    one_more : (n : ℕ) → suc n ≡ n + 1
    one_more n = omega arith

-- what is told behind the lines that are left begins with what is told behind the next one
pub next_states : (h : Header) (ls : List Line) (i : ℕ) (line : Line) → i < length ls → line ≡ get_or ls i line
    → states_from h (take i ls) (drop i ls) ≡ states_behind h (take (i + 1) ls) line.body ++ states_from h (take (i + 1) ls) (drop
    (i + 1) ls)
next_states h ls i line lt is =
    ap (states_from h (take i ls)) (drop_next ls i line lt is)
    ∙ (λ j. states_behind h (sym (take_next ls i line lt is) j) line.body ++ states_from h (sym (take_next ls i line lt is) j) (drop
    (i + 1) ls))

-- no lines are left at the end
pub all_told : (h : Header) (ls : List Line) (i : ℕ) (out : List ℕ) → length ls ≤ i → out ≡ out ++ states_from h (take i ls) (drop i ls)
all_told h ls i out le = sym (append-nil out) ∙ ap (λ rest. out ++ states_from h (take i ls) rest) (sym (drop_all i ls le))
