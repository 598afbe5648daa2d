-- What is told line by line.
use Rattle.std.proofs.Common.{◌≡◌, ◌<◌, ◌≤◌, ℕ, zero, suc, ◌+◌, List, [], ◌∷◌, ◌++◌, length, take, drop, get_or, Bool, refl, sym, ◌∙◌}
use Rattle.std.proofs.Common.{ap, arith}
use Rattle.std.proofs.Math.Seq.{drop-cons}
use Rattle.std.proofs.lemmas.List.{append-nil, drop_all}
use Rattle.arj_journal.specs.declared.body.Line.{Line}
use Rattle.arj_journal.specs.declared.header.Header.{Header}
use Rattle.arj_standing.proofs.Filters.{take_next}
use Rattle.arj_pending.specs.Told.{pending_behind, pendings_from}

drop_next : (ls : List Line) (i : ℕ) (line : Line) → i < length ls → line ≡ get_or ls i line → drop i ls ≡ line ∷ drop (i + 1) ls
drop_next ls i line lt is = drop-cons ls i line lt ∙ (λ j. sym is j ∷ drop (one_more i j) ls)
  where
    one_more : (n : ℕ) → suc n ≡ n + 1
    one_more n = omega arith

-- what is told behind the lines that are left begins with what is told behind the next one
pub next_pendings : (flags : List Bool) (h : Header) (ls : List Line) (i : ℕ) (line : Line) → i < length ls → line ≡ get_or ls i line
    → pendings_from flags h (take i ls) (drop i ls) ≡ pending_behind flags h (take (i + 1) ls) line.body ++ pendings_from flags h (take
    (i + 1) ls) (drop (i + 1) ls)
next_pendings flags h ls i line lt is =
    ap (pendings_from flags h (take i ls)) (drop_next ls i line lt is)
    ∙ (λ j. pending_behind flags h (sym (take_next ls i line lt is) j) line.body ++ pendings_from flags h (sym (take_next ls i line lt is) j) (drop
    (i + 1) ls))

-- no lines are left at the end
pub all_told : (flags : List Bool) (h : Header) (ls : List Line) (i : ℕ) (out : List ℕ) → length ls ≤ i
    → out ≡ out ++ pendings_from flags h (take i ls) (drop i ls)
all_told flags h ls i out le =
    sym (append-nil out) ∙ ap (λ rest. out ++ pendings_from flags h (take i ls) rest) (sym (drop_all i ls le))

-- so many are those up to a place
pub so_many : (ls : List Line) (i : ℕ) → i ≤ length ls → length (take i ls) ≡ i
so_many ls zero le = refl
so_many [] (suc i) le = absurd (omega (arith, le))
so_many (l ∷ ls) (suc i) le = ap suc (so_many ls i (omega (arith, le)))
