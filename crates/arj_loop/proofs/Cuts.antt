-- The lines of what has come, where one is too long, and where the last one lacks its end.
use Rattle.std.proofs.Common.{◌≡◌, ℕ, ◌<◌, List, [], ◌∷◌, ◌++◌, length, length-append, true, false, refl, sym, ◌∙◌, ap, arith, append_assoc}
use Rattle.std.specs.Prelude.{◌==◌, if◌then◌else◌}
use Rattle.std.proofs.lemmas.List.{append-nil}
use Rattle.std.proofs.lemmas.Bool.{cond-true, lt-ltb}
use Rattle.arj_script.specs.Input.{Stopped, AtEnd, AtRunEnd, ended_from, rest_from, ended_lines, rest_line, is_too_long, last_line}
use Rattle.arj_script.specs.Input.{lines_of}
use Rattle.arj_script.proofs.Cutting.{ended_from-append, rest_from-append}

-- a line that is too long is there, whatever follows
long_goes : (line past : List ℕ) → 500 < length line →
    (long : List ℕ) × (tail : List (List ℕ)) × (ended_from line past ++ last_line AtRunEnd (rest_from line past) ≡ long ∷ tail) × (500 < length long)
long_goes line [] long = (line, [], cond-true (is_too_long line) (line ∷ []) [] (lt-ltb 500 (length line) long), long)
long_goes line (b ∷ bs) long =
    let on = long_goes (line ++ b ∷ []) bs (omega (arith, long, length-append line (b ∷ []))) in
    elim (b == 10) as (λ t. (found : List ℕ) × (tail : List (List ℕ)) × ((if t then line ∷ ended_from [] bs else ended_from (line ++ b ∷ []) bs) ++ last_line AtRunEnd (if t then rest_from [] bs else rest_from (line ++ b ∷ []) bs) ≡ found ∷ tail) × (500 < length found))
    [ true ↦ (line, ended_from [] bs ++ last_line AtRunEnd (rest_from [] bs), refl, long) | false ↦ on ]

pub lines_long : (used past : List ℕ) (done : List (List ℕ)) → ended_lines used ≡ done → length (rest_line used) ≡ 501 →
    (line : List ℕ) × (tail : List (List ℕ)) × (lines_of AtRunEnd (used ++ past) ≡ done ++ line ∷ tail) × (500 < length line)
lines_long used past done e size =
    let g = long_goes (rest_line used) past (omega (arith, size)) in
    let more = ended_from (rest_line used) past in (
      g.0,
      g.1,
      (λ i. ended_from-append [] used past i ++ last_line AtRunEnd (rest_from-append [] used past i)) ∙ (ap (λ ls. (ls ++ more) ++ last_line AtRunEnd (rest_from (rest_line used) past)) e ∙ (append_assoc done more (last_line AtRunEnd (rest_from (rest_line used) past)) ∙ ap (λ ls. done ++ ls) g.2)),
      g.3,
    )

-- the last line, where it lacks its end
pub lines_last : (used line : List ℕ) → line ≡ rest_line used → (line ≡ [] → ⊥) → lines_of AtEnd used ≡ ended_lines used ++ line ∷ []
lines_last used line is some =
    ap (λ ls. ended_lines used ++ ls) (at_end (rest_line used) (λ none. some (is ∙ none)) ∙ ap (λ l. l ∷ []) (sym is))
  where
    at_end : (rest : List ℕ) → (rest ≡ [] → ⊥) → last_line AtEnd rest ≡ rest ∷ []
    at_end [] some = absurd (some refl)
    at_end (b ∷ bs) some = refl

pub lines_none : (used line : List ℕ) → line ≡ rest_line used → line ≡ [] → lines_of AtEnd used ≡ ended_lines used
lines_none used line is none = ap (λ l. ended_lines used ++ last_line AtEnd l) (sym is ∙ none) ∙ append-nil (ended_lines used)
