-- How many bytes can come before they are enough.
use Rattle.std.proofs.Common.{◌≡◌, ℕ, ◌+◌, ◌*◌, ◌≤◌, List, [], ◌∷◌, ◌++◌, length, length-append, true, false, ◌||◌, sym, ◌∙◌, ap, subst}
use Rattle.std.proofs.Common.{arith}
use Rattle.std.specs.Prelude.{◌==◌, nat_lt}
use Rattle.std.specs.List.{list_any}
use Rattle.std.proofs.lemmas.Bool.{or_parts, or_from, cases_Bool, cond-true, cond-false, ltb-false, le-ltb}
use Rattle.std.proofs.Math.Logic.{⊎_elim}
use Rattle.arj_script.specs.Input.{ended_from, rest_from, ended_lines, rest_line, is_too_long, is_enough}

-- what it is for bytes not to be enough
pub record IsShort (bytes : List ℕ) : Type 0 where
  pub few : length (ended_lines bytes) ≤ 100000
  pub short : list_any is_too_long (ended_lines bytes) ≡ false
  pub rest : length (rest_line bytes) ≤ 500

pub short_from : (bytes : List ℕ) → is_enough bytes ≡ false → IsShort bytes
short_from bytes h =
    let outer = or_parts (nat_lt 100000 (length (ended_lines bytes))) (list_any is_too_long (ended_lines bytes) || is_too_long (rest_line bytes)) h in
    let inner = or_parts (list_any is_too_long (ended_lines bytes)) (is_too_long (rest_line bytes)) outer.1 in
    record {
      few = ltb-false 100000 (length (ended_lines bytes)) outer.0;
      short = inner.0;
      rest = ltb-false 500 (length (rest_line bytes)) inner.1;
    }

-- and what makes them so
pub short_of : (bytes : List ℕ) → IsShort bytes → is_enough bytes ≡ false
short_of bytes is =
    or_from _ _ (le-ltb 100000 (length (ended_lines bytes)) is.few) (or_from _ _ is.short (le-ltb 500 (length (rest_line bytes)) is.rest))

-- Bytes that aren't enough are few.
abbrev Bound : List ℕ → List ℕ → Type 0
Bound front bytes =
    list_any is_too_long (ended_from front bytes) ≡ false → length (rest_from front bytes) ≤ 500 →
    length front + length bytes ≤ 501 * length (ended_from front bytes) + 500

bound_feed : (front : List ℕ) (b : ℕ) (bytes : List ℕ) → (b == 10) ≡ true → Bound [] bytes → Bound front (b ∷ bytes)
bound_feed front b bytes feed later short rest =
    let cut : ended_from front (b ∷ bytes) ≡ front ∷ ended_from [] bytes =
    cond-true (b == 10) (front ∷ ended_from [] bytes) (ended_from (front ++ b ∷ []) bytes) feed in
    let left : rest_from front (b ∷ bytes) ≡ rest_from [] bytes =
    cond-true (b == 10) (rest_from [] bytes) (rest_from (front ++ b ∷ []) bytes) feed in
    let parts = or_parts (is_too_long front) (list_any is_too_long (ended_from [] bytes)) (ap (λ ls. list_any is_too_long ls) (sym cut) ∙ short) in
    let on : 0 + length bytes ≤ 501 * length (ended_from [] bytes) + 500 = later parts.1 (subst (λ ls. length ls ≤ 500) left rest) in
    let small : length front ≤ 500 = ltb-false 500 (length front) parts.0 in
    omega (arith, on, small, ap length cut)

bound_byte : (front : List ℕ) (b : ℕ) (bytes : List ℕ) → (b == 10) ≡ false → Bound (front ++ b ∷ []) bytes → Bound front (b ∷ bytes)
bound_byte front b bytes other later short rest =
    let on : ended_from front (b ∷ bytes) ≡ ended_from (front ++ b ∷ []) bytes =
    cond-false (b == 10) (front ∷ ended_from [] bytes) (ended_from (front ++ b ∷ []) bytes) other in
    let left : rest_from front (b ∷ bytes) ≡ rest_from (front ++ b ∷ []) bytes =
    cond-false (b == 10) (rest_from [] bytes) (rest_from (front ++ b ∷ []) bytes) other in
    let known = later (ap (λ ls. list_any is_too_long ls) (sym on) ∙ short) (subst (λ ls. length ls ≤ 500) left rest) in
    omega (arith, known, ap length on, length-append front (b ∷ []))

bound_from : (front bytes : List ℕ) → Bound front bytes
bound_from front [] short rest = omega (arith, rest)
bound_from front (b ∷ bytes) short rest =
    ⊎_elim (λ feed. bound_feed front b bytes feed (bound_from [] bytes) short rest) (λ other. bound_byte front b bytes other (bound_from (front ++ b ∷ []) bytes) short rest) (cases_Bool (b == 10))

pub few_bytes : (bytes : List ℕ) → is_enough bytes ≡ false → length bytes ≤ 50100500
few_bytes bytes h =
    let is = short_from bytes h in
    let bound : 0 + length bytes ≤ 501 * length (ended_lines bytes) + 500 = bound_from [] bytes is.short is.rest in
    omega (arith, bound, is.few)
