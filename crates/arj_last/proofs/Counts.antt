-- Writes that count, one after another.
use Rattle.std.proofs.Common.{◌≡◌, ◌≤◌, ℕ, ◌+◌, List, [], ◌∷◌, ◌++◌, length, map, Bool, true, false, cond, ◌&&◌, ◌||◌, ◌==◌, refl, sym, ◌∙◌}
use Rattle.std.proofs.Common.{ap, arith}
use Rattle.std.specs.List.{list_any}
use Rattle.std.proofs.lemmas.Bool.{eqb-true}
use Rattle.std.proofs.lemmas.Bool.Decides.{nat_tests}
use Rattle.std.proofs.lemmas.List.Folds.{list_any-append}
use Rattle.arj_base.specs.declared.uid.Uid.{Uid}
use Rattle.arj_base.specs.Uid.{nobody}
use Rattle.arj_model.specs.Calls.{Call}
use Rattle.arj_model.specs.Last.{count_tops, writer_from}
use Rattle.arj_last.specs.Survivors.{count_wrotes, has_wrote, place_in, writer_after, wrote_of}
use Rattle.arj_last.specs.declared.picked.Wrote.{Wrote}

turned : (m n : ℕ) → (m == n) ≡ (n == m)
turned m n = grind (arith, nat_tests)

-- no write: what stands for one beyond the end of a list
abbrev pub no_write : Wrote
no_write = record { at = 0; top = 0; writer = nobody }

-- one write more
pub count_more : (ws : List Wrote) (w : Wrote) →
    count_wrotes (ws ++ w ∷ []) ≡ cond (has_wrote ws w.top) (count_wrotes ws) (count_wrotes ws + 1)
count_more [] w = refl
count_more (v ∷ ws) w =
    (λ i. cond (list_any-append (λ u. u.top == v.top) ws (w ∷ []) i) (count_more ws w i) (count_more ws w i + 1))
    ∙ by (w.top == v.top) refl (has_wrote ws v.top) refl (has_wrote ws w.top) refl
  where
    n : ℕ
    n = count_wrotes ws

    by : (s : Bool) → (w.top == v.top) ≡ s → (a : Bool) → has_wrote ws v.top ≡ a → (b : Bool) → has_wrote ws w.top ≡ b
        → cond (has_wrote ws v.top || ((w.top == v.top) || false)) (cond (has_wrote ws w.top) n (n + 1)) (cond (has_wrote ws w.top) n
        (n + 1) + 1)
        ≡ cond ((v.top == w.top) || has_wrote ws w.top) (cond (has_wrote ws v.top) n (n + 1)) (cond (has_wrote ws v.top) n (n + 1) + 1)
    by true same a ea b eb =
        let one : w.top ≡ v.top = eqb-true w.top v.top same in
        let other : (v.top == w.top) ≡ true = turned v.top w.top ∙ same in
        let ab : has_wrote ws v.top ≡ has_wrote ws w.top = ap (has_wrote ws) (sym one) in
        (λ i. cond (has_wrote ws v.top || (same i || false)) (cond (has_wrote ws w.top) n (n + 1)) (cond (has_wrote ws w.top) n
        (n + 1) + 1))
        ∙ (λ i. cond (or_true (has_wrote ws v.top) i) (cond (sym ab i) n (n + 1)) (cond (sym ab i) n (n + 1) + 1))
        ∙ (λ i. cond (sym other i || has_wrote ws w.top) (cond (has_wrote ws v.top) n (n + 1)) (cond (has_wrote ws v.top) n (n + 1) + 1))
      where
        or_true : (b : Bool) → (b || (true || false)) ≡ true
        or_true true = refl
        or_true false = refl
    by false apart a ea b eb =
        let other : (v.top == w.top) ≡ false = turned v.top w.top ∙ apart in
        (λ i. cond (ea i || (apart i || false)) (cond (eb i) n (n + 1)) (cond (eb i) n (n + 1) + 1))
        ∙ four a b
        ∙ sym (λ i. cond (other i || eb i) (cond (ea i) n (n + 1)) (cond (ea i) n (n + 1) + 1))
      where
        four : (a b : Bool) →
            cond (a || (false || false)) (cond b n (n + 1)) (cond b n (n + 1) + 1) ≡ cond (false || b) (cond a n (n + 1)) (cond a n
            (n + 1) + 1)
        four true true = refl
        four true false = refl
        four false true = refl
        four false false = refl

pub has_more : (ws : List Wrote) (w : Wrote) (top : ℕ) → has_wrote (ws ++ w ∷ []) top ≡ (has_wrote ws top || (w.top == top))
has_more ws w top = list_any-append (λ v. v.top == top) ws (w ∷ []) ∙ plain (has_wrote ws top) (w.top == top)
  where
    plain : (a b : Bool) → (a || (b || false)) ≡ (a || b)
    plain true b = refl
    plain false true = refl
    plain false false = refl

pub writer_more : (u : Uid) (ws : List Wrote) (w : Wrote) → writer_after u (ws ++ w ∷ []) ≡ w.writer
writer_more u [] w = refl
writer_more u (v ∷ ws) w = writer_more v.writer ws w

pub few : (b : Bool) (n i : ℕ) → n ≤ i → cond b n (n + 1) ≤ i + 1
few true n i le = omega (arith, le)
few false n i le = omega (arith, le)

-- Those of calls.

has_same : (cs : List Call) (top : ℕ) → has_wrote (map wrote_of cs) top ≡ list_any (λ d. d.top == top) cs
has_same [] top = refl
has_same (c ∷ cs) top = ap (λ b. (c.top == top) || b) (has_same cs top)

pub count_same : (cs : List Call) → count_wrotes (map wrote_of cs) ≡ count_tops cs
count_same [] = refl
count_same (c ∷ cs) = (λ i. cond (has_same cs c.top i) (count_same cs i) (count_same cs i + 1))

pub writer_same : (u : Uid) (cs : List Call) → writer_after u (map wrote_of cs) ≡ writer_from u cs
writer_same u [] = refl
writer_same u (c ∷ cs) = writer_same c.writer cs

pub places_same : (cs : List Call) → map place_in (map wrote_of cs) ≡ map (λ c. c.at) cs
places_same [] = refl
places_same (c ∷ cs) = ap (λ ns. c.at ∷ ns) (places_same cs)
