-- Writes that survive.
use Rattle.std.proofs.Common.{◌≡◌, ◌<◌, ℕ, zero, suc, ◌+◌, List, [], ◌∷◌, ◌++◌, length, map, take, get_or, Bool, true, false, cond, ◌&&◌}
use Rattle.std.proofs.Common.{◌||◌, Option, Some, None}
use Rattle.std.proofs.Common.{refl, sym, ◌∙◌, ap, arith}
use Rattle.std.specs.Prelude.{filter}
use Rattle.std.specs.List.{cons_option, filter_map, list_all, list_any}
use Rattle.std.specs.Option.{option_map}
use Rattle.std.proofs.lemmas.List.{map-append}
use Rattle.std.proofs.lemmas.List.Folds.{list_all-map}
use Rattle.arj_base.specs.Uid.{uid_eq}
use Rattle.arj_base.specs.declared.uid.Uid.{Uid}
use Rattle.arj_journal.specs.declared.body.Line.{Line}
use Rattle.arj_model.specs.Actions.{Act, Placed, chain_in, committed, has_end, is_committed, recovered, top_in}
use Rattle.arj_model.specs.Calls.{Call, Said, call_of, committed_calls, kept, kept_in, made, made_in, said}
use Rattle.arj_model.specs.Serial.{writes_on}
use Rattle.arj_standing.proofs.Filters.{take_next}
use Rattle.arj_changes.specs.Kept.{AreKept, is_ended, is_found}
use Rattle.arj_changes.specs.declared.kept.Changes.{Changes}
use Rattle.arj_last.specs.Kept.{write_of}
use Rattle.arj_last.specs.Survivors.{key_of, survives_by, survivor, survivors_from}
use Rattle.arj_last.specs.declared.kept.Write.{Write}

-- two tests, one after the other
both_tests : {A : Type 0} (p q : A → Bool) (xs : List A) → filter p (filter q xs) ≡ filter q (filter p xs)
both_tests p q [] = refl
both_tests {A} p q (x ∷ xs) = by (p x) refl (q x) refl (both_tests p q xs)
  where
    by : (a : Bool) → p x ≡ a → (b : Bool) → q x ≡ b → filter p (filter q xs) ≡ filter q (filter p xs)
        → filter p (cond b (x ∷ filter q xs) (filter q xs)) ≡ filter q (cond a (x ∷ filter p xs) (filter p xs))
    by true e true g ih =
        (λ i. cond (e i) (x ∷ filter p (filter q xs)) (filter p (filter q xs))) ∙ ap (λ ys. x ∷ ys) ih
        ∙ sym (λ i. cond (g i) (x ∷ filter q (filter p xs)) (filter q (filter p xs)))
    by true e false g ih = ih ∙ sym (λ i. cond (g i) (x ∷ filter q (filter p xs)) (filter q (filter p xs)))
    by false e true g ih = (λ i. cond (e i) (x ∷ filter p (filter q xs)) (filter p (filter q xs))) ∙ ih
    by false e false g ih = ih

module _ (E : List (Placed ℕ)) (F : List (Placed Uid)) where
  abbrev lasts : Call → Bool
  lasts c = survives_by (has_end E) (λ u. list_any (λ p. uid_eq p.it u) F) (write_of c)

  -- those calls survive whose tops are committed, and all below them
  made_last : (ss : List (Placed Said)) → filter_map (kept E F) ss ≡ filter lasts (filter_map (λ s. made_in s (top_in s.it.path)) ss)
  made_last [] = refl
  made_last (s ∷ ss) = by (top_in s.it.path) (made_last ss)
    where
      rest : List Call
      rest = filter_map (λ t. made_in t (top_in t.it.path)) ss

      one : (t : Act) → lasts (call_of s t) ≡ (list_all (λ a. has_end E a.id) (chain_in s.it.path) && is_committed E F t)
      one t = (λ i. list_all-map (has_end E) (λ a. a.id) (chain_in s.it.path) i && is_committed E F t)

      with : (t : Act) (b : Bool) → filter_map (kept E F) ss ≡ filter lasts rest
          → cons_option (cond b (Some (call_of s t)) None) (filter_map (kept E F) ss) ≡ cond b (call_of s t ∷ filter lasts rest)
          (filter lasts rest)
      with t true ih = ap (λ cs. call_of s t ∷ cs) ih
      with t false ih = ih

      by : (o : Option Act) → filter_map (kept E F) ss ≡ filter lasts rest
          → cons_option (kept_in E F s o) (filter_map (kept E F) ss) ≡ filter lasts (cons_option (made_in s o) rest)
      by None ih = ih
      by (Some t) ih =
          with t (list_all (λ a. has_end E a.id) (chain_in s.it.path) && is_committed E F t) ih
          ∙ sym (λ i. cond (one t i) (call_of s t ∷ filter lasts rest) (filter lasts rest))

-- the surviving writes on an object
pub writes_last : (lines : List Line) (c : Changes) → AreKept lines c → (x : ℕ)
    → filter (λ d. survives_by (is_ended c) (is_found c) (write_of d)) (filter (writes_on x) (made lines)) ≡ filter (writes_on x)
    (committed_calls lines)
writes_last lines c has x =
    (λ i. filter (λ d. survives_by (λ n. has.committed n i) (λ u. has.found u i) (write_of d)) (filter (writes_on x) (made lines)))
    ∙ both_tests (lasts (committed lines) (recovered lines)) (writes_on x) (made lines)
    ∙ ap (filter (writes_on x)) (sym (made_last (committed lines) (recovered lines) (said lines)))

-- Those that survive, with their places.

-- without their places
pub survivors_are : (test : Write → Bool) (n : ℕ) (ws : List Write) → map (λ p. p.it) (survivors_from test n ws) ≡ filter test ws
survivors_are test n [] = refl
survivors_are test n (w ∷ ws) = by (test w) (survivors_are test (n + 1) ws)
  where
    by : (b : Bool) → map (λ p. p.it) (survivors_from test (n + 1) ws) ≡ filter test ws
        → map (λ p. p.it) (cons_option (cond b (Some (record {
          at = n;
          it =
              w;
        })) None) (survivors_from test (n + 1) ws)) ≡ cond b (w ∷ filter test ws) (filter test ws)
    by true ih = ap (λ vs. w ∷ vs) ih
    by false ih = ih

-- one write more
pub survivors_more : (test : Write → Bool) (n : ℕ) (ws : List Write) (w : Write)
    → survivors_from test n (ws ++ w ∷ []) ≡ survivors_from test n ws ++ cons_option (survivor test (n + length ws) w) []
survivors_more test n [] w = ap (λ m. cons_option (survivor test m w) []) (none_more n)
  where
    none_more : (n : ℕ) → n ≡ n + 0
    none_more n = omega arith
survivors_more test n (v ∷ ws) w =
    ap (cons_option (survivor test n v)) (survivors_more test (n + 1) ws w
    ∙ ap (λ m. survivors_from test (n + 1) ws ++ cons_option (survivor test m w) []) (next n (length ws)))
    ∙ by (survivor test n v) (survivors_from test (n + 1) ws) (cons_option (survivor test (n + length (v ∷ ws)) w) [])
  where
    next : (n m : ℕ) → n + 1 + m ≡ n + suc m
    next n m = omega arith

    by : (o : Option (Placed Write)) (ps qs : List (Placed Write)) → cons_option o (ps ++ qs) ≡ cons_option o ps ++ qs
    by None ps qs = refl
    by (Some p) ps qs = refl

-- the keys of those so far, with the next one
pub keys_more : (key : ℕ → List ℕ) (test : Write → Bool) (all : List Write) (i : ℕ) (w : Write) → i < length all → w ≡ get_or all i w
    → map (key_of key) (survivors_from test 0 (take (i + 1) all)) ≡ map (key_of key) (survivors_from test 0 (take i all)) ++ cons_option
    (option_map (key_of key) (survivor test i w)) []
keys_more key test all i w lt is =
    ap (λ ws. map (key_of key) (survivors_from test 0 ws)) (take_next all i w lt is)
    ∙ ap (map (key_of key)) (survivors_more test 0 (take i all) w
    ∙ ap (λ n. survivors_from test 0 (take i all) ++ cons_option (survivor test n w) []) (so_many i all lt))
    ∙ map-append (key_of key) (survivors_from test 0 (take i all)) (cons_option (survivor test i w) [])
    ∙ ap (λ ks. map (key_of key) (survivors_from test 0 (take i all)) ++ ks) (by (survivor test i w))
  where
    so_many : (n : ℕ) (xs : List Write) → n < length xs → 0 + length (take n xs) ≡ n
    so_many n [] lt = absurd (omega (arith, lt))
    so_many zero (x ∷ xs) lt = refl
    so_many (suc n) (x ∷ xs) lt = let ih = so_many n xs (omega (arith, lt)) in omega (arith, ih)

    by : (o : Option (Placed Write)) → map (key_of key) (cons_option o []) ≡ cons_option (option_map (key_of key) o) []
    by None = refl
    by (Some p) = refl
