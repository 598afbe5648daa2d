-- Surviving writes, sorted by their keys.
use Rattle.std.proofs.Common.{◌≡◌, ◌<◌, ℕ, ◌+◌, List, [], ◌∷◌, ◌++◌, length, map, Bool, true, false, cond, ◌&&◌, ◌==◌, nat_lt, Option, Some}
use Rattle.std.proofs.Common.{None}
use Rattle.std.proofs.Common.{slice_get, refl, sym, ◌∙◌, ap, subst, arith, length-append, append_assoc}
use Rattle.std.specs.Prelude.{filter}
use Rattle.std.specs.List.{AllByRecursion, cons_option, filter_map}
use Rattle.std.specs.Option.{option_map}
use Rattle.std.proofs.lemmas.Bool.Decides.{nat_tests}
use Rattle.arj_journal.specs.declared.body.Line.{Line}
use Rattle.arj_law.proofs.Common.{Pairwise, all_map, pairwise_map}
use Rattle.arj_law.proofs.Moves.{all_arrange}
use Rattle.arj_model.specs.Actions.{Placed}
use Rattle.arj_model.specs.Calls.{Call, Top, committed_calls, made, tops}
use Rattle.arj_model.specs.Last.{writes_of}
use Rattle.arj_model.specs.Serial.{arrange, lex, root_of, serial_key, serial_less, top_place, unit_place, writes_on}
use Rattle.arj_replay.proofs.Sorts.{arrange_map as keys_map, arrange_same, by_key, last_push}
use Rattle.arj_replay.specs.Sorting.{last_in_order, last_of}
use Rattle.arj_changes.proofs.Sorted.{arrange_map, filter_map_test, filter_sorted}
use Rattle.arj_changes.specs.Kept.{AreKept, is_ended, is_found}
use Rattle.arj_changes.specs.declared.kept.Changes.{Changes}
use Rattle.arj_last.proofs.Survive.{survivors_are, writes_last}
use Rattle.arj_last.specs.Groups.{items_of}
use Rattle.arj_last.specs.Kept.{AreWritten, write_of}
use Rattle.arj_last.specs.Survivors.{counted_write, key_of, survives_by, survivor, survivors_from, wrote_at, wrote_of}
use Rattle.arj_last.specs.declared.kept.Write.{Write}
use Rattle.arj_last.specs.declared.kept.Writes.{Writes}
use Rattle.arj_last.specs.declared.picked.Wrote.{Wrote}

-- Places.

at_seam : {A : Type 0} (before : List A) (a : A) (rest : List A) → slice_get (before ++ a ∷ rest) (length before) ≡ Some a
at_seam [] a rest = refl
at_seam (b ∷ before) a rest = at_seam before a rest

-- each stands at its place
stand : (test : Write → Bool) (before ws : List Write) (n : ℕ) → n ≡ length before →
    AllByRecursion (λ p. slice_get (before ++ ws) p.at ≡ Some p.it) (survivors_from test n ws)
stand test before [] n is = tt
stand test before (w ∷ ws) n is =
    by (test w)
    (subst (λ vs. AllByRecursion (λ p. slice_get vs p.at ≡ Some p.it) (survivors_from test (n + 1) ws)) (append_assoc before (w ∷ []) ws)
    (stand test (before ++ w ∷ []) ws (n + 1) (ap (λ m. m + 1) is ∙ sym (length-append before (w ∷ [])))))
  where
    by : (b : Bool) → AllByRecursion (λ p. slice_get (before ++ w ∷ ws) p.at ≡ Some p.it) (survivors_from test (n + 1) ws)
        → AllByRecursion (λ p. slice_get (before ++ w ∷ ws) p.at ≡ Some p.it) (cons_option (cond b (Some (record {
          at = n;
          it =
              w;
        })) None) (survivors_from test (n + 1) ws))
    by true there = (ap (slice_get (before ++ w ∷ ws)) is ∙ at_seam before w ws, there)
    by false there = there

-- their places rise
above : (test : Write → Bool) (m n : ℕ) (ws : List Write) → m < n → AllByRecursion (λ p. m < p.at) (survivors_from test n ws)
above test m n [] lt = tt
above test m n (w ∷ ws) lt = by (test w) (above test m (n + 1) ws (omega (arith, lt)))
  where
    by : (b : Bool) → AllByRecursion (λ p. m < p.at) (survivors_from test (n + 1) ws) →
        AllByRecursion (λ p. m < p.at) (cons_option (cond b (Some (record { at = n; it = w })) None) (survivors_from test (n + 1) ws))
    by true ih = (lt, ih)
    by false ih = ih

rise : (test : Write → Bool) (n : ℕ) (ws : List Write) → Pairwise (λ p q. p.at < q.at) (survivors_from test n ws)
rise test n [] = tt
rise test n (w ∷ ws) = by (test w) (rise test (n + 1) ws)
  where
    by : (b : Bool) → Pairwise (λ p q. p.at < q.at) (survivors_from test (n + 1) ws) →
        Pairwise (λ p q. p.at < q.at) (cons_option (cond b (Some (record { at = n; it = w })) None) (survivors_from test (n + 1) ws))
    by true ih = (above test n (n + 1) ws (omega arith), ih)
    by false ih = ih

-- Keys.

-- a later write isn't less for its place
later : (ts : List Top) (p q : Placed Write) → p.at < q.at →
    by_key (key_of (serial_key ts)) q p ≡ lex (serial_key ts q.it.top) (serial_key ts p.it.top)
later ts p q lt =
    by (unit_place ts (root_of ts q.it.top)) (top_place ts q.it.top) (unit_place ts (root_of ts p.it.top)) (top_place ts p.it.top)
  where
    behind : lex (q.at ∷ []) (p.at ∷ []) ≡ false
    behind =
        let back : nat_lt q.at p.at ≡ false = grind (arith, nat_tests, lt) in
        let apart : (q.at == p.at) ≡ false = grind (arith, nat_tests, lt) in
        (λ i. cond (back i) true (apart i && false))

    by : (u r v s : ℕ) → lex (u ∷ r ∷ q.at ∷ []) (v ∷ s ∷ p.at ∷ []) ≡ lex (u ∷ r ∷ []) (v ∷ s ∷ [])
    by u r v s = (λ i. cond (nat_lt u v) true ((u == v) && cond (nat_lt r s) true ((r == s) && behind i)))

last_places : (key : ℕ → List ℕ) (ps : List (Placed Write)) → map last_of (map (key_of key) ps) ≡ map (λ p. p.at) ps
last_places key [] = refl
last_places key (p ∷ ps) = (λ i. last_push (key p.it.top) p.at i ∷ last_places key ps i)

-- what is picked at their places
pick : (ws : List Write) (ps : List (Placed Write)) → AllByRecursion (λ p. slice_get ws p.at ≡ Some p.it) ps →
    filter_map (wrote_at ws) (map (λ p. p.at) ps) ≡ map counted_write (map (λ p. p.it) ps)
pick ws [] h = refl
pick ws (p ∷ ps) h = (λ i. cons_option (option_map counted_write (h.0 i)) (pick ws ps h.1 i))

both_maps : (cs : List Call) → map counted_write (map write_of cs) ≡ map wrote_of cs
both_maps [] = refl
both_maps (c ∷ cs) = ap (λ ws. wrote_of c ∷ ws) (both_maps cs)

-- what is picked in the order of the keys are the writes in serial order
pub picked_are : (lines : List Line) (c : Changes) (w : Writes) → AreKept lines c → AreWritten lines w → (x : ℕ) (all : List Write)
    (keys : List (List ℕ)) (places : List ℕ) → all ≡ items_of w.on x
    → keys ≡ map (key_of (serial_key (tops lines))) (survivors_from (survives_by (is_ended c) (is_found c)) 0 all)
    → places ≡ last_in_order keys → filter_map (wrote_at all) places ≡ map wrote_of (writes_of lines x)
picked_are lines c w has writes x all keys places alls are is =
    ap (filter_map (wrote_at all)) (is ∙ ap last_in_order are ∙ ap (map last_of) (keys_map (key_of key) ps) ∙ last_places key sorted)
    ∙ pick all sorted (all_arrange (λ p. slice_get all p.at ≡ Some p.it) (by_key (key_of key)) ps (stand test [] all 0 refl))
    ∙ ap (λ qs. map counted_write (map (λ p. p.it) qs)) (arrange_same (by_key (key_of key)) less_placed ps (pairwise_map
    (λ p q. p.at < q.at) (λ p q. by_key (key_of key) q p ≡ less_placed q p) (later ts) ps (rise test 0 all)))
    ∙ ap (map counted_write) (sym (arrange_map less_write (λ p. p.it) ps) ∙ ap (arrange less_write) (survivors_are test 0 all
    ∙ ap (filter test) (alls ∙ writes.on x) ∙ sym (filter_map_test test write_of (filter (writes_on x) (made lines)))
    ∙ ap (map write_of) (writes_last lines c has x)) ∙ arrange_map less_write write_of (filter (writes_on x) (committed_calls lines)))
    ∙ both_maps (arrange (serial_less ts) (filter (writes_on x) (committed_calls lines)))
    ∙ ap (map wrote_of) (filter_sorted (λ d. serial_key ts d.top) (writes_on x) (committed_calls lines))
  where
    ts : List Top
    ts = tops lines

    key : ℕ → List ℕ
    key = serial_key ts

    test : Write → Bool
    test = survives_by (is_ended c) (is_found c)

    ps : List (Placed Write)
    ps = survivors_from test 0 all

    sorted : List (Placed Write)
    sorted = arrange (by_key (key_of key)) ps

    less_write : Write → Write → Bool
    less_write v u = lex (key v.top) (key u.top)

    less_placed : Placed Write → Placed Write → Bool
    less_placed p q = less_write p.it q.it
