-- The loops over actions and marks.
use Rattle.std.proofs.Common.{◌≡◌, ◌<◌, ℕ, suc, ◌+◌, List, [], ◌∷◌, ◌++◌, length, map, take, Option, Some, None, slice_get, get_or, refl}
use Rattle.std.proofs.Common.{sym, ◌∙◌, ap, arith}
use Rattle.std.specs.List.{filter_map, cons_option}
use Rattle.std.proofs.lemmas.List.{append_assoc, append-nil}
use Rattle.std.specs.Option.{option_map, unwrap_or}
use Rattle.std.proofs.lemmas.Option.{get_or_from_slice_get, slice_get-get_or, slice_get-map, unwrap_or-slice_get}
use Rattle.std.proofs.Math.Seq.{take-suc, take-length}
use Rattle.arj_journal.specs.declared.body.Line.{Line}
use Rattle.arj_model.specs.Actions.{Act, acts, committed, recovered}
use Rattle.arj_model.specs.Calls.{Top, committed_calls, tops}
use Rattle.arj_reading.specs.Reading.{HasRead, actions_of, placed_of}
use Rattle.arj_reading.specs.declared.reading.Reading.{Reading}
use Rattle.arj_reading.proofs.Numbers.{length_actions}
use Rattle.arj_replay.specs.Orders.{commits_in, nested_place, paths, serial_place}
use Rattle.arj_check.specs.Keys.{AreBelow, key_at, nested_of, nothing_below, numbers_at, one_or_none, serial_of, top_at}
use Rattle.arj_check.proofs.Paths.{length_paths}
use Rattle.arj_check.proofs.Marks.{keys_by, tops_are}

-- one top more, or none
pub top_step : (ts : List Top) (o : Option Top) (rest : List Top) → (ts ++ one_or_none o) ++ rest ≡ ts ++ cons_option o rest
top_step ts None rest = ap (λ us. us ++ rest) (append-nil ts)
top_step ts (Some t) rest = append_assoc ts (t ∷ []) rest

pub tops_start : (lines : List Line) (r : Reading) → HasRead lines r →
    filter_map (top_at (committed lines) (recovered lines) (paths (acts lines))) (map placed_of r.calls.items) ≡ tops lines
tops_start lines r has = ap (filter_map (top_at (committed lines) (recovered lines) (paths (acts lines)))) has.calls ∙ sym (tops_are lines)

-- one key more, or none
pub key_step : (ks : List (List ℕ)) (o : Option (List ℕ)) (rest : List (List ℕ)) →
    (ks ++ cons_option o []) ++ rest ≡ ks ++ cons_option o rest
key_step ks None rest = ap (λ us. us ++ rest) (append-nil ks)
key_step ks (Some k) rest = append_assoc ks (k ∷ []) rest

pub serial_start : (lines : List Line) (r : Reading) → HasRead lines r
    → filter_map (key_at (serial_of (tops lines)) (committed lines) (recovered lines) (paths (acts lines))) (map placed_of r.said.items) ≡ map (serial_place (tops lines)) (committed_calls lines)
serial_start lines r has =
    ap (filter_map (key_at (serial_of (tops lines)) (committed lines) (recovered lines) (paths (acts lines)))) has.said
    ∙ sym (keys_by (committed lines) (recovered lines) (serial_of (tops lines)) (serial_place (tops lines)) (λ s top. refl) [] tt 0 lines)

pub nested_start : (lines : List Line) (r : Reading) → HasRead lines r
    → filter_map (key_at (nested_of (tops lines) (committed lines)) (committed lines) (recovered lines) (paths (acts lines))) (map placed_of r.said.items) ≡ map (nested_place (tops lines) (committed lines)) (committed_calls lines)
nested_start lines r has =
    ap (filter_map (key_at (nested_of (tops lines) (committed lines)) (committed lines) (recovered lines) (paths (acts lines)))) has.said
    ∙ sym (keys_by (committed lines) (recovered lines) (nested_of (tops lines) (committed lines)) (nested_place (tops lines) (committed lines)) (λ s top. refl) [] tt 0 lines)

-- the path of the action that is next
pub next_path : (lines : List Line) (i : ℕ) → i < length (actions_of (acts lines)) →
    (p : List Act) × (slice_get (paths (acts lines)) i ≡ Some p) × (take (suc i) (paths (acts lines)) ≡ take i (paths (acts lines)) ++ p ∷ [])
next_path lines i lt =
    let same : length (paths (acts lines)) ≡ length (actions_of (acts lines)) =
    length_paths (acts lines) ∙ sym (length_actions (acts lines)) in
    let under : i < length (paths (acts lines)) = omega (arith, lt, same) in
    (get_or (paths (acts lines)) i [], slice_get-get_or (paths (acts lines)) i [] under, take-suc (paths (acts lines)) i [] under)

pub map_push : {A B : Type 0} (f : A → B) (xs : List A) (x : A) → map f (xs ++ x ∷ []) ≡ map f xs ++ f x ∷ []
map_push f [] x = refl
map_push f (y ∷ xs) x = ap (λ zs. f y ∷ zs) (map_push f xs x)

-- one value more, as a test
pub test_step : {A : Type 0} (f : List Act → A) (lines : List Line) (i : ℕ) (p : List Act) (tests : List A) (test : A) →
    take (suc i) (paths (acts lines)) ≡ take i (paths (acts lines)) ++ p ∷ [] → tests ≡ map f (take i (paths (acts lines))) → test ≡ f p
    → tests ++ test ∷ [] ≡ map f (take (i + 1) (paths (acts lines)))
test_step f lines i p tests test more so_far is =
    (λ k. so_far k ++ is k ∷ []) ∙ sym (map_push f (take i (paths (acts lines))) p) ∙ ap (map f) (sym more) ∙ ap (λ n. map f (take n (paths (acts lines)))) (one_more i)
  where
    one_more : (n : ℕ) → suc n ≡ n + 1
    one_more n = omega arith

-- all of them
pub test_end : {A : Type 0} (f : List Act → A) (lines : List Line) (n : ℕ) → n ≡ length (actions_of (acts lines)) →
    map f (take n (paths (acts lines))) ≡ map f (paths (acts lines))
test_end f lines n e =
    ap (λ m. map f (take m (paths (acts lines)))) (e ∙ length_actions (acts lines) ∙ sym (length_paths (acts lines))) ∙ ap (map f) (take-length (paths (acts lines)))

-- where no numbers are kept, none are found
pub none_below : (lines : List Line) (keys : List (List ℕ)) → keys ≡ [] → AreBelow (paths (acts lines)) nothing_below keys
none_below lines keys e = record { at = λ i p is. ap (λ ks. numbers_at ks (Some i)) e }

-- the numbers that are kept of each path are found
pub commits_below : (lines : List Line) (keys : List (List ℕ)) → keys ≡ map (commits_in (committed lines)) (paths (acts lines)) →
    AreBelow (paths (acts lines)) (commits_in (committed lines)) keys
commits_below lines keys e = record {
  at = λ i p is. ap (λ ks. numbers_at ks (Some i)) e ∙ get_or_from_slice_get (map (commits_in (committed lines)) (paths (acts lines))) i (commits_in (committed lines) p) [] (slice_get-map (commits_in (committed lines)) (paths (acts lines)) i ∙ ap (option_map (commits_in (committed lines))) is);
}

-- the numbers at a place, by what is kept there
pub numbers_none : {A : Type 0} (f : A → List ℕ) (ks : List A) (i : ℕ) → slice_get ks i ≡ None → numbers_at (map f ks) (Some i) ≡ []
numbers_none f ks i e = sym (unwrap_or-slice_get (map f ks) i []) ∙ ap (λ o. unwrap_or o []) (slice_get-map f ks i ∙ ap (option_map f) e)

pub numbers_some : {A : Type 0} (f : A → List ℕ) (ks : List A) (i : ℕ) (k : A) → slice_get ks i ≡ Some k →
    numbers_at (map f ks) (Some i) ≡ f k
numbers_some f ks i k e = get_or_from_slice_get (map f ks) i (f k) [] (slice_get-map f ks i ∙ ap (option_map f) e)
