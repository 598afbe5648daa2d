-- The numbers of the actions that wait, as actions begin and change.
use Rattle.std.proofs.Common.{◌≡◌, ℕ, ◌+◌, ◌<◌, zero, suc, List, [], ◌∷◌, ◌++◌, Bool, true, false, not, refl, ap, sym, ◌∙◌, Some, arith}
use Rattle.std.proofs.Common.{if◌then◌else◌, ◌||◌, cond}
use Rattle.std.specs.Prelude.{slice_get, slice_set, length, IsTrue, ◌↔◌}
use Rattle.std.specs.BTreeSet.{insert_key}
use Rattle.std.specs.BTreeMap.{is_at}
use Rattle.std.specs.Set.{remove_key}
use Rattle.std.specs.List.{list_any}
use Rattle.std.specs.declared.cmp.Ordering.TheVariants.{Less, Equal, Greater}
use Rattle.std.specs.Ordering.{nat_cmp, is_eq, match_ordering}
use Rattle.std.specs.Cmp.{nat_cmp_is}
use Rattle.arj_protocol.specs.Coord.{Doing}
use Rattle.arj_protocol.specs.Step.{is_waiting_now}
use Rattle.std.proofs.lemmas.Option.{slice_get_within}
use Rattle.arj_coord.specs.Waiting.{waiting, marked}

less_is : (m n : ℕ) → m < n → nat_cmp m n ≡ Less
less_is m n less = sym (nat_cmp_is m n Less less)

same_is : (n : ℕ) → nat_cmp n n ≡ Equal
same_is n = sym (nat_cmp_is n n Equal refl)

more_is : (m n : ℕ) → n < m → nat_cmp m n ≡ Greater
more_is m n less = sym (nat_cmp_is m n Greater less)

-- a number below those of all actions goes first
put_first : (m n : ℕ) (ds : List Doing) → m < n → insert_key nat_cmp (waiting n ds) m ≡ m ∷ waiting n ds
put_first m n [] less = refl
put_first m n (d ∷ ds) less = by (is_waiting_now d.now) (put_first m (n + 1) ds (omega (arith, less)))
  where
    by : (t : Bool) → insert_key nat_cmp (waiting (n + 1) ds) m ≡ m ∷ waiting (n + 1) ds
        → insert_key nat_cmp (if t then n ∷ waiting (n + 1) ds else waiting (n + 1) ds) m ≡ m ∷ (if t then n ∷ waiting (n + 1) ds else waiting (n + 1) ds)
    by true ih = ap (λ o. match_ordering o (m ∷ n ∷ waiting (n + 1) ds) (n ∷ waiting (n + 1) ds) (n ∷ insert_key nat_cmp (waiting (n + 1) ds) m)) (less_is m n less)
    by false ih = ih

-- and takes none out
take_none : (m n : ℕ) (ds : List Doing) → m < n → remove_key (is_at (nat_cmp m)) (waiting n ds) ≡ waiting n ds
take_none m n [] less = refl
take_none m n (d ∷ ds) less = by (is_waiting_now d.now) (take_none m (n + 1) ds (omega (arith, less)))
  where
    by : (t : Bool) → remove_key (is_at (nat_cmp m)) (waiting (n + 1) ds) ≡ waiting (n + 1) ds
        → remove_key (is_at (nat_cmp m)) (if t then n ∷ waiting (n + 1) ds else waiting (n + 1) ds) ≡ (if t then n ∷ waiting (n + 1) ds else waiting (n + 1) ds)
    by true ih = ap (λ o. cond (is_eq o) (waiting (n + 1) ds) (n ∷ remove_key (is_at (nat_cmp m)) (waiting (n + 1) ds))) (less_is m n less) ∙ ap (λ ns. n ∷ ns) ih
    by false ih = ih

-- an action that begins waits for nothing
pub waiting_begun : (n : ℕ) (ds : List Doing) (d : Doing) → is_waiting_now d.now ≡ false → waiting n (ds ++ d ∷ []) ≡ waiting n ds
waiting_begun n [] d idle = rw idle refl
waiting_begun n (c ∷ ds) d idle = ap (λ ns. if is_waiting_now c.now then n ∷ ns else ns) (waiting_begun (n + 1) ds d idle)

-- an action that waits from now on
pub waiting_more : (n k : ℕ) (ds : List Doing) (d : Doing) → k < length ds → is_waiting_now d.now ≡ true →
    waiting n (slice_set ds k d) ≡ insert_key nat_cmp (waiting n ds) (n + k)
waiting_more n k [] d within waits = absurd (omega (arith, within))
waiting_more n zero (c ∷ ds) d within waits = rw waits (by (is_waiting_now c.now))
  where
    here : n + zero ≡ n
    here = omega arith

    by : (t : Bool) → n ∷ waiting (n + 1) ds ≡ insert_key nat_cmp (if t then n ∷ waiting (n + 1) ds else waiting (n + 1) ds) (n + zero)
    by true = rw here (ap (λ o. match_ordering o (n ∷ n ∷ waiting (n + 1) ds) (n ∷ waiting (n + 1) ds) (n ∷ insert_key nat_cmp (waiting (n + 1) ds) n)) (sym (same_is n)))
    by false = rw here (sym (put_first n (n + 1) ds (omega arith)))
waiting_more n (suc k) (c ∷ ds) d within waits = by (is_waiting_now c.now) (waiting_more (n + 1) k ds d (omega (arith, within)) waits)
  where
    place : (n + 1) + k ≡ n + suc k
    place = omega arith

    ms : List ℕ
    ms = waiting (n + 1) ds

    by : (t : Bool) → waiting (n + 1) (slice_set ds k d) ≡ insert_key nat_cmp ms ((n + 1) + k)
        → (if t then n ∷ waiting (n + 1) (slice_set ds k d) else waiting (n + 1) (slice_set ds k d)) ≡ insert_key nat_cmp (if t then n ∷ ms else ms) (n + suc k)
    by true ih = ap (λ ns. n ∷ ns) (ih ∙ ap (insert_key nat_cmp ms) place) ∙ ap (λ o. match_ordering o ((n + suc k) ∷ n ∷ ms) (n ∷ ms) (n ∷ insert_key nat_cmp ms (n + suc k))) (sym (more_is (n + suc k) n (omega arith)))
    by false ih = ih ∙ ap (insert_key nat_cmp ms) place

-- an action that doesn't wait from now on
pub waiting_less : (n k : ℕ) (ds : List Doing) (d : Doing) → k < length ds → is_waiting_now d.now ≡ false →
    waiting n (slice_set ds k d) ≡ remove_key (is_at (nat_cmp (n + k))) (waiting n ds)
waiting_less n k [] d within idle = absurd (omega (arith, within))
waiting_less n zero (c ∷ ds) d within idle = rw idle (by (is_waiting_now c.now))
  where
    here : n + zero ≡ n
    here = omega arith

    equal : nat_cmp (n + zero) n ≡ Equal
    equal = ap (λ m. nat_cmp m n) here ∙ same_is n

    by : (t : Bool) →
        waiting (n + 1) ds ≡ remove_key (is_at (nat_cmp (n + zero))) (if t then n ∷ waiting (n + 1) ds else waiting (n + 1) ds)
    by true = ap (λ o. cond (is_eq o) (waiting (n + 1) ds) (n ∷ remove_key (is_at (nat_cmp (n + zero))) (waiting (n + 1) ds))) (sym equal)
    by false = rw here (sym (take_none n (n + 1) ds (omega arith)))
waiting_less n (suc k) (c ∷ ds) d within idle = by (is_waiting_now c.now) (waiting_less (n + 1) k ds d (omega (arith, within)) idle)
  where
    place : (n + 1) + k ≡ n + suc k
    place = omega arith

    ms : List ℕ
    ms = waiting (n + 1) ds

    by : (t : Bool) → waiting (n + 1) (slice_set ds k d) ≡ remove_key (is_at (nat_cmp ((n + 1) + k))) ms
        → (if t then n ∷ waiting (n + 1) (slice_set ds k d) else waiting (n + 1) (slice_set ds k d)) ≡ remove_key (is_at (nat_cmp (n + suc k))) (if t then n ∷ ms else ms)
    by true ih = ap (λ ns. n ∷ ns) (ih ∙ ap (λ m. remove_key (is_at (nat_cmp m)) ms) place) ∙ ap (λ o. cond (is_eq o) ms (n ∷ remove_key (is_at (nat_cmp (n + suc k))) ms)) (sym (more_is (n + suc k) n (omega arith)))
    by false ih = ih ∙ ap (λ m. remove_key (is_at (nat_cmp m)) ms) place

-- an action that changes and waits as before, or not, as before
pub waiting_same : (n k : ℕ) (ds : List Doing) (c d : Doing) → slice_get ds k ≡ Some c → is_waiting_now d.now ≡ is_waiting_now c.now →
    waiting n (slice_set ds k d) ≡ waiting n ds
waiting_same n k [] c d at same = absurd (cc at)
waiting_same n zero (b ∷ ds) c d at same =
    let here : b ≡ c =
    cc at in ap (λ t. if t then n ∷ waiting (n + 1) ds else waiting (n + 1) ds) (same ∙ ap (λ (x : Doing). is_waiting_now x.now) (sym here))
waiting_same n (suc k) (b ∷ ds) c d at same = ap (λ ns. if is_waiting_now b.now then n ∷ ns else ns) (waiting_same (n + 1) k ds c d at same)

-- none waits exactly where no number is listed
pub none_waits : (n : ℕ) (ds : List Doing) → waiting n ds ≡ [] → list_any (λ (d : Doing). is_waiting_now d.now) ds ≡ false
none_waits n [] none = refl
none_waits n (d ∷ ds) none = by (is_waiting_now d.now) (none_waits (n + 1) ds) none
  where
    by : (t : Bool) → (waiting (n + 1) ds ≡ [] → list_any (λ (d : Doing). is_waiting_now d.now) ds ≡ false) →
        (if t then n ∷ waiting (n + 1) ds else waiting (n + 1) ds) ≡ [] → (t || list_any (λ (d : Doing). is_waiting_now d.now) ds) ≡ false
    by true ih none = absurd (cc none)
    by false ih none = ih none

pub some_waits : (n : ℕ) (ds : List Doing) (m : ℕ) (ms : List ℕ) → waiting n ds ≡ m ∷ ms →
    list_any (λ (d : Doing). is_waiting_now d.now) ds ≡ true
some_waits n [] m ms some = absurd (cc some)
some_waits n (d ∷ ds) m ms some = by (is_waiting_now d.now) (some_waits (n + 1) ds m ms) some
  where
    by : (t : Bool) → (waiting (n + 1) ds ≡ m ∷ ms → list_any (λ (d : Doing). is_waiting_now d.now) ds ≡ true) →
        (if t then n ∷ waiting (n + 1) ds else waiting (n + 1) ds) ≡ m ∷ ms → (t || list_any (λ (d : Doing). is_waiting_now d.now) ds) ≡ true
    by true ih some = refl
    by false ih some = ih some

-- an action that changes
pub waiting_marked : (k : ℕ) (ds : List Doing) (c d : Doing) → slice_get ds k ≡ Some c →
    waiting 1 (slice_set ds k d) ≡ marked (is_waiting_now d.now) (suc k) (waiting 1 ds)
waiting_marked k ds c d at = by (is_waiting_now d.now) refl
  where
    within : k < length ds
    within = slice_get_within ds k c at

    place : 1 + k ≡ suc k
    place = omega arith

    by : (t : Bool) → is_waiting_now d.now ≡ t → waiting 1 (slice_set ds k d) ≡ marked t (suc k) (waiting 1 ds)
    by true is = waiting_more 1 k ds d within is ∙ ap (insert_key nat_cmp (waiting 1 ds)) place
    by false is = waiting_less 1 k ds d within is ∙ ap (λ m. remove_key (is_at (nat_cmp m)) (waiting 1 ds)) place

-- an action that changes, by the numbers that were kept
pub changed_keeps : (keys ps : List ℕ) (k number : ℕ) (t : Bool) (ds : List Doing) (c d : Doing) → slice_get ds k ≡ Some c →
    keys ≡ waiting 1 ds → number ≡ suc k → is_waiting_now d.now ≡ t → ps ≡ marked t number keys → ps ≡ waiting 1 (slice_set ds k d)
changed_keeps keys ps k number t ds c d at keys_are number_is so ps_are =
    ps_are ∙ (λ i. marked (sym so i) (number_is i) (keys_are i)) ∙ sym (waiting_marked k ds c d at)

-- an action that changes and waits as before
pub part_keeps : (keys : List ℕ) (k : ℕ) (ds : List Doing) (c d : Doing) → slice_get ds k ≡ Some c → keys ≡ waiting 1 ds →
    is_waiting_now d.now ≡ is_waiting_now c.now → keys ≡ waiting 1 (slice_set ds k d)
part_keeps keys k ds c d at keys_are same = keys_are ∙ sym (waiting_same 1 k ds c d at same)

-- whether none waits, by the numbers of those that do
pub empty_is : (b : Bool) (ns : List ℕ) (ds : List Doing) → (IsTrue b ↔ (length ns ≡ 0)) → ns ≡ waiting 1 ds →
    b ≡ not (list_any (λ (d : Doing). is_waiting_now d.now) ds)
empty_is true [] ds is are = sym (ap not (none_waits 1 ds (sym are)))
empty_is true (n ∷ ns) ds is are = absurd (cc (is.0 refl))
empty_is false [] ds is are = absurd (cc (is.1 refl))
empty_is false (n ∷ ns) ds is are = sym (ap not (some_waits 1 ds n ns (sym are)))
