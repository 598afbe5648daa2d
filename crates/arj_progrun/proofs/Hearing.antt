-- Programs that hear a line, one after another.
use Rattle.std.proofs.Common.{◌≡◌, ◌∙◌, ℕ, zero, suc, ◌+◌, List, [], ◌∷◌, refl, ap, sym, length, slice_get, slice_set, slice_index_or, ◌<◌}
use Rattle.std.proofs.Common.{Option, Some, None, Bool, subst, arith, map}
use Rattle.std.proofs.Math.Numerals.{add-one}
use Rattle.std.proofs.lemmas.List.{length-map}
use Rattle.arj_progrun.proofs.Stacks.{some_same}
use Rattle.arj_journal.specs.declared.body.Body.{Body}
use Rattle.arj_progrun.specs.Client.{Client, hears}
use Rattle.std.specs.List.{AllByRecursion}
use Rattle.std.specs.Option.{option_map}
use Rattle.arj_progrun.proofs.Counts.{IsUpTo, hears_up}
use Rattle.arj_progrun.specs.Kept.{Hears, IsWithin, clients_of, first_hear}
use Rattle.arj_progrun.specs.Levels.{client_of}
use Rattle.arj_progrun.specs.declared.client.Client.{Client as kept_client}
use Rattle.arj_progrun.specs.Schedule.{all_hear, is_by}

pub all_heard : (by : Option ℕ) (at : ℕ) (b : Body) (cs : List Client) → first_hear by at b (length cs) cs ≡ all_hear by at b cs
all_heard by at b [] = refl
all_heard by at b (c ∷ cs) = ap (λ ds. hears b (is_by by at) c ∷ ds) (all_heard by (at + 1) b cs)

heard_suc : (by : Option ℕ) (at n : ℕ) (b : Body) (c : Client) (cs : List Client) → slice_get cs n ≡ Some c →
    first_hear by at b (suc n) cs ≡ slice_set (first_hear by at b n cs) n (hears b (is_by by (at + n)) c)
heard_suc by at n b c [] is = let never : None ≡ Some c = is in cc
heard_suc by at zero b c (d ∷ cs) is =
    λ i. hears b (is_by by (let e : at ≡ at + 0 = omega arith in e i)) (some_same d c is i) ∷ cs
heard_suc by at (suc n) b c (d ∷ cs) is =
    ap (λ ds. hears b (is_by by at) d ∷ ds)
    (heard_suc by (at + 1) n b c cs is
    ∙ ap (λ k. slice_set (first_hear by (at + 1) b n cs) n (hears b (is_by by k) c)) (let e : at + 1 + n ≡ at + suc n =
    omega arith in e))

pub heard_more : (by : Option ℕ) (n : ℕ) (b : Body) (c : Client) (cs : List Client) → slice_get cs n ≡ Some c →
    first_hear by 0 b (n + 1) cs ≡ slice_set (first_hear by 0 b n cs) n (hears b (is_by by n) c)
heard_more by n b c cs is = ap (λ k. first_hear by 0 b k cs) (add-one n) ∙ heard_suc by 0 n b c cs is
    ∙ ap (λ k. slice_set (first_hear by 0 b n cs) n (hears b (is_by by k) c)) (let e : 0 + n ≡ n = omega arith in e)

pub map_set : (ks : List kept_client) (at : ℕ) (k : kept_client) →
    map client_of (slice_set ks at k) ≡ slice_set (map client_of ks) at (client_of k)
map_set [] at k = refl
map_set (j ∷ ks) zero k = refl
map_set (j ∷ ks) (suc at) k = ap (λ cs. client_of j ∷ cs) (map_set ks at k)

pub get_mapped : (ks : List kept_client) (at : ℕ) (k : kept_client) → slice_get ks at ≡ Some k →
    slice_get (map client_of ks) at ≡ Some (client_of k)
get_mapped [] at k is = let never : None ≡ Some k = is in cc
get_mapped (j ∷ ks) zero k is = ap (λ o. option_map client_of o) is
get_mapped (j ∷ ks) (suc at) k is = get_mapped ks at k is

untouched : (by : Option ℕ) (at n : ℕ) (b : Body) (cs : List Client) → slice_get (first_hear by at b n cs) n ≡ slice_get cs n
untouched by at zero b cs = refl
untouched by at (suc n) b [] = refl
untouched by at (suc n) b (c ∷ cs) = untouched by (at + 1) n b cs

pub one_more : (by : Option ℕ) (n : ℕ) (b : Body) (first old new : List kept_client) →
    clients_of old ≡ first_hear by 0 b n (clients_of first) → Hears n b (is_by by n) old new →
    clients_of new ≡ first_hear by 0 b (n + 1) (clients_of first)
one_more by n b first old new before (was, is, got, set, heard) =
    ap clients_of set ∙ map_set old n is ∙ (λ i. slice_set (before i) n (heard i))
    ∙ sym (heard_more by n b (client_of was) (clients_of first)
    (sym (untouched by 0 n b (clients_of first)) ∙ ap (λ cs. slice_get cs n) (sym before) ∙ get_mapped old n was got))

pub all_of_them : (by : Option ℕ) (b : Body) (ks : List kept_client) →
    first_hear by 0 b (length ks) (clients_of ks) ≡ all_hear by 0 b (clients_of ks)
all_of_them by b ks = ap (λ n. first_hear by 0 b n (clients_of ks)) (sym (length-map ks client_of)) ∙ all_heard by 0 b (clients_of ks)

pub get_within : (turn : ℕ) (ks : List kept_client) (at : ℕ) (k : kept_client) → AllByRecursion (IsWithin turn) ks →
    slice_get ks at ≡ Some k → IsWithin turn k
get_within turn [] at k all is = let never : None ≡ Some k = is in cc
get_within turn (j ∷ ks) zero k all is = subst (IsWithin turn) (some_same j k is) all.0
get_within turn (j ∷ ks) (suc at) k all is = get_within turn ks at k all.1 is

pub set_within : (turn : ℕ) (ks : List kept_client) (at : ℕ) (k : kept_client) → AllByRecursion (IsWithin turn) ks → IsWithin turn k →
    AllByRecursion (IsWithin turn) (slice_set ks at k)
set_within turn [] at k all one = tt
set_within turn (j ∷ ks) zero k all one = (one, all.1)
set_within turn (j ∷ ks) (suc at) k all one = (all.0, set_within turn ks at k all.1 one)

pub stays_within : (turn n : ℕ) (b : Body) (own : Bool) (old new : List kept_client) → Hears n b own old new →
    AllByRecursion (IsWithin turn) old → AllByRecursion (IsWithin turn) new
stays_within turn n b own old new (was, is, got, set, heard) all =
    subst (AllByRecursion (IsWithin turn)) (sym set) (set_within turn old n is all
    (subst (IsUpTo turn) (sym heard) (hears_up turn b own (client_of was) (get_within turn old n was all got))))

-- the item at a place
pub item_at : (ks : List kept_client) (at : ℕ) (k : kept_client) → at < length ks → k ≡ slice_index_or ks at k → slice_get ks at ≡ Some k
item_at [] at k h is = absurd (omega (arith, h))
item_at (j ∷ ks) zero k h is = ap Some (sym is)
item_at (j ∷ ks) (suc at) k h is = item_at ks at k (omega (arith, h)) is
