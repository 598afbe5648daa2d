-- Sets of nodes increase, and those of a plan that fits are of nodes 1 to 16.
use Rattle.std.proofs.Common.{◌≡◌, ℕ, ◌<◌, ◌≤◌, List, [], ◌∷◌, ◌++◌, Bool, true, false, not, ◌||◌, ◌==◌, Option, Some, None, if◌then◌else◌}
use Rattle.std.proofs.Common.{map, filter, length, refl, subst, arith}
use Rattle.std.specs.List.{flat_map, AllByRecursion}
use Rattle.std.specs.List.Sorted.{IsStrictlySortedBy}
use Rattle.std.specs.Ordering.{nat_cmp, match_ordering}
use Rattle.std.specs.declared.cmp.Ordering.{Ordering}
use Rattle.std.specs.declared.cmp.Ordering.TheVariants.{Less, Equal, Greater}
use Rattle.std.proofs.lemmas.Bool.Decides.{nat_tests}
use Rattle.std.proofs.lemmas.List.Elements.{All-from_recursion}
use Rattle.std.proofs.lemmas.Map.Views.{length-le_from_below}
use Rattle.arj_base.specs.declared.state.ObjectState.{ObjectState}
use Rattle.arj_protocol.specs.Order.{has, with_number, without_number, number_set}
use Rattle.arj_protocol.specs.Commit.{Used, Plan, stores_by, changed_of, servers_of, targets_of, naming_node, participants}
use Rattle.arj_commit.specs.Fits.{IsNode, UsedFits, PlanFits}
use Rattle.arj_commit.specs.Tolds.{AreInForm}

-- ---- a fact of each number of a list

pub all_with : (P : ℕ → Type 0) (n : ℕ) (ns : List ℕ) → P n → AllByRecursion P ns → AllByRecursion P (with_number n ns)
all_with P n [] is all = (is, tt)
all_with P n (m ∷ ns) is all = by (nat_cmp n m) (all_with P n ns is all.1)
  where
    by : (o : Ordering) → AllByRecursion P (with_number n ns) →
        AllByRecursion P (match_ordering o (n ∷ m ∷ ns) (m ∷ ns) (m ∷ with_number n ns))
    by Less rest = (is, all)
    by Equal rest = all
    by Greater rest = (all.0, rest)

pub all_set : (P : ℕ → Type 0) (ns : List ℕ) → AllByRecursion P ns → AllByRecursion P (number_set ns)
all_set P [] all = tt
all_set P (n ∷ ns) all = all_with P n (number_set ns) all.0 (all_set P ns all.1)

pub all_append : (P : ℕ → Type 0) (ns ms : List ℕ) → AllByRecursion P ns → AllByRecursion P ms → AllByRecursion P (ns ++ ms)
all_append P [] ms none all = all
all_append P (n ∷ ns) ms all rest = (all.0, all_append P ns ms all.1 rest)

pub all_without : (P : ℕ → Type 0) (n : ℕ) (ns : List ℕ) → AllByRecursion P ns → AllByRecursion P (without_number n ns)
all_without P n [] all = tt
all_without P n (m ∷ ns) all = by (m == n) (all_without P n ns all.1)
  where
    by : (b : Bool) → AllByRecursion P (without_number n ns) →
        AllByRecursion P (if not b then m ∷ without_number n ns else without_number n ns)
    by true rest = rest
    by false rest = (all.0, rest)

pub one_of : (P : ℕ → Type 0) (ns : List ℕ) (n : ℕ) → AllByRecursion P ns → has ns n ≡ true → P n
one_of P [] n all there = absurd (cc there)
one_of P (m ∷ ns) n all there = by (m == n) refl there (one_of P ns n all.1)
  where
    is : (m == n) ≡ true → m ≡ n
    is same = grind (arith, nat_tests, same)

    by : (b : Bool) → (m == n) ≡ b → (b || has ns n) ≡ true → (has ns n ≡ true → P n) → P n
    by true same t rest = subst P (is same) all.0
    by false other t rest = rest t

-- ---- sets increase

pub sorted_with : (n : ℕ) (ns : List ℕ) → IsStrictlySortedBy nat_cmp ns → IsStrictlySortedBy nat_cmp (with_number n ns)
unfolding IsStrictlySortedBy
sorted_with n [] sorted = (tt, tt)
sorted_with n (m ∷ ns) sorted = by (nat_cmp n m) refl (sorted_with n ns sorted.1)
  where
    less : nat_cmp n m ≡ Less → (k : ℕ) → nat_cmp m k ≡ Less → nat_cmp n k ≡ Less
    less first k second = grind (arith, nat_tests, first, second)

    over : nat_cmp n m ≡ Less → (ks : List ℕ) → AllByRecursion (λ k. nat_cmp m k ≡ Less) ks → AllByRecursion (λ k. nat_cmp n k ≡ Less) ks
    over first [] all = tt
    over first (k ∷ ks) all = (less first k all.0, over first ks all.1)

    more : nat_cmp n m ≡ Greater → nat_cmp m n ≡ Less
    more is = grind (arith, nat_tests, is)

    by : (o : Ordering) → nat_cmp n m ≡ o → IsStrictlySortedBy nat_cmp (with_number n ns)
        → IsStrictlySortedBy nat_cmp (match_ordering o (n ∷ m ∷ ns) (m ∷ ns) (m ∷ with_number n ns))
    by Less is rest = ((is, over is ns sorted.0), sorted)
    by Equal is rest = sorted
    by Greater is rest = (all_with (λ k. nat_cmp m k ≡ Less) n ns (more is) sorted.0, rest)

pub sorted_set : (ns : List ℕ) → IsStrictlySortedBy nat_cmp (number_set ns)
unfolding IsStrictlySortedBy
sorted_set [] = tt
sorted_set (n ∷ ns) = sorted_with n (number_set ns) (sorted_set ns)

-- a node or none: 0 to 16
abbrev IsAtMost : ℕ → Type 0
IsAtMost n = n ≤ 16

most : (ns : List ℕ) → AllByRecursion IsNode ns → AllByRecursion IsAtMost ns
most [] all = tt
most (n ∷ ns) all = (all.0.1, most ns all.1)

below : (ns : List ℕ) → AllByRecursion IsAtMost ns → AllByRecursion (λ n. n < 17) ns
below [] all = tt
below (n ∷ ns) all = (omega (arith, all.0), below ns all.1)

-- a set of nodes can be a record's
pub in_form : (ns : List ℕ) → AllByRecursion IsAtMost ns → AreInForm (number_set ns)
in_form ns all =
    let set = number_set ns in
    let few : length set ≤ 17 =
    length-le_from_below 17 set (sorted_set ns) (All-from_recursion (λ n. n < 17) set (below set (all_set IsAtMost ns all))) in
    record { increasing = sorted_set ns; few = omega (arith, few) }

-- ---- the nodes of a plan

stores_are : (u : Used) (o : Option ObjectState) → UsedFits u → AllByRecursion IsNode (stores_by u o)
stores_are u None fits = fits.joins
stores_are u (Some s) fits = all_append IsNode u.stores u.joins fits.stores fits.joins

targets_are : (p : Plan) (us : List Used) → AllByRecursion UsedFits us →
    AllByRecursion IsNode (flat_map (λ u. stores_by u (changed_of u.x p)) us)
targets_are p [] all = tt
targets_are p (u ∷ us) all =
    all_append IsNode (stores_by u (changed_of u.x p)) (flat_map (λ w. stores_by w (changed_of w.x p)) us) (stores_are u (changed_of u.x p) all.0) (targets_are p us all.1)

pub targets_nodes : (p : Plan) → PlanFits p → AllByRecursion IsNode (targets_of p)
targets_nodes p fits = all_set IsNode (flat_map (λ u. stores_by u (changed_of u.x p)) p.used) (targets_are p p.used fits.used)

servers_are : (us : List Used) → AllByRecursion UsedFits us →
    AllByRecursion IsAtMost (map (λ (u : Used). u.server) (filter (λ (u : Used). u.called) us))
servers_are [] all = tt
servers_are (u ∷ us) all = by u.called (servers_are us all.1)
  where
    by : (b : Bool) → AllByRecursion IsAtMost (map (λ (w : Used). w.server) (filter (λ (w : Used). w.called) us))
        → AllByRecursion IsAtMost (map (λ (w : Used). w.server) (if b then u ∷ filter (λ (w : Used). w.called) us else filter (λ (w : Used). w.called) us))
    by true rest = (all.0.server, rest)
    by false rest = rest

naming_is : (b : Bool) → AllByRecursion IsAtMost (if b then 1 ∷ [] else [])
naming_is true = (omega arith, tt)
naming_is false = tt

-- the participants of a plan can be a record's
pub participants_in_form : (p : Plan) → PlanFits p → AreInForm (participants p)
participants_in_form p fits =
    let servers = all_set IsAtMost (map (λ (u : Used). u.server) (filter (λ (u : Used). u.called) p.used)) (servers_are p.used fits.used) in
    in_form (servers_of p ++ p.prepared ++ naming_node p)
    (all_append IsAtMost (servers_of p ++ p.prepared) (naming_node p) (all_append IsAtMost (servers_of p) p.prepared servers (most p.prepared fits.prepared)) (naming_is p.confirmed))
