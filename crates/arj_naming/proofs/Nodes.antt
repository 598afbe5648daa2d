-- Lists of nodes, none twice.
use Rattle.std.proofs.Common.{◌≡◌, ◌≤◌, ◌<◌, ◌==◌, ◌||◌, ℕ, Bool, true, false, not, cond, List, [], ◌∷◌, ◌++◌, length, refl, arith}
use Rattle.std.specs.List.{AllByRecursion, IsDistinct, list_any}
use Rattle.std.proofs.lemmas.Bool.{or_parts, eqb-true}
use Rattle.std.proofs.lemmas.Bool.Decides.{nat_tests}
use Rattle.std.proofs.lemmas.Map.Steps.{length-le_from_distinct_below}
use Rattle.arj_entry.specs.Entry.{is_listed, with_store, without_store}
use Rattle.arj_msg.specs.InForm.{IsNode}
use Rattle.arj_naming.specs.Entries.{AreNodes, IsOnce}

turned : (a b : ℕ) → (a == b) ≡ false → (b == a) ≡ false
turned a b isnt = grind (arith, nat_tests)

apart : (n : ℕ) (ns : List ℕ) → is_listed n ns ≡ false → AllByRecursion (λ m. (n == m) ≡ false) ns
apart n [] none = tt
apart n (m ∷ ms) none = let p = or_parts (m == n) (is_listed n ms) none in (turned m n p.0, apart n ms p.1)

distinct : (ns : List ℕ) → IsOnce ns → IsDistinct (λ a b. a == b) ns
unfolding IsDistinct
distinct [] once = tt
distinct (n ∷ ns) once = (apart n ns once.0, distinct ns once.1)

below : (ns : List ℕ) (q : ℕ) → AllByRecursion IsNode ns → list_any (λ m. q == m) ns ≡ true → q < 17
below [] q all any = absurd (cc any)
below (n ∷ ns) q all any = by (q == n) refl any (below ns q all.1)
  where
    by : (b : Bool) → (q == n) ≡ b → (b || list_any (λ m. q == m) ns) ≡ true → (list_any (λ m. q == m) ns ≡ true → q < 17) → q < 17
    by true is any rest = let same : q ≡ n = eqb-true q n is in omega (arith, same, all.0.1)
    by false is any rest = rest any

-- there are at most 16 nodes
pub few_nodes : (ns : List ℕ) → AreNodes ns → length ns ≤ 255
few_nodes ns are = omega (arith, length-le_from_distinct_below ns 17 (distinct ns are.once) (λ q any. below ns q are.each any))

-- ---- a store goes

stays_out : (s n : ℕ) (ns : List ℕ) → is_listed n ns ≡ false → is_listed n (without_store s ns) ≡ false
stays_out s n [] none = refl
stays_out s n (m ∷ ms) none =
    by (m == s) (or_parts (m == n) (is_listed n ms) none) (stays_out s n ms (or_parts (m == n) (is_listed n ms) none).1)
  where
    by : (b : Bool) → ((m == n) ≡ false) × (is_listed n ms ≡ false) → is_listed n (without_store s ms) ≡ false →
        is_listed n (cond (not b) (m ∷ without_store s ms) (without_store s ms)) ≡ false
    by true p rest = rest
    by false p rest = λ i. p.0 i || rest i

once_without : (s : ℕ) (ns : List ℕ) → IsOnce ns → IsOnce (without_store s ns)
once_without s [] once = tt
once_without s (n ∷ ns) once = by (n == s) (once_without s ns once.1)
  where
    by : (b : Bool) → IsOnce (without_store s ns) → IsOnce (cond (not b) (n ∷ without_store s ns) (without_store s ns))
    by true rest = rest
    by false rest = (stays_out s n ns once.0, rest)

each_without : (s : ℕ) (ns : List ℕ) → AllByRecursion IsNode ns → AllByRecursion IsNode (without_store s ns)
each_without s [] all = tt
each_without s (n ∷ ns) all = by (n == s) (each_without s ns all.1)
  where
    by : (b : Bool) → AllByRecursion IsNode (without_store s ns) →
        AllByRecursion IsNode (cond (not b) (n ∷ without_store s ns) (without_store s ns))
    by true rest = rest
    by false rest = (all.0, rest)

pub nodes_without : (s : ℕ) (ns : List ℕ) → AreNodes ns → AreNodes (without_store s ns)
nodes_without s ns are = record { each = each_without s ns are.each; once = once_without s ns are.once }

-- ---- a store comes

listed_behind : (n s : ℕ) (ns : List ℕ) → is_listed n ns ≡ false → (s == n) ≡ false → is_listed n (ns ++ s ∷ []) ≡ false
listed_behind n s [] none isnt = λ i. isnt i || false
listed_behind n s (m ∷ ms) none isnt = let p = or_parts (m == n) (is_listed n ms) none in λ i. p.0 i || listed_behind n s ms p.1 isnt i

once_behind : (s : ℕ) (ns : List ℕ) → IsOnce ns → is_listed s ns ≡ false → IsOnce (ns ++ s ∷ [])
once_behind s [] once none = (refl, tt)
once_behind s (n ∷ ns) once none =
    let p = or_parts (n == s) (is_listed s ns) none in (listed_behind n s ns once.0 (turned n s p.0), once_behind s ns once.1 p.1)

each_behind : (s : ℕ) (ns : List ℕ) → AllByRecursion IsNode ns → IsNode s → AllByRecursion IsNode (ns ++ s ∷ [])
each_behind s [] all is = (is, tt)
each_behind s (n ∷ ns) all is = (all.0, each_behind s ns all.1 is)

pub nodes_with : (s : ℕ) (ns : List ℕ) → AreNodes ns → IsNode s → AreNodes (with_store s ns)
nodes_with s ns are is = by (is_listed s ns) refl
  where
    by : (b : Bool) → is_listed s ns ≡ b → AreNodes (cond b ns (ns ++ s ∷ []))
    by true listed = are
    by false none = record { each = each_behind s ns are.each is; once = once_behind s ns are.once none }
