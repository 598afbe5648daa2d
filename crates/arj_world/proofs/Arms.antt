-- Arms by node, as the list that the protocol has of them.
use Rattle.std.proofs.Common.{◌≡◌, ℕ, zero, suc, ◌+◌, ◌≤◌, ◌<◌, ◌==◌, Bool, true, false, not, if◌then◌else◌, [], ◌∷◌, ◌++◌, refl, ap, sym}
use Rattle.std.proofs.Common.{◌∙◌, subst, Option, Some, None, arith, filter}
use Rattle.std.specs.declared.cmp.Ordering.TheVariants.{Less, Equal, Greater}
use Rattle.std.specs.Ordering.{nat_cmp}
use Rattle.arj_protocol.specs.Order.{at_number, put_number}
use Rattle.arj_protocol.specs.World.{Arm}
use Rattle.arj_world.specs.Goes.{Admits, Pick, arms_from, one_arm, but_at}
use Rattle.arj_world.specs.Turns.{FallAtWorks}

same : (k j : ℕ) → (j == k) ≡ true → k ≡ j
same k j h = grind (arith, h)

-- numbers that aren't the same, one after the other
behind : (k j : ℕ) → k ≤ j → (j == k) ≡ false → k < j
behind k j low other = grind (arith, low, other)

itself : (n : ℕ) → (n == n) ≡ true
itself n = grind arith

equal : (n : ℕ) → nat_cmp n n ≡ Equal
equal n = grind arith

-- ---- what is found

-- none of the arms is of a node below the first one
below : (c k j : ℕ) (f : Pick) → j < k → at_number j (arms_from c k f) ≡ None
below zero k j f h = refl
below (suc c) k j f h = by (f k) (below c (k + 1) j f (omega (arith, h)))
  where
    by : (a : Option Arm) → at_number j (arms_from c (k + 1) f) ≡ None → at_number j (one_arm k a ++ arms_from c (k + 1) f) ≡ None
    by None ih = ih
    by (Some a) ih = let less : nat_cmp j k ≡ Less = grind (arith, h) in rw less ih

-- a node's arm is found
pub found : (c k j : ℕ) (f : Pick) → k ≤ j → j < k + c → at_number j (arms_from c k f) ≡ f j
found zero k j f low high = absurd (omega (arith, low, high))
found (suc c) k j f low high = by (j == k) refl (λ h. found c (k + 1) j f (omega (arith, h)) (omega (arith, high)))
  where
    first : (a : Option Arm) → at_number k (one_arm k a ++ arms_from c (k + 1) f) ≡ a
    first None = below c (k + 1) k f (omega arith)
    first (Some a) = rw (equal k) refl

    later : (a : Option Arm) → k < j → at_number j (arms_from c (k + 1) f) ≡ f j → at_number j (one_arm k a ++ arms_from c (k + 1) f) ≡ f j
    later None h ih = ih
    later (Some a) h ih = let greater : nat_cmp j k ≡ Greater = grind (arith, h) in rw greater ih

    by : (b : Bool) → (j == k) ≡ b → (k < j → at_number j (arms_from c (k + 1) f) ≡ f j) → at_number j (arms_from (suc c) k f) ≡ f j
    by true h ih = let one : k ≡ j = same k j h in subst (λ n. at_number n (arms_from (suc c) k f) ≡ f n) one (first (f k))
    by false h ih = let next : k < j = behind k j low h in later (f k) next (ih next)

-- ---- other picks

-- picks that are the same at each node have the same arms
pub alike : (c k : ℕ) (f g : Pick) → ((n : ℕ) → f n ≡ g n) → arms_from c k f ≡ arms_from c k g
alike zero k f g h = refl
alike (suc c) k f g h = (λ i. one_arm k (h k i) ++ alike c (k + 1) f g h i)

-- no arm at all
pub none_of : (c k : ℕ) (f : Pick) → ((n : ℕ) → f n ≡ None) → arms_from c k f ≡ []
none_of zero k f h = refl
none_of (suc c) k f h = (λ i. one_arm k (h k i) ++ none_of c (k + 1) f h i)

-- what is picked at a node below the first one plays no part
apart : (c k j : ℕ) (v : Option Arm) (f : Pick) → j < k → arms_from c k (but_at j v f) ≡ arms_from c k f
apart zero k j v f h = refl
apart (suc c) k j v f h =
    let other : (k == j) ≡ false =
    grind (arith, h) in (λ i. one_arm k ((if other i then v else f k)) ++ apart c (k + 1) j v f (omega (arith, h)) i)

-- an arm in the place of one that is there
pub put : (c k j : ℕ) (a b : Arm) (f : Pick) → k ≤ j → j < k + c → f j ≡ Some b →
    put_number j a (arms_from c k f) ≡ arms_from c k (but_at j (Some a) f)
put zero k j a b f low high has = absurd (omega (arith, low, high))
put (suc c) k j a b f low high has = by (j == k) refl (λ h. put c (k + 1) j a b f (omega (arith, h)) (omega (arith, high)) has)
  where
    first : (o : Option Arm) → o ≡ Some b → put_number k a (one_arm k o ++ arms_from c (k + 1) f) ≡ (k, a) ∷ arms_from c (k + 1) f
    first None is = absurd (cc is)
    first (Some d) is = rw (equal k) refl

    here : put_number k a (arms_from (suc c) k f) ≡ arms_from (suc c) k (but_at k (Some a) f) → k ≡ j →
        put_number j a (arms_from (suc c) k f) ≡ arms_from (suc c) k (but_at j (Some a) f)
    here h same = subst (λ n. put_number n a (arms_from (suc c) k f) ≡ arms_from (suc c) k (but_at n (Some a) f)) same h

    later : (o : Option Arm) → k < j → put_number j a (arms_from c (k + 1) f) ≡ arms_from c (k + 1) (but_at j (Some a) f) →
        put_number j a (one_arm k o ++ arms_from c (k + 1) f) ≡ one_arm k o ++ arms_from c (k + 1) (but_at j (Some a) f)
    later None h ih = ih
    later (Some d) h ih = let greater : nat_cmp j k ≡ Greater = grind (arith, h) in rw greater (ap (λ es. (k, d) ∷ es) ih)

    by : (t : Bool) → (j == k) ≡ t → (k < j → put_number j a (arms_from c (k + 1) f) ≡ arms_from c (k + 1) (but_at j (Some a) f)) →
        put_number j a (arms_from (suc c) k f) ≡ arms_from (suc c) k (but_at j (Some a) f)
    by true h ih =
        let one : k ≡ j = same k j h in
        here (first (f k) (ap f one ∙ has) ∙ (λ i. (k, a) ∷ sym (apart c (k + 1) k (Some a) f (omega arith)) i) ∙ (λ i. one_arm k (if sym (itself k) i then Some a else f k) ++ arms_from c (k + 1) (but_at k (Some a) f))) one
    by false h ih =
        let other : (k == j) ≡ false =
        grind (arith, h) in let next : k < j =
        behind k j low h in later (f k) next (ih next) ∙ (λ i. one_arm k (if sym other i then Some a else f k) ++ arms_from c (k + 1) (but_at j (Some a) f))

-- a node's arm taken out
pub without : (c k j : ℕ) (f : Pick) → filter (λ (e : ℕ × Arm). not (e.0 == j)) (arms_from c k f) ≡ arms_from c k (but_at j None f)
without zero k j f = refl
without (suc c) k j f = by (k == j) refl (f k) (without c (k + 1) j f)
  where
    by : (t : Bool) → (k == j) ≡ t → (o : Option Arm) →
        filter (λ (e : ℕ × Arm). not (e.0 == j)) (arms_from c (k + 1) f) ≡ arms_from c (k + 1) (but_at j None f) →
        filter (λ (e : ℕ × Arm). not (e.0 == j)) (one_arm k o ++ arms_from c (k + 1) f) ≡ one_arm k (if k == j then None else o) ++ arms_from c (k + 1) (but_at j None f)
    by true h None ih = rw h ih
    by true h (Some a) ih = rw h ih
    by false h None ih = rw h ih
    by false h (Some a) ih = rw h (ap (λ es. (k, a) ∷ es) ih)

-- ---- works

-- each arm is at a work, where each that is picked is
pub all_from : (c k : ℕ) (f : Pick) → Admits (λ n. Some 0) f → FallAtWorks (arms_from c k f)
all_from zero k f h = tt
all_from (suc c) k f h = by (f k) refl (all_from c (k + 1) f h)
  where
    by : (o : Option Arm) → f k ≡ o → FallAtWorks (arms_from c (k + 1) f) → FallAtWorks (one_arm k o ++ arms_from c (k + 1) f)
    by None is rest = rest
    by (Some a) is rest = let least : 0 < a.works = h k a is in (omega (arith, least), rest)
