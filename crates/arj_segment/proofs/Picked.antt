-- What is picked of sorted names, in their order.
use Rattle.std.proofs.Common.{◌≡◌, ◌≢◌, ◌∙◌, ℕ, zero, suc, List, [], ◌∷◌, ◌++◌, ◌<◌, ◌≤◌, ◌+◌, arith, refl, sym, ap, subst, inl, inr}
use Rattle.std.proofs.Common.{⊎_elim, take, get_or, length}
use Rattle.std.specs.Prelude.{Contains}
use Rattle.std.specs.List.{AllByRecursion}
use Rattle.std.specs.List.Sorted.{IsStrictlySortedBy}
use Rattle.std.specs.declared.cmp.Ordering.{Ordering}
use Rattle.std.specs.declared.cmp.Ordering.TheVariants.{Less}
use Rattle.std.proofs.lemmas.List.{take_more, take_all}
use Rattle.std.proofs.lemmas.List.Elements.{Contains-append_left, Contains-push, Contains-push_cases}
use Rattle.std.specs.Ordering.{nat_cmp}
use Rattle.arj_base.specs.declared.uid.Uid.{Uid}
use Rattle.arj_disk.specs.Slot.{slot_order, uid_order}
use Rattle.arj_disk.specs.declared.slot.Role.{Role}
use Rattle.arj_disk.specs.declared.slot.Role.TheVariants.{Store, Names}
use Rattle.arj_disk.specs.declared.slot.Slot.TheVariants as slot
use Rattle.arj_disk.specs.declared.slot.Slot.{Slot}
use Rattle.arj_store.proofs.Lists.{all_at, all_more}
use Rattle.arj_segment.proofs.Numbers.{all_of}
use Rattle.arj_segment.specs.Tables.{TakesName}

-- along a sorted list, those before one come before it
pub before_order : {X : Type 0} (c : X → X → Ordering) (xs : List X) (i : ℕ) (d : X) → IsStrictlySortedBy c xs → i < length xs →
    AllByRecursion (λ x. c x (get_or xs i d) ≡ Less) (take i xs)
unfolding IsStrictlySortedBy
before_order c [] i d rises within = let never : ⊥ = omega (arith, within) in absurd never
before_order c (x ∷ xs) zero d rises within = tt
before_order c (x ∷ xs) (suc i) d rises within =
    (all_at (λ y. c x y ≡ Less) xs i d (omega (arith, within)) rises.0, before_order c xs i d rises.1 (omega (arith, within)))

-- one more at the end, behind all
pub sorted_push : {X : Type 0} (c : X → X → Ordering) (xs : List X) (x : X) → IsStrictlySortedBy c xs →
    AllByRecursion (λ y. c y x ≡ Less) xs → IsStrictlySortedBy c (xs ++ x ∷ [])
unfolding IsStrictlySortedBy
sorted_push c [] x rises before = (tt, tt)
sorted_push c (y ∷ ys) x rises before = (all_more (λ z. c y z ≡ Less) ys x rises.0 before.0, sorted_push c ys x rises.1 before.1)

pub all_map : {X : Type 0} (P Q : X → Type 0) (xs : List X) → ((x : X) → P x → Q x) → AllByRecursion P xs → AllByRecursion Q xs
all_map P Q [] f all = tt
all_map P Q (x ∷ xs) f all = (f x all.0, all_map P Q xs f all.1)

-- these are picked of the names that were seen, in their order
pub record Picks {X : Type 0} (name : X → Slot) (order : X → X → Ordering) (seen : List Slot) (xs : List X) : Type 0 where
  pub there : (x : X) → Contains seen (name x) → Contains xs x
  pub from : AllByRecursion (λ x. Contains seen (name x)) xs
  pub rises : IsStrictlySortedBy order xs

pub picks_none : {X : Type 0} (name : X → Slot) (order : X → X → Ordering) → Picks name order [] []
unfolding IsStrictlySortedBy
picks_none name order = record { there = λ x is. let never : ⊥ = omega (arith, is.1) in absurd never; from = tt; rises = tt }

module _ {X : Type 0} (name : X → Slot) (order : X → X →
    Ordering) (names : List Slot) (i : ℕ) (d : Slot) (within : i < length names) (xs : List X) (picks : Picks name order (take i names) xs) where
  -- the next name is none of these
  pub picks_other : ((x : X) → get_or names i d ≢ name x) → Picks name order (take (i + 1) names) xs
  picks_other other = subst (λ seen. Picks name order seen xs) (sym (take_more names i d within)) (record {
    there = λ x is. ⊎_elim (λ (before : Contains (take i names) (name x)). picks.there x before) (λ (e : get_or names i d ≡ name x). absurd (other x e)) (Contains-push_cases (take i names) (get_or names i d) (name x) is);
    from = all_map (λ x. Contains (take i names) (name x)) (λ x. Contains (take i names ++ get_or names i d ∷ []) (name x)) xs (λ x is. Contains-append_left (take i names) (get_or names i d ∷ []) (name x) is) picks.from;
    rises = picks.rises;
  })

  -- the next name is one
  pub picks_one : IsStrictlySortedBy slot_order names → (x : X) → get_or names i d ≡ name x →
      ((y : X) → slot_order (name y) (name x) ≡ order y x) → ((y : X) → name x ≡ name y → x ≡ y) →
      Picks name order (take (i + 1) names) (xs ++ x ∷ [])
  picks_one sorted x is ordered once = subst (λ seen. Picks name order seen (xs ++ x ∷ [])) (sym (take_more names i d within)) (record {
    there = λ y seen. ⊎_elim (λ (before : Contains (take i names) (name y)). Contains-append_left xs (x ∷ []) y (picks.there y before))
        (λ (e : get_or names i d ≡ name y). subst (Contains (xs ++ x ∷ [])) (once y (sym is ∙ e)) (Contains-push xs x)) (Contains-push_cases (take i names) (get_or names i d) (name y) seen);
    from = all_more (λ y. Contains (take i names ++ get_or names i d ∷ []) (name y)) xs x
        (all_map (λ y. Contains (take i names) (name y)) (λ y. Contains (take i names ++ get_or names i d ∷ []) (name y)) xs (λ y before. Contains-append_left (take i names) (get_or names i d ∷ []) (name y) before) picks.from)
        (subst (Contains (take i names ++ get_or names i d ∷ [])) is (Contains-push (take i names) (get_or names i d)));
    rises = sorted_push order xs x picks.rises (all_map (λ y. Contains (take i names) (name y)) (λ y. order y x ≡ Less) xs
        (λ y before. sym (ordered y) ∙ ap (slot_order (name y)) (sym is) ∙ all_of (λ q. slot_order q (get_or names i d) ≡ Less) (take i names) (before_order slot_order names i d sorted within) (name y) before) picks.from);
  })

pub picks_next : {X : Type 0} (name : X → Slot) (order : X → X → Ordering) (names : List Slot) (i : ℕ) (d : Slot) (xs ys : List X) →
    i < length names → Picks name order (take i names) xs → IsStrictlySortedBy slot_order names
    → ((x y : X) → slot_order (name y) (name x) ≡ order y x) → ((x y : X) → name x ≡ name y → x ≡ y) →
    TakesName name (get_or names i d) xs ys → Picks name order (take (i + 1) names) ys
picks_next name order names i d xs ys within picks sorted ordered once (inl one) =
    subst (Picks name order (take (i + 1) names)) (sym one.2) (picks_one name order names i d within xs picks sorted one.0 one.1 (ordered one.0) (once one.0))
picks_next name order names i d xs ys within picks sorted ordered once (inr other) =
    subst (Picks name order (take (i + 1) names)) (sym other.1) (picks_other name order names i d within xs picks other.0)

pub segments_ordered : (role : Role) (j k : ℕ) → slot_order (slot.Segment role k) (slot.Segment role j) ≡ nat_cmp k j
segments_ordered Store j k = refl
segments_ordered Names j k = refl

pub segments_once : (role : Role) (j k : ℕ) → slot.Segment role j ≡ slot.Segment role k → j ≡ k
segments_once role j k e = cc

pub pendings_ordered : (role : Role) (a b : Uid) → slot_order (slot.Pending role b) (slot.Pending role a) ≡ uid_order b a
pendings_ordered Store a b = refl
pendings_ordered Names a b = refl

pub pendings_once : (role : Role) (a b : Uid) → slot.Pending role a ≡ slot.Pending role b → a ≡ b
pendings_once role a b e = cc

pub picked_all : {X : Type 0} (name : X → Slot) (order : X → X → Ordering) (names : List Slot) (i : ℕ) (xs : List X) → length names ≤ i →
    Picks name order (take i names) xs → Picks name order names xs
picked_all name order names i xs long picks = subst (λ seen. Picks name order seen xs) (take_all i names long) picks
