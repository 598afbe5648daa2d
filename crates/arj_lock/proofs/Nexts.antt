-- One lock of a group after the other: those that are stepped past fail a test.
use Rattle.std.proofs.Common.{◌≡◌, ℕ, suc, ◌<◌, ◌≤◌, Bool, true, false, cond, not, ◌&&◌, ◌||◌, List, [], ◌∷◌, length, filter, find, take}
use Rattle.std.proofs.Common.{Option, Some, None, refl, sym, ◌∙◌, ap, arith, zero}
use Rattle.std.proofs.Math.Bool.{and-false}
use Rattle.std.proofs.lemmas.Bool.{and_parts, false_from_ne_true}
use Rattle.std.proofs.lemmas.Bool.Decides.{nat_tests}
use Rattle.std.specs.List.{AllByRecursion, list_any}
use Rattle.std.specs.List.Sorted.{IsStrictlySortedBy}
use Rattle.std.specs.Map.{keys_of}
use Rattle.std.specs.Ordering.{is_eq, nat_cmp}
use Rattle.std.specs.Prelude.{nat_lt}
use Rattle.std.specs.declared.cmp.Ordering.TheVariants.{Less}
use Rattle.arj_base.specs.declared.mode.Mode.{Mode}
use Rattle.arj_base.specs.declared.uid.Uid.{Uid}
use Rattle.arj_base.specs.Mode.{conflicting}
use Rattle.arj_base.specs.Rows.{Row, is_against, is_on, last_uid}
use Rattle.arj_base.specs.Uid.{uid_eq}
use Rattle.arj_lock.specs.Groups.{has, is_after, is_next}
use Rattle.arj_lock.specs.Held.{is_top_of}
use Rattle.arj_lock.specs.Index.{lock_at}
use Rattle.arj_lock.specs.Locks.{shown}
use Rattle.arj_lock.specs.declared.group.Group.{Group}
use Rattle.arj_lock.specs.declared.group.Group.TheVariants.{Against, Below}
use Rattle.arj_lock.specs.declared.lock.Lock.{Lock}
use Rattle.arj_lock.proofs.Entries.{Rises, found_at, later, less_from}
use Rattle.arj_lock.proofs.Orders.{number}

-- after a later lock come fewer
after_both : (after : Option ℕ) (n k : ℕ) → is_after after n ≡ true → nat_lt n k ≡ true → is_after after k ≡ true
after_both None n k one two = refl
after_both (Some a) n k one two = grind (arith, nat_tests, one, two)

itself_not : (n : ℕ) → nat_lt n n ≡ false
itself_not n = grind (arith, nat_tests)

less_yes : (n k : ℕ) → n < k → nat_lt n k ≡ true
less_yes n k less = grind (arith, nat_tests, less)

more_not : (n k : ℕ) → k < n → nat_lt n k ≡ false
more_not n k less = grind (arith, nat_tests, less)

-- how many locks come after this grant
abbrev pub left_after : Option ℕ → List (ℕ × Lock) → ℕ
left_after after es = length (filter (λ (e : ℕ × Lock). is_after after e.0) es)

module _ (after : Option ℕ) (n : ℕ) (is : is_after after n ≡ true) where
  not_more : (es : List (ℕ × Lock)) → left_after (Some n) es ≤ left_after after es
  not_more [] = omega arith
  not_more (e ∷ es) = by (nat_lt n e.0) refl (is_after after e.0) refl (not_more es)
    where
      by : (b : Bool) → nat_lt n e.0 ≡ b → (c : Bool) → is_after after e.0 ≡ c → left_after (Some n) es ≤ left_after after es
          → length (cond b (e ∷ filter (λ (x : ℕ × Lock). is_after (Some n) x.0) es) (filter (λ (x : ℕ × Lock). is_after (Some n) x.0) es)) ≤ length (cond c (e ∷ filter (λ (x : ℕ × Lock). is_after after x.0) es) (filter (λ (x : ℕ × Lock). is_after after x.0) es))
      by true one true two ih = omega (arith, ih)
      by true one false two ih = let never : true ≡ false = sym (after_both after n e.0 is one) ∙ two in cc
      by false one true two ih = omega (arith, ih)
      by false one false two ih = ih

  abbrev among : Option ℕ → List (ℕ × Lock) → List (ℕ × Lock)
  among g es = filter (λ (x : ℕ × Lock). is_after g x.0) es

  pub fewer_after : (es : List (ℕ × Lock)) (lock : Lock) → lock_at n es ≡ Some lock → left_after (Some n) es < left_after after es
  fewer_after [] lock at = cc
  fewer_after (e ∷ es) lock at = here (is_eq (nat_cmp n e.0)) refl at (fewer_after es lock)
    where
      by : (b : Bool) → nat_lt n e.0 ≡ b → (c : Bool) → is_after after e.0 ≡ c → left_after (Some n) es < left_after after es →
          length (cond b (e ∷ among (Some n) es) (among (Some n) es)) < length (cond c (e ∷ among after es) (among after es))
      by true one true two ih = omega (arith, ih)
      by true one false two ih = let never : true ≡ false = sym (after_both after n e.0 is one) ∙ two in cc
      by false one true two ih = omega (arith, ih)
      by false one false two ih = ih

      here : (b : Bool) → is_eq (nat_cmp n e.0) ≡ b → cond b (Some e.1) (lock_at n es) ≡ Some lock →
          (lock_at n es ≡ Some lock → left_after (Some n) es < left_after after es) → left_after (Some n) (e ∷ es) < left_after after (e ∷ es)
      here true own found ih =
          let same = number n e.0 own in
          let one : left_after (Some n) (e ∷ es) ≡ left_after (Some n) es =
          λ i. length (cond ((ap (nat_lt n) (sym same) ∙ itself_not n) i) (e ∷ among (Some n) es) (among (Some n) es)) in
          let two : left_after after (e ∷ es) ≡ suc (left_after after es) =
          λ i. length (cond ((ap (is_after after) (sym same) ∙ is) i) (e ∷ among after es) (among after es)) in
          let le = not_more es in omega (arith, one, two, le)
      here false other found ih = by (nat_lt n e.0) refl (is_after after e.0) refl (ih found)

-- ---- a test that only locks of the group pass

module _ (group : Group) (A : Row → Bool) (only : (r : Row) → A r ≡ true → has group r ≡ true) where
  abbrev next : Option ℕ → ℕ × Lock → Bool
  next after e = is_after after e.0 && A (shown e.1)

  outside : (e : ℕ × Lock) → has group (shown e.1) ≡ false → A (shown e.1) ≡ false
  outside e not_in = false_from_ne_true (A (shown e.1)) (λ is. let never : true ≡ false = sym (only (shown e.1) is) ∙ not_in in cc)

  none_next : (after : Option ℕ) (e : ℕ × Lock) → is_next group after e ≡ false → next after e ≡ false
  none_next after e is = by (is_after after e.0) is
    where
      by : (b : Bool) → (b && has group (shown e.1)) ≡ false → (b && A (shown e.1)) ≡ false
      by true not_in = outside e not_in
      by false _ = refl

  pub stop : (after : Option ℕ) (es : List (ℕ × Lock)) → find (is_next group after) es ≡ None → find (next after) es ≡ None
  stop after [] none = refl
  stop after (e ∷ es) none = by (is_next group after e) refl none (stop after es)
    where
      by : (b : Bool) → is_next group after e ≡ b → cond b (Some e) (find (is_next group after) es) ≡ None →
          (find (is_next group after) es ≡ None → find (next after) es ≡ None) → find (next after) (e ∷ es) ≡ None
      by true is found ih = cc
      by false is rest ih = (λ i. cond (none_next after e is i) (Some e) (find (next after) es)) ∙ ih rest

  pub hit : (after : Option ℕ) (es : List (ℕ × Lock)) (x : ℕ × Lock) → find (is_next group after) es ≡ Some x → A (shown x.1) ≡ true →
      find (next after) es ≡ Some x
  hit after [] x found passes = cc
  hit after (e ∷ es) x found passes = by (is_next group after e) refl found (λ rest. hit after es x rest passes)
    where
      by : (b : Bool) → is_next group after e ≡ b → cond b (Some e) (find (is_next group after) es) ≡ Some x →
          (find (is_next group after) es ≡ Some x → find (next after) es ≡ Some x) → find (next after) (e ∷ es) ≡ Some x
      by true is here ih =
          let same : e ≡ x = cc in
          let late = (and_parts (is_after after e.0) (has group (shown e.1)) is).0 in
          (λ i. cond (late i && (ap (λ (y : ℕ × Lock). A (shown y.1)) same ∙ passes) i) (Some e) (find (next after) es)) ∙ ap Some same
      by false is rest ih = (λ i. cond (none_next after e is i) (Some e) (find (next after) es)) ∙ ih rest

  -- all are behind the grant
  all_behind : (after : Option ℕ) (n : ℕ) (es : List (ℕ × Lock)) → is_after after n ≡ true →
      AllByRecursion (λ k. nat_cmp n k ≡ Less) (keys_of es) → find (next (Some n)) es ≡ find (next after) es
  all_behind after n [] is all = refl
  all_behind after n (e ∷ es) is all =
      let less = less_yes n e.0 (less_from n e.0 all.0) in
      λ i. cond ((less ∙ sym (after_both after n e.0 is less)) i && A (shown e.1)) (Some e) (all_behind after n es is all.1 i)

  pub skip : (after : Option ℕ) (es : List (ℕ × Lock)) (x : ℕ × Lock) → Rises es → find (is_next group after) es ≡ Some x →
      A (shown x.1) ≡ false → find (next (Some x.0)) es ≡ find (next after) es
  unfolding IsStrictlySortedBy
  skip after [] x rises found fails = refl
  skip after (e ∷ es) x rises found fails = by (is_next group after e) refl found (λ rest. skip after es x rises.1 rest fails)
    where
      by : (b : Bool) → is_next group after e ≡ b → cond b (Some e) (find (is_next group after) es) ≡ Some x →
          (find (is_next group after) es ≡ Some x → find (next (Some x.0)) es ≡ find (next after) es)
          → find (next (Some x.0)) (e ∷ es) ≡ find (next after) (e ∷ es)
      by true is here ih =
          let same : e ≡ x = cc in
          let late = (and_parts (is_after after e.0) (has group (shown e.1)) is).0 in
          let not_e : A (shown e.1) ≡ false = ap (λ (y : ℕ × Lock). A (shown y.1)) same ∙ fails in
          ap (λ (y : ℕ × Lock). find (next (Some y.0)) (e ∷ es)) (sym same)
          ∙ (λ i. cond ((ap (λ b. nat_lt e.0 e.0 && b) not_e ∙ and-false (nat_lt e.0 e.0)) i) (Some e) (find (next (Some e.0)) es))
          ∙ all_behind after e.0 es late rises.0
          ∙ (λ i. cond (sym (ap (λ b. is_after after e.0 && b) not_e ∙ and-false (is_after after e.0)) i) (Some e) (find (next after) es))
      by false is rest ih =
          let at = found_at (is_next group after) es x rises.1 rest in
          let before = (later e es x.0 x.1 rises at.0).0 in
          (λ i. cond (more_not x.0 e.0 before i && A (shown e.1)) (Some e) (find (next (Some x.0)) es)) ∙ ih rest ∙ (λ i. cond (sym (none_next after e is) i) (Some e) (find (next after) es))

  -- and so, whether any passes
  behind_any : (after : Option ℕ) (n : ℕ) (es : List (ℕ × Lock)) → is_after after n ≡ true →
      AllByRecursion (λ k. nat_cmp n k ≡ Less) (keys_of es) → list_any (next (Some n)) es ≡ list_any (next after) es
  behind_any after n [] is all = refl
  behind_any after n (e ∷ es) is all =
      let less = less_yes n e.0 (less_from n e.0 all.0) in
      λ i. ((less ∙ sym (after_both after n e.0 is less)) i && A (shown e.1)) || behind_any after n es is all.1 i

  pub any_step : (after : Option ℕ) (es : List (ℕ × Lock)) (x : ℕ × Lock) → Rises es → find (is_next group after) es ≡ Some x →
      list_any (next after) es ≡ (A (shown x.1) || list_any (next (Some x.0)) es)
  unfolding IsStrictlySortedBy
  any_step after [] x rises found = cc
  any_step after (e ∷ es) x rises found = by (is_next group after e) refl found (λ rest. any_step after es x rises.1 rest)
    where
      by : (b : Bool) → is_next group after e ≡ b → cond b (Some e) (find (is_next group after) es) ≡ Some x →
          (find (is_next group after) es ≡ Some x → list_any (next after) es ≡ (A (shown x.1) || list_any (next (Some x.0)) es))
          → list_any (next after) (e ∷ es) ≡ (A (shown x.1) || list_any (next (Some x.0)) (e ∷ es))
      by true is here ih =
          let same : e ≡ x = cc in
          let late = (and_parts (is_after after e.0) (has group (shown e.1)) is).0 in
          (λ i. (late i && A (shown e.1)) || sym (behind_any after e.0 es late rises.0) i)
          ∙ (λ i. A (shown e.1) || ((sym (itself_not e.0) i && A (shown e.1)) || list_any (next (Some e.0)) es))
          ∙ (λ i. A (shown (same i).1) || list_any (next (Some (same i).0)) (e ∷ es))
      by false is rest ih =
          let at = found_at (is_next group after) es x rises.1 rest in
          let before = (later e es x.0 x.1 rises at.0).0 in
          (λ i. none_next after e is i || list_any (next after) es) ∙ ih rest ∙ (λ i. A (shown x.1) || ((sym (more_not x.0 e.0 before) i && A (shown e.1)) || list_any (next (Some x.0)) es))

-- ---- the tests for which they are

pub against_only : (path : List Uid) (object : Uid) (mode : Mode) (r : Row) → is_against path object mode r ≡ true →
    has (Against object mode) r ≡ true
against_only path object mode r is =
    let p = and_parts (uid_eq r.object object) (not (is_on path (last_uid r.holder)) && conflicting r.mode mode) is in
    let q = and_parts (not (is_on path (last_uid r.holder))) (conflicting r.mode mode) p.1 in
    λ i. p.0 i && q.1 i

pub against_on : (path : List Uid) (object : Uid) (mode : Mode) (r : Row) (b : Bool) → is_on path (last_uid r.holder) ≡ b →
    has (Against object mode) r ≡ true → is_against path object mode r ≡ not b
against_on path object mode r b on is =
    let p = and_parts (uid_eq r.object object) (conflicting r.mode mode) is in
    (λ i. p.0 i && (not (on i) && p.1 i)) ∙ by b
  where
    by : (c : Bool) → (not c && true) ≡ not c
    by true = refl
    by false = refl

pub top_only : (action : Uid) (r : Row) → is_top_of action r ≡ true → has (Below action) r ≡ true
top_only action r is = on_more r.tops r.holder is
  where
    on_more : (n : ℕ) (us : List Uid) → is_on (take n us) action ≡ true → is_on us action ≡ true
    on_more zero us on = cc
    on_more (suc n) [] on = on
    on_more (suc n) (u ∷ us) on = by (uid_eq u action) on (on_more n us)
      where
        by : (b : Bool) → (b || is_on (take n us) action) ≡ true → (is_on (take n us) action ≡ true → is_on us action ≡ true) →
            (b || is_on us action) ≡ true
        by true _ ih = refl
        by false rest ih = ih rest

-- the lock that was found is in the group, and comes after the grant
pub found_in : (group : Group) (after : Option ℕ) (es : List (ℕ × Lock)) (x : ℕ × Lock) → Rises es →
    find (is_next group after) es ≡ Some x → (is_after after x.0 ≡ true) × (has group (shown x.1) ≡ true)
found_in group after es x rises found =
    and_parts (is_after after x.0) (has group (shown x.1)) (found_at (is_next group after) es x rises found).1
