-- What changes a tree leaves room in it.
use Rattle.arj_law_parts.proofs.Words
use Words.{◌≡◌, ◌⊎◌, ◌∙◌, ◌≤◌, ◌<◌, ◌+◌, ◌==◌, ◌&&◌, ◌||◌, ℕ, zero, suc, Bool, true, false, cond, not, List, [], ◌∷◌, ◌++◌, length, nat_le}
use Words.{refl, sym, ap, subst, inl, inr, ⊎_elim, arith, Option, Some, None, is_some, slice_get, slice_set, unwrap_or, AllByRecursion}
use Words.{match_ordering, nat_cmp, Ordering, Less, Equal, Greater, length-append, In, in_from, in_to, put_other, put_same, at_number, has}
use Words.{put_number, with_number, Branch, Family, Tree, at_place, begun_by, branch_of, doomed_at, doomed_branch, ended_at, ended_branch}
use Words.{family_of, new_tree, no_family, root_of, set_place, uses_object, with_family, End, Kind, Path, Uid, uids_of, most_actions}
use Rattle.arj_law_runs.proofs.Terms.{found_by, place_in, HasRoom, actions_at}
use Rattle.arj_law_parts.proofs.parts.GoodTrees.{in_set, same_or_not}
use Rattle.arj_law_runs.specs.coordinators.Rooms.{AreFewObjects, AreRising, count_open, ends_at, family_at, is_open_in, objects_at, open_in}
use Rattle.arj_start.specs.Limits.{most_objects}

-- ---- counts of open actions

at_most : (n : ℕ) → n ≤ n
at_most n = omega arith

abbrev one : ℕ → Branch → ℕ
one k b = cond (is_open_in k b) 1 0

-- one more at the end
count_more : (k : ℕ) (bs : List Branch) (c : Branch) → count_open k (bs ++ c ∷ []) ≡ count_open k bs + one k c
count_more k [] c = omega arith
count_more k (b ∷ bs) c = let rest = count_more k bs c in omega (arith, rest)

-- another one in its place
count_set : (k : ℕ) (bs : List Branch) (i : ℕ) (b c : Branch) → slice_get bs i ≡ Some b →
    count_open k (slice_set bs i c) + one k b ≡ count_open k bs + one k c
count_set k [] i b c at = absurd (cc at)
count_set k (x ∷ xs) zero b c at = let same : x ≡ b = cc at in
    subst (λ w. one k c + count_open k xs + one k w ≡ one k x + count_open k xs + one k c) same (omega arith)
count_set k (x ∷ xs) (suc i) b c at = let rest = count_set k xs i b c at in omega (arith, rest)

count_place : (k : ℕ) (bs : List Branch) (j : ℕ) (b c : Branch) → at_place j bs ≡ Some b →
    count_open k (set_place j c bs) + one k b ≡ count_open k bs + one k c
count_place k bs zero b c at = absurd (cc at)
count_place k bs (suc i) b c at = count_set k bs i b c at

pub length_set : {A : Type 0} (xs : List A) (k : ℕ) (y : A) → length (set_place k y xs) ≡ length xs
length_set xs zero y = refl
length_set xs (suc i) y = by xs i
  where
    by : (zs : List _) (j : ℕ) → length (slice_set zs j y) ≡ length zs
    by [] j = refl
    by (z ∷ zs) zero = refl
    by (z ∷ zs) (suc j) = ap suc (by zs j)

-- ---- sets of numbers

-- one more in a rising list, unless it is there
module _ (n : ℕ) where
  above_with : (k : ℕ) (xs : List ℕ) → k < n → AllByRecursion (λ m. k < m) xs → AllByRecursion (λ m. k < m) (with_number n xs)
  above_with k [] less all = (less, tt)
  above_with k (x ∷ xs) less all = by (nat_cmp n x) (above_with k xs less all.1)
    where
      by : (o : Ordering) → AllByRecursion (λ m. k < m) (with_number n xs) →
          AllByRecursion (λ m. k < m) (match_ordering o (n ∷ x ∷ xs) (x ∷ xs) (x ∷ with_number n xs))
      by Less rest = (less, all)
      by Equal rest = all
      by Greater rest = (all.0, rest)

  above_more : (k j : ℕ) (xs : List ℕ) → k < j → AllByRecursion (λ m. j < m) xs → AllByRecursion (λ m. k < m) xs
  above_more k j [] less all = tt
  above_more k j (x ∷ xs) less all = (omega (arith, less, all.0), above_more k j xs less all.1)

  rising_with : (xs : List ℕ) → AreRising xs → AreRising (with_number n xs)
  rising_with [] rising = (tt, tt)
  rising_with (x ∷ xs) rising = by (nat_cmp n x) refl (rising_with xs rising.1)
    where
      by : (o : Ordering) → nat_cmp n x ≡ o → AreRising (with_number n xs) →
          AreRising (match_ordering o (n ∷ x ∷ xs) (x ∷ xs) (x ∷ with_number n xs))
      by Less is rest = let less : n < x = grind (arith, is) in ((less, above_more n x xs less rising.0), rising)
      by Equal is rest = rising
      by Greater is rest = (above_with x xs (grind (arith, is)) rising.0, rest)

  with_more : (xs : List ℕ) → length (with_number n xs) ≤ length xs + 1
  with_more [] = omega arith
  with_more (x ∷ xs) = by (nat_cmp n x) (with_more xs)
    where
      by : (o : Ordering) → length (with_number n xs) ≤ length xs + 1 →
          length (match_ordering o (n ∷ x ∷ xs) (x ∷ xs) (x ∷ with_number n xs)) ≤ suc (length xs) + 1
      by Less rest = omega arith
      by Equal rest = omega arith
      by Greater rest = omega (arith, rest)

  -- what is above a number isn't that number
  not_above : (k : ℕ) (xs : List ℕ) → n < k ⊎ (n ≡ k) → AllByRecursion (λ m. k < m) xs → has xs n ≡ false
  not_above k [] low all = refl
  not_above k (x ∷ xs) low all = let apart : (x == n) ≡ false = ⊎_elim (λ less. grind (arith, less, all.0))
      (λ same. grind (arith, same, all.0)) low in λ i. apart i || not_above k xs low all.1 i

  with_there : (xs : List ℕ) → AreRising xs → has xs n ≡ true → length (with_number n xs) ≡ length xs
  with_there [] rising is = absurd (cc is)
  with_there (x ∷ xs) rising is = by (nat_cmp n x) refl (with_there xs rising.1)
    where
      by : (o : Ordering) → nat_cmp n x ≡ o → (has xs n ≡ true → length (with_number n xs) ≡ length xs) →
          length (match_ordering o (n ∷ x ∷ xs) (x ∷ xs) (x ∷ with_number n xs)) ≡ suc (length xs)
      by Less at rest =
          let less : n < x = grind (arith, at) in
          let apart : (x == n) ≡ false = grind (arith, less) in
          let no_way : true ≡ false = sym is ∙ (λ i. apart i || not_above x xs (inl less) rising.0 i) in
          cc
      by Equal at rest = refl
      by Greater at rest =
          let apart : (x == n) ≡ false = grind (arith, at) in
          ap suc (rest ((λ i. sym apart i || has xs n) ∙ is))

  -- an object more, where there is room or it is there
  pub few_with : (xs : List ℕ) → AreFewObjects xs → (not (has xs n) && nat_le most_objects (length xs)) ≡ false →
      AreFewObjects (with_number n xs)
  few_with xs few room = (by (has xs n) refl room, rising_with xs few.1)
    where
      by : (b : Bool) → has xs n ≡ b → (not b && nat_le most_objects (length xs)) ≡ false → length (with_number n xs) ≤ most_objects
      by true is none = omega (arith, with_there xs few.1 is, few.0)
      by false is none = let less : length xs < most_objects = grind (arith, none) in omega (arith, with_more xs, less)

-- ---- what roots have

module _ (root : Uid) (f : Family) (t : Tree) where
  there : (k : ℕ) → k ≡ root.num → family_at k (with_family root f t) ≡ f
  there k same = (λ i. unwrap_or (at_number (same i) (put_number root.num f t.families)) no_family)
      ∙ ap (λ o. unwrap_or o no_family) (put_same root.num f t.families)

  elsewhere : (k : ℕ) → (k ≡ root.num → ⊥) → family_at k (with_family root f t) ≡ family_at k t
  elsewhere k other = ap (λ o. unwrap_or o no_family) (put_other root.num k f t.families (grind (arith, other)))

  -- something holds of what each root has, where it holds of the new one and of all others as they were
  each_family : (P : ℕ → Family → Type 0) → P root.num f → ((k : ℕ) → (k ≡ root.num → ⊥) → P k (family_at k t)) → (k : ℕ) →
      P k (family_at k (with_family root f t))
  each_family P here others k = ⊎_elim (λ same. subst (P k) (sym (there k same)) (subst (λ j. P j f) (sym same) here))
      (λ other. subst (P k) (sym (elsewhere k other)) (others k other)) (same_or_not k root.num)

-- ---- trees

pub room_new : (node inc : ℕ) → HasRoom (new_tree node inc)
room_new node inc = record {
  ends = λ k. omega arith;
  actions = λ k. omega arith;
  objects = λ k. (omega arith, tt);
  roots = λ b i. absurd (in_from b [] i);
  fresh = λ k less. refl;
}

-- a branch in its place, of the same root, and open only where it was
replaced : (t : Tree) (u : Uid) (b c : Branch) → branch_of u t ≡ Some b → c.path ≡ b.path → ((k : ℕ) → one k c ≤ one k b) → HasRoom t →
    HasRoom (record t { branches = set_place u.num c t.branches })
replaced t u b c found path less room = record {
  ends = λ k. omega (arith, room.ends k, count_place k t.branches u.num b c at, less k);
  actions = room.actions;
  objects = room.objects;
  roots = λ d i. subst (λ n. (root_of d.path).num ≤ n) (sym same) (⊎_elim (λ is. subst (λ p. (root_of p).num ≤ length t.branches)
      (sym path ∙ ap (λ (x : Branch). x.path) is) (room.roots b (in_to b t.branches (place_in u.num b t.branches at))))
      (λ old. room.roots d (in_to d t.branches old)) (in_set u.num c d t.branches (in_from d (set_place u.num c t.branches) i)));
  fresh = λ k more. room.fresh k (subst (λ n. n < k) same more);
}
  where
    at : at_place u.num t.branches ≡ Some b
    at = (found_by u t b found).1

    same : length (set_place u.num c t.branches) ≡ length t.branches
    same = length_set t.branches u.num c

pub room_doomed : (u : Uid) (t : Tree) → HasRoom t → HasRoom (doomed_at u t)
room_doomed u t room = by (branch_of u t) refl
  where
    by : (o : Option Branch) → branch_of u t ≡ o → HasRoom (doomed_branch u t o)
    by None is = room
    by (Some b) is = replaced t u b (record b { doomed = true }) is refl (λ k. at_most (cond (is_open_in k b) 1 0)) room

-- an end of an open action
pub room_ended : (u : Uid) (e : End) (t : Tree) (b : Branch) → branch_of u t ≡ Some b → is_some b.ended ≡ false → HasRoom t →
    HasRoom (ended_at u e t)
room_ended u e t b found opened room = subst (λ o. HasRoom (ended_branch u e t o)) (sym found) (by (nat_le (length (uids_of b.path)) 1))
  where
    c : Branch
    c = record b { ended = Some e }

    m : Tree
    m = record t { branches = set_place u.num c t.branches }

    closed : (k : ℕ) → one k c ≡ 0
    closed k = none ((root_of b.path).num == k)
      where
        none : (x : Bool) → ◌≡◌ {A = ℕ} (cond (x && false) 1 0) 0
        none true = refl
        none false = refl

    shut : HasRoom m
    shut = replaced t u b c found refl (λ k. omega (arith, closed k)) room

    f : Family
    f = let g = family_of (root_of b.path) m in record g { ends = g.ends ++ (u, e) ∷ [] }

    -- one fewer is open there
    fewer : open_in (root_of b.path).num m + 1 ≡ open_in (root_of b.path).num t
    fewer =
        let k = (root_of b.path).num in
        let was = mine k (is_some b.ended) opened in
        omega (arith, count_place k t.branches u.num b c (found_by u t b found).1, closed k, was)
      where
        mine : (k : ℕ) (x : Bool) → x ≡ false → ◌≡◌ {A = ℕ} (cond ((k == k) && not x) 1 0) 1
        mine k x is = let same : (k == k) ≡ true = grind arith in (λ i. cond (same i && not (is i)) 1 0)

    listed : HasRoom (with_family (root_of b.path) f m)
    listed = record {
      ends = each_family (root_of b.path) f m (λ k g. length g.ends + open_in k m ≤ g.actions)
          (omega (arith, room.ends (root_of b.path).num, fewer, length-append (ends_at (root_of b.path).num m) ((u, e) ∷ [])))
          (λ k other. shut.ends k);
      actions = each_family (root_of b.path) f m (λ k g. g.actions ≤ most_actions) (room.actions (root_of b.path).num)
          (λ k other. shut.actions k);
      objects =
          each_family (root_of b.path) f m (λ k g. AreFewObjects g.objects) (room.objects (root_of b.path).num) (λ k other. shut.objects k);
      roots = shut.roots;
      fresh = λ k more. elsewhere (root_of b.path) f m k (λ same. omega (arith, more, same, old)) ∙ shut.fresh k more;
    }
      where
        old : (root_of b.path).num ≤ length m.branches
        old = subst (λ n. (root_of b.path).num ≤ n) (sym (length_set t.branches u.num c))
            (room.roots b (in_to b t.branches (place_in u.num b t.branches (found_by u t b found).1)))

    by : (x : Bool) → HasRoom (cond x m (with_family (root_of b.path) f m))
    by true = shut
    by false = listed

-- an object of a root that has room for it
pub room_uses : (p : Path) (x : ℕ) (t : Tree) → (root_of p).num ≤ length t.branches →
    AreFewObjects (with_number x (objects_at (root_of p).num t)) → HasRoom t → HasRoom (uses_object p x t)
room_uses p x t old few room = record {
  ends = each_family (root_of p) f t (λ k g. length g.ends + open_in k t ≤ g.actions) (room.ends (root_of p).num) (λ k other. room.ends k);
  actions = each_family (root_of p) f t (λ k g. g.actions ≤ most_actions) (room.actions (root_of p).num) (λ k other. room.actions k);
  objects = each_family (root_of p) f t (λ k g. AreFewObjects g.objects) few (λ k other. room.objects k);
  roots = room.roots;
  fresh = λ k more. elsewhere (root_of p) f t k (λ same. omega (arith, more, same, old)) ∙ room.fresh k more;
}
  where
    f : Family
    f = let g = family_of (root_of p) t in record g { objects = with_number x g.objects }

-- an action more, of a root that has room for it
pub room_begun : (how : Kind) (p : Path) (t : Tree) → (root_of p).num ≤ length t.branches + 1 →
    actions_at (root_of p).num t < most_actions → HasRoom t → HasRoom (begun_by how p t)
room_begun how p t old few room = record {
  ends = each_family (root_of p) f m (λ k g. length g.ends + open_in k m ≤ g.actions) (here (root_of p).num refl)
      (λ k other. omega (arith, room.ends k, count_more k t.branches b, apart k other));
  actions = each_family (root_of p) f m (λ k g. g.actions ≤ most_actions) (omega (arith, few)) (λ k other. room.actions k);
  objects = each_family (root_of p) f m (λ k g. AreFewObjects g.objects) (room.objects (root_of p).num) (λ k other. room.objects k);
  roots = λ d i. let n = longer in ⊎_elim (λ was. let r = room.roots d (in_to d t.branches was) in
      omega (arith, r, n)) (λ same. subst (λ (x : Branch). (root_of x.path).num ≤ length m.branches) same (omega (arith, old, n)))
      (in_last d t.branches (in_from d m.branches i));
  fresh = λ k more. let n = longer in
      elsewhere (root_of p) f m k (λ same. omega (arith, more, same, old, n)) ∙ room.fresh k (omega (arith, more, n));
}
  where
    b : Branch
    b = record { path = p; kind = how; ended = None; doomed = false }

    m : Tree
    m = record t { branches = t.branches ++ b ∷ [] }

    f : Family
    f = let g = family_of (root_of p) m in record g { actions = g.actions + 1 }

    longer : length m.branches ≡ length t.branches + 1
    longer = length-append t.branches (b ∷ [])

    most : (k : ℕ) → one k b ≤ 1
    most k = by (is_open_in k b)
      where
        by : (x : Bool) → cond x 1 0 ≤ 1
        by true = omega arith
        by false = omega arith

    here : (k : ℕ) → k ≡ (root_of p).num → length (ends_at k t) + open_in k m ≤ actions_at k t + 1
    here k same = omega (arith, room.ends k, count_more k t.branches b, most k)

    apart : (k : ℕ) → (k ≡ (root_of p).num → ⊥) → one k b ≡ 0
    apart k other = let no : ((root_of p).num == k) ≡ false = grind (arith, other) in λ i. cond (no i && true) 1 0

    in_last : (d : Branch) (bs : List Branch) → In d (bs ++ b ∷ []) → In d bs ⊎ (b ≡ d)
    in_last d [] (inl same) = inr same
    in_last d [] (inr i) = absurd i
    in_last d (x ∷ bs) (inl same) = inl (inl same)
    in_last d (x ∷ bs) (inr i) = ⊎_elim (λ was. inl (inr was)) (λ same. inr same) (in_last d bs i)
