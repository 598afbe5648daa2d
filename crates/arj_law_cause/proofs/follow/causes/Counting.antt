-- A coordinator counts the actions of each root: as many as its tree has of it.
use Rattle.arj_law_parts.proofs.Words
use Words.{◌≡◌, ◌∙◌, ◌+◌, ◌==◌, ℕ, zero, suc, Bool, true, false, cond, List, [], ◌∷◌, ◌++◌, filter, length, refl, sym, ap, subst, arith}
use Words.{nat_tests, nat_le, Option, Some, None, slice_get, slice_set, unwrap_or, length-append, filter-append, put_other, put_same}
use Words.{actor, at_number, put_number, Branch, Coord, End, Family, Kind, Path, Tree, Uid, at_place, begun_by, branch_of, doomed_at}
use Words.{doomed_branch, ended_at, ended_branch, eqb-true, family_of, next_uid, no_family, parent_of, path_below, root_of, set_place}
use Words.{uids_of, uses_object, with_family}
use Rattle.arj_law_runs.proofs.Terms.{found_by, actions_at}
use Rattle.arj_law_runs.proofs.coordinators.CoordRooms.{acked_tree, again_tree}
use Rattle.arj_law_runs.proofs.coordinators.RunCoords.{IsKept}
use Rattle.arj_law_runs.specs.coordinators.Rooms.{family_at}
use Rattle.arj_law_cause.proofs.follow.causes.Turning.{of_acts, of_heard}

-- the action is of the root of this number
abbrev pub is_of : ℕ → Branch → Bool
is_of k b = (root_of b.path).num == k

-- how many of these are
abbrev pub count_in : ℕ → List Branch → ℕ
count_in k bs = length (filter (is_of k) bs)

-- each root counts its actions
abbrev pub IsCounted : Tree → Type 0
IsCounted t = (k : ℕ) → actions_at k t ≡ count_in k t.branches

abbrev pub Counts : Coord → Type 0
Counts c = IsCounted c.tree

-- ---- what changes nothing of it

-- another branch of the same root in its place
count_set : (k : ℕ) (bs : List Branch) (i : ℕ) (b c : Branch) → slice_get bs i ≡ Some b → c.path ≡ b.path →
    count_in k (slice_set bs i c) ≡ count_in k bs
count_set k [] i b c at same = refl
count_set k (x ∷ xs) zero b c at same =
    let here : x ≡ b = cc at in
    let test : is_of k c ≡ is_of k x = ap (λ p. (root_of p).num == k) (same ∙ ap (λ (y : Branch). y.path) (sym here)) in
    by (is_of k c) (is_of k x) test
  where
    by : (p q : Bool) → p ≡ q → length (cond p (c ∷ filter (is_of k) xs) (filter (is_of k) xs))
        ≡ length (cond q (x ∷ filter (is_of k) xs) (filter (is_of k) xs))
    by true true e = refl
    by false false e = refl
    by true false e = absurd (cc e)
    by false true e = absurd (cc e)
count_set k (x ∷ xs) (suc i) b c at same = by (is_of k x) (count_set k xs i b c at same)
  where
    by : (p : Bool) → count_in k (slice_set xs i c) ≡ count_in k xs
        → length (cond p (x ∷ filter (is_of k) (slice_set xs i c)) (filter (is_of k) (slice_set xs i c)))
        ≡ length (cond p (x ∷ filter (is_of k) xs) (filter (is_of k) xs))
    by true rest = ap suc rest
    by false rest = rest

count_place : (k j : ℕ) (bs : List Branch) (b c : Branch) → at_place j bs ≡ Some b → c.path ≡ b.path →
    count_in k (set_place j c bs) ≡ count_in k bs
count_place k zero bs b c at same = refl
count_place k (suc i) bs b c at same = count_set k bs i b c at same

module _ (root : Uid) (f : Family) (t : Tree) where
  there : (k : ℕ) → k ≡ root.num → family_at k (with_family root f t) ≡ f
  there k same = (λ i. unwrap_or (at_number (same i) (put_number root.num f t.families)) no_family)
      ∙ ap (λ o. unwrap_or o no_family) (put_same root.num f t.families)

  elsewhere : (k : ℕ) → (k ≡ root.num → ⊥) → family_at k (with_family root f t) ≡ family_at k t
  elsewhere k other = ap (λ o. unwrap_or o no_family) (put_other root.num k f t.families (grind (arith, other)))

  -- a root that has as many actions as before
  same_actions : f.actions ≡ actions_at root.num t → IsCounted t → IsCounted (with_family root f t)
  same_actions same its k = by (k == root.num) refl
    where
      by : (b : Bool) → (k == root.num) ≡ b → actions_at k (with_family root f t) ≡ count_in k t.branches
      by true e = ap (λ (g : Family). g.actions) (there k (eqb-true k root.num e)) ∙ same ∙ ap (λ j. actions_at j t)
          (sym (eqb-true k root.num e)) ∙ its k
      by false e = ap (λ (g : Family). g.actions) (elsewhere k (apart e)) ∙ its k
        where
          apart : (k == root.num) ≡ false → k ≡ root.num → ⊥
          apart e same = let no_way : true ≡ false = sym (one k root.num same) ∙ e in cc
            where
              one : (m n : ℕ) → m ≡ n → (m == n) ≡ true
              one m n is = grind (arith, nat_tests, is)

  -- and one that has one more
  one_more : (b : Branch) → root_of b.path ≡ root → f.actions ≡ actions_at root.num t + 1 → IsCounted t →
      IsCounted (with_family root f (record t { branches = t.branches ++ b ∷ [] }))
  one_more b its_root more its k = by (k == root.num) refl
    where
      longer : (p : Bool) → is_of k b ≡ p → count_in k (t.branches ++ b ∷ []) ≡ count_in k t.branches + cond p 1 0
      longer p is = ap length (filter-append (is_of k) t.branches (b ∷ [])) ∙ length-append (filter (is_of k) t.branches)
          (filter (is_of k) (b ∷ [])) ∙ ap (λ n. count_in k t.branches + n) (last (is_of k b) p is)
        where
          last : (x p : Bool) → x ≡ p → length (cond x (b ∷ []) []) ≡ cond p 1 0
          last true true e = refl
          last false false e = refl
          last true false e = absurd (cc e)
          last false true e = absurd (cc e)

      turn : (m n : ℕ) (b : Bool) → (m == n) ≡ b → (n == m) ≡ b
      turn m n true e = let same : m ≡ n = eqb-true m n e in grind (arith, nat_tests, same)
      turn m n false e = by (n == m) refl
        where
          by : (c : Bool) → (n == m) ≡ c → c ≡ false
          by false f = refl
          by true f = let same : n ≡ m = eqb-true n m f in let no_way : (m == n) ≡ true = grind (arith, nat_tests, same) in
              absurd (cc (sym no_way ∙ e))

      by : (p : Bool) → (k == root.num) ≡ p → actions_at k (with_family root f t) ≡ count_in k (t.branches ++ b ∷ [])
      by true e =
          ap (λ (g : Family). g.actions) (there k (eqb-true k root.num e)) ∙ more
          ∙ ap (λ n. n + 1) (ap (λ j. actions_at j t) (sym (eqb-true k root.num e)) ∙ its k)
          ∙ sym (longer true (ap (λ (u : Uid). u.num == k) its_root ∙ turn k root.num true e))
      by false e =
          ap (λ (g : Family). g.actions) (elsewhere k (apart e)) ∙ its k ∙ none (count_in k t.branches)
          ∙ sym (longer false (ap (λ (u : Uid). u.num == k) its_root ∙ turn k root.num false e))
        where
          none : (n : ℕ) → n ≡ n + 0
          none n = omega arith

          apart : (k == root.num) ≡ false → k ≡ root.num → ⊥
          apart e same = let no_way : true ≡ false = sym (one k root.num same) ∙ e in cc
            where
              one : (m n : ℕ) → m ≡ n → (m == n) ≡ true
              one m n is = grind (arith, nat_tests, is)

-- a branch in its place
replaced : (t : Tree) (u : Uid) (b c : Branch) → branch_of u t ≡ Some b → c.path ≡ b.path → IsCounted t →
    IsCounted (record t { branches = set_place u.num c t.branches })
replaced t u b c found path its k = its k ∙ sym (count_place k u.num t.branches b c (found_by u t b found).1 path)

counted_doomed : (u : Uid) (t : Tree) → IsCounted t → IsCounted (doomed_at u t)
counted_doomed u t its = by (branch_of u t) refl
  where
    by : (o : Option Branch) → branch_of u t ≡ o → IsCounted (doomed_branch u t o)
    by None is = its
    by (Some b) is = replaced t u b (record b { doomed = true }) is refl its

counted_ended : (u : Uid) (e : End) (t : Tree) → IsCounted t → IsCounted (ended_at u e t)
counted_ended u e t its = by (branch_of u t) refl
  where
    by : (o : Option Branch) → branch_of u t ≡ o → IsCounted (ended_branch u e t o)
    by None is = its
    by (Some b) is = listed (nat_le (Words.length (uids_of b.path)) 1)
      where
        c : Branch
        c = record b { ended = Some e }

        m : Tree
        m = record t { branches = set_place u.num c t.branches }

        shut : IsCounted m
        shut = replaced t u b c is refl its

        listed : (x : Bool) → IsCounted (cond x m (with_family (root_of b.path)
            (let g = family_of (root_of b.path) m in record g { ends = g.ends ++ (u, e) ∷ [] }) m))
        listed true = shut
        listed false = same_actions (root_of b.path) (let g = family_of (root_of b.path) m in record g { ends = g.ends ++ (u, e) ∷ [] }) m
            refl shut

counted_uses : (p : Path) (x : ℕ) (t : Tree) → IsCounted t → IsCounted (uses_object p x t)
counted_uses p x t its =
    same_actions (root_of p) (let f = family_of (root_of p) t in record f { objects = Words.with_number x f.objects }) t
    refl its

counted_begun : (how : Kind) (p : Path) (t : Tree) → IsCounted t → IsCounted (begun_by how p t)
counted_begun how p t its =
    let b : Branch = record { path = p; kind = how; ended = None; doomed = false } in
    one_more (root_of p) (let f = family_of (root_of p) t in record f { actions = f.actions + 1 }) t b refl refl its

pub counts_kept : IsKept Counts
counts_kept = record {
  new = λ node inc telling k. refl;
  hears = λ actions paths tree from a r intents c good its. of_heard IsCounted counted_ended from a r intents c its;
  acks = λ from u intents c its. subst IsCounted (sym (acked_tree from u intents c)) its;
  does = λ actions paths tree intents c good its hd i none other.
      of_acts IsCounted counted_ended counted_uses intents c its i other
      (λ l b is named d s does now waits t it. counted_doomed (actor s.path) t it);
  begins = λ actions begun paths tree l k parent c good may none its.
      counted_begun k (path_below k (parent_of parent c) (next_uid c.tree)) c.tree its;
  asks = λ ds c its. subst IsCounted (sym (again_tree ds c)) its;
}
