-- What it means that a root is free of the binding that it keeps.
use Rattle.arj_law_parts.proofs.Words
use Words.{◌≡◌, ◌≢◌, ◌∙◌, ◌==◌, ◌&&◌, ◌||◌, not, filter, ℕ, List, [], ◌∷◌, Bool, true, false, cond, refl, sym, ap, subst, inl, inr, ⊎_elim}
use Words.{Some, Contains, list_all, and_parts, uid_cases, uid_other, uid_same, in_from, none_in, Op, Uid, uid_eq, actor, Run, Steps}
use Words.{Calling, Coord, Doing, Said, branch_calls, calls_now, calls_on, doing_of, is_call, is_free, of_root, others_call, said_of}
use Words.{is_spent, root_of}
use Words.list
use Rattle.arj_law_lock_view.proofs.Terms.{differ, number_self, Paths, IsAsking, IsBusy, found_by, place_in, Acts, IsSteady}

-- what passes a test is kept
kept_in : {X : Type 0} (p : X → Bool) (y : X) (ys : List X) → list.In y ys → p y ≡ true → list.In y (filter p ys)
kept_in p y [] i h = absurd i
kept_in {X} p y (v ∷ vs) i h = by (p v) refl i (kept_in p y vs)
  where
    by : (t : Bool) → p v ≡ t → list.In y (v ∷ vs) → (list.In y vs → p y ≡ true → list.In y (filter p vs)) →
        list.In y (cond t (v ∷ filter p vs) (filter p vs))
    by true is (inl same_one) rest = inl same_one
    by true is (inr j) rest = inr (rest j h)
    by false is (inl same_one) rest = absurd (cc (sym h ∙ ap p (sym same_one) ∙ is))
    by false is (inr j) rest = rest j h

all_in : {X : Type 0} (p : X → Bool) (y : X) (ys : List X) → list_all p ys ≡ true → list.In y ys → p y ≡ true
all_in p y [] all j = absurd j
all_in p y (v ∷ vs) all (inl is) = ap p (sym is) ∙ (and_parts (p v) (list_all p vs) all).0
all_in p y (v ∷ vs) all (inr j) = all_in p y vs (and_parts (p v) (list_all p vs) all).1 j

module _ (act : Acts) (paths : Paths) (c : Coord) (steady : IsSteady act paths c) (rt u : Uid) (x : ℕ)
    (free : is_free rt u x c ≡ true) where
  parts : (not (others_call rt u x c) ≡ true) × (list_all (λ (z : Said). not (z.x == x) || is_spent z.path c.tree) (said_of rt c) ≡ true)
  parts = and_parts (not (others_call rt u x c)) (list_all (λ (z : Said). not (z.x == x) || is_spent z.path c.tree) (said_of rt c)) free

  -- each of its calls on the object is spent
  pub free_spent : (z : Said) → Contains (said_of rt c) z → z.x ≡ x → is_spent z.path c.tree ≡ true
  free_spent z there about =
      sym (λ i. not ((ap (λ (n : ℕ). n == x) about ∙ number_self x) i) || is_spent z.path c.tree)
      ∙ all_in (λ (y : Said). not (y.x == x) || is_spent y.path c.tree) z (said_of rt c) parts.1 (in_from z (said_of rt c) there)

  nobody : others_call rt u x c ≡ false
  nobody = by (others_call rt u x c) parts.0
    where
      by : (t : Bool) → not t ≡ true → t ≡ false
      by true h = absurd (cc h)
      by false h = refl

  -- and nobody else of it calls the object
  pub free_only : (w : Uid) (e : Doing) (z : Steps) (q : Op) → doing_of w c ≡ Some e → e.now ≡ Calling z → z.x ≡ x → z.goal ≡ Run q →
      root_of z.path ≡ rt → w ≡ u
  free_only w e z q works is about goal home = ⊎_elim (λ same_one. same_one) (λ other. absurd (calls other)) (uid_cases w u)
    where
      a : IsAsking c.tree w z.path
      a = subst (IsBusy c.tree w) is (steady.good.busy w e works)

      actor_is : actor a.branch.path ≡ w
      actor_is = steady.good.tree.lists.places w a.branch a.found

      there : list.In a.branch (filter (of_root rt) c.tree.branches)
      there = kept_in (of_root rt) a.branch c.tree.branches (place_in w.num a.branch c.tree.branches (found_by w c.tree a.branch a.found).1)
          (ap (λ p. uid_eq (root_of p) rt) a.path ∙ ap (λ (v : Uid). uid_eq v rt) home ∙ uid_same rt)

      calls : w ≢ u → ⊥
      calls other =
          let none : branch_calls x u c a.branch ≡ false = none_in (branch_calls x u c) a.branch (filter (of_root rt) c.tree.branches)
          nobody there in
          let some : branch_calls x u c a.branch ≡ true = ap (λ (v : Uid). not (uid_eq v u) && calls_now x (doing_of v c)) actor_is
          ∙ (λ i. not (uid_other w u other i) && calls_now x (works i)) ∙ (λ i. calls_on x (is i))
          ∙ (λ i. (ap (λ (n : ℕ). n == x) about ∙ number_self x) i && is_call (goal i)) in
          differ some none
