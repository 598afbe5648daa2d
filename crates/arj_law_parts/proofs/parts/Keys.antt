-- Maps and sets by Uid: what is found after a value is put, or taken out.
use Rattle.arj_law_parts.proofs.Words
use Words.{◌≡◌, ◌≢◌, ◌⊎◌, List, [], ◌∷◌, Bool, true, false, cond, Option, Some, None, refl, sym, ◌∙◌, ap, subst, inl, inr, ⊎_elim, rules}
use Words.{not, is_eq, match_ordering, Ordering, Less, Equal, Greater, or_cases, or_left, or_right, tied_itself, uid_order, is_on, uid_eq}
use Words.{Uid, total-law, uid_same, uid_is, uid_isnt, uid_cases, In, at_uid, put_uid, without_uid, with_uid, drop_uid}
use Rattle.arj_law_parts.proofs.Terms.{AreSorted}
use Rattle.arj_law_parts.specs.parts.Objects.{AreAbove}

pub order_exact : (u w : Uid) → uid_order u w ≡ Equal → u ≡ w
order_exact u w e = search rules

pub order_itself : (u : Uid) → uid_order u u ≡ Equal
order_itself u = tied_itself total-law u

-- ---- maps

module _ {X : Type 0} where
  pub at_here : (u : Uid) (v : X) (m : List (Uid × X)) → at_uid u ((u, v) ∷ m) ≡ Some v
  at_here u v m = rw (order_itself u) refl

  pub at_there : (u w : Uid) (v : X) (m : List (Uid × X)) → u ≢ w → at_uid u ((w, v) ∷ m) ≡ at_uid u m
  at_there u w v m other = by (uid_order u w) refl
    where
      by : (r : Ordering) → uid_order u w ≡ r → cond (is_eq r) (Some v) (at_uid u m) ≡ at_uid u m
      by Less e = refl
      by Equal e = absurd (other (order_exact u w e))
      by Greater e = refl

  pub put_same : (u : Uid) (v : X) (m : List (Uid × X)) → at_uid u (put_uid u v m) ≡ Some v
  put_same u v [] = at_here u v []
  put_same u v (e ∷ es) = by (uid_order u e.0) refl (put_same u v es)
    where
      by : (r : Ordering) → uid_order u e.0 ≡ r → at_uid u (put_uid u v es) ≡ Some v →
          at_uid u (match_ordering r ((u, v) ∷ e ∷ es) ((e.0, v) ∷ es) (e ∷ put_uid u v es)) ≡ Some v
      by Less is ih = at_here u v (e ∷ es)
      by Equal is ih = rw is refl
      by Greater is ih = rw is ih

  pub put_other : (u w : Uid) (v : X) (m : List (Uid × X)) → u ≢ w → at_uid u (put_uid w v m) ≡ at_uid u m
  put_other u w v [] other = at_there u w v [] other
  put_other u w v (e ∷ es) other = by (uid_order w e.0) refl (put_other u w v es other)
    where
      by : (r : Ordering) → uid_order w e.0 ≡ r → at_uid u (put_uid w v es) ≡ at_uid u es →
          at_uid u (match_ordering r ((w, v) ∷ e ∷ es) ((e.0, v) ∷ es) (e ∷ put_uid w v es)) ≡ at_uid u (e ∷ es)
      by Less is ih = at_there u w v (e ∷ es) other
      by Equal is ih =
          let same : w ≡ e.0 = order_exact w e.0 is in
          let apart : u ≢ e.0 = λ k. other (k ∙ sym same) in
          at_there u e.0 v es apart ∙ sym (at_there u e.0 e.1 es apart)
      by Greater is ih = ap (λ o. cond (is_eq (uid_order u e.0)) (Some e.1) o) ih

  -- what stands after a value is put was there, or is the value
  pub put_cases : (u w : Uid) (v x : X) (m : List (Uid × X)) → at_uid u (put_uid w v m) ≡ Some x →
      ((u ≡ w) × (v ≡ x)) ⊎ ((u ≢ w) × (at_uid u m ≡ Some x))
  put_cases u w v x m is = ⊎_elim (λ same. inl (same, here same)) (λ other. inr (other, sym (put_other u w v m other) ∙ is)) (uid_cases u w)
    where
      here : u ≡ w → v ≡ x
      here same =
          let e : ◌≡◌ {A = Option X} (Some v) (Some x) = sym (put_same w v m) ∙ ap (λ k. at_uid k (put_uid w v m)) (sym same) ∙ is in cc

  above_none : (k : Uid) (m : List (Uid × X)) → AreAbove k m → at_uid k m ≡ None
  above_none k [] above = refl
  above_none k (e ∷ es) above = rw above.0 (above_none k es above.1)

  above_all : (w k : Uid) (m : List (Uid × X)) → uid_order w k ≡ Less → AreAbove k m → AreAbove w m
  above_all w k [] less above = tt
  above_all w k (e ∷ es) less above = (total-law.trans w k e.0 less above.0, above_all w k es less above.1)

  above_put : (k w : Uid) (v : X) (m : List (Uid × X)) → uid_order k w ≡ Less → AreAbove k m → AreAbove k (put_uid w v m)
  above_put k w v [] less above = (less, tt)
  above_put k w v (e ∷ es) less above = by (uid_order w e.0) (above_put k w v es less above.1)
    where
      by : (r : Ordering) → AreAbove k (put_uid w v es) →
          AreAbove k (match_ordering r ((w, v) ∷ e ∷ es) ((e.0, v) ∷ es) (e ∷ put_uid w v es))
      by Less ih = (less, above)
      by Equal ih = above
      by Greater ih = (above.0, ih)

  above_without : (k w : Uid) (m : List (Uid × X)) → AreAbove k m → AreAbove k (without_uid w m)
  above_without k w [] above = tt
  above_without k w (e ∷ es) above = by (uid_order w e.0) (above_without k w es above.1)
    where
      by : (r : Ordering) → AreAbove k (without_uid w es) → AreAbove k (cond (is_eq r) es (e ∷ without_uid w es))
      by Less ih = (above.0, ih)
      by Equal ih = above.1
      by Greater ih = (above.0, ih)

  pub sorted_put : (w : Uid) (v : X) (m : List (Uid × X)) → AreSorted m → AreSorted (put_uid w v m)
  sorted_put w v [] sorted = (tt, tt)
  sorted_put w v (e ∷ es) sorted = by (uid_order w e.0) refl (sorted_put w v es sorted.1)
    where
      by : (r : Ordering) → uid_order w e.0 ≡ r → AreSorted (put_uid w v es) →
          AreSorted (match_ordering r ((w, v) ∷ e ∷ es) ((e.0, v) ∷ es) (e ∷ put_uid w v es))
      by Less is ih = ((is, above_all w e.0 es is sorted.0), sorted)
      by Equal is ih = sorted
      by Greater is ih = (above_put e.0 w v es (total-law.antisymm e.0 w ∙ rw is refl) sorted.0, ih)

  pub without_same : (u : Uid) (m : List (Uid × X)) → AreSorted m → at_uid u (without_uid u m) ≡ None
  without_same u [] sorted = refl
  without_same u (e ∷ es) sorted = by (uid_order u e.0) refl (without_same u es sorted.1)
    where
      by : (r : Ordering) → uid_order u e.0 ≡ r → at_uid u (without_uid u es) ≡ None →
          at_uid u (cond (is_eq r) es (e ∷ without_uid u es)) ≡ None
      by Less is ih = rw is ih
      by Equal is ih = ap (λ k. at_uid k es) (order_exact u e.0 is) ∙ above_none e.0 es sorted.0
      by Greater is ih = rw is ih

  pub without_other : (u w : Uid) (m : List (Uid × X)) → u ≢ w → at_uid u (without_uid w m) ≡ at_uid u m
  without_other u w [] other = refl
  without_other u w (e ∷ es) other = by (uid_order w e.0) refl (without_other u w es other)
    where
      by : (r : Ordering) → uid_order w e.0 ≡ r → at_uid u (without_uid w es) ≡ at_uid u es →
          at_uid u (cond (is_eq r) es (e ∷ without_uid w es)) ≡ at_uid u (e ∷ es)
      by Less is ih = ap (λ o. cond (is_eq (uid_order u e.0)) (Some e.1) o) ih
      by Equal is ih = sym (at_there u e.0 e.1 es (λ k. other (k ∙ sym (order_exact w e.0 is))))
      by Greater is ih = ap (λ o. cond (is_eq (uid_order u e.0)) (Some e.1) o) ih

  -- what is found in a map without an action's value was there, of another action
  pub without_cases : (u w : Uid) (x : X) (m : List (Uid × X)) → AreSorted m → at_uid u (without_uid w m) ≡ Some x →
      (u ≢ w) × (at_uid u m ≡ Some x)
  without_cases u w x m sorted is = (other, sym (without_other u w m other) ∙ is)
    where
      other : u ≢ w
      other same = let never : ◌≡◌ {A = Option X} None (Some x) = sym (without_same w m sorted)
          ∙ ap (λ k. at_uid k (without_uid w m)) (sym same) ∙ is in cc

  pub sorted_without : (w : Uid) (m : List (Uid × X)) → AreSorted m → AreSorted (without_uid w m)
  sorted_without w [] sorted = tt
  sorted_without w (e ∷ es) sorted = by (uid_order w e.0) (sorted_without w es sorted.1)
    where
      by : (r : Ordering) → AreSorted (without_uid w es) → AreSorted (cond (is_eq r) es (e ∷ without_uid w es))
      by Less ih = (above_without e.0 w es sorted.0, ih)
      by Equal ih = sorted.1
      by Greater ih = (above_without e.0 w es sorted.0, ih)

  pub at_in : (u : Uid) (x : X) (m : List (Uid × X)) → at_uid u m ≡ Some x → In (u, x) m
  at_in u x [] is = cc
  at_in u x (e ∷ es) is = by (uid_order u e.0) refl is (at_in u x es)
    where
      by : (r : Ordering) → uid_order u e.0 ≡ r → cond (is_eq r) (Some e.1) (at_uid u es) ≡ Some x →
          (at_uid u es ≡ Some x → In (u, x) es) → In (u, x) (e ∷ es)
      by Less is found ih = inr (ih found)
      by Equal is found ih = let here : e.1 ≡ x = cc in inl (λ i. (sym (order_exact u e.0 is) i, here i))
      by Greater is found ih = inr (ih found)

  pub in_at : (e : Uid × X) (m : List (Uid × X)) → AreSorted m → In e m → at_uid e.0 m ≡ Some e.1
  in_at e [] sorted i = absurd i
  in_at e (f ∷ fs) sorted (inl same) = subst (λ (g : Uid × X). at_uid g.0 (f ∷ fs) ≡ Some g.1) same (at_here f.0 f.1 fs)
  in_at e (f ∷ fs) sorted (inr i) = by (in_at e fs sorted.1 i)
    where
      by : at_uid e.0 fs ≡ Some e.1 → at_uid e.0 (f ∷ fs) ≡ Some e.1
      by found = at_there e.0 f.0 f.1 fs (λ same. let never : ◌≡◌ {A = Option X} None (Some e.1) = sym (above_none f.0 fs sorted.0)
          ∙ ap (λ k. at_uid k fs) (sym same) ∙ found in cc) ∙ found

-- ---- sets

pub on_with : (u w : Uid) (us : List Uid) → is_on (with_uid w us) u ≡ true → (u ≡ w) ⊎ (is_on us u ≡ true)
on_with u w [] on = ⊎_elim (λ same. inl (sym (uid_is w u same))) (λ rest. inr rest) (or_cases (uid_eq w u) false on)
on_with u w (v ∷ vs) on = by (uid_order w v) refl on (on_with u w vs)
  where
    first : is_on (w ∷ v ∷ vs) u ≡ true → (u ≡ w) ⊎ (is_on (v ∷ vs) u ≡ true)
    first h = ⊎_elim (λ same. inl (sym (uid_is w u same))) (λ rest. inr rest) (or_cases (uid_eq w u) (is_on (v ∷ vs) u) h)

    more : is_on (v ∷ with_uid w vs) u ≡ true → (is_on (with_uid w vs) u ≡ true → (u ≡ w) ⊎ (is_on vs u ≡ true)) →
        (u ≡ w) ⊎ (is_on (v ∷ vs) u ≡ true)
    more h ih = ⊎_elim (λ same. inr (or_left (uid_eq v u) (is_on vs u) same)) (λ rest. ⊎_elim (λ one. inl one)
        (λ old. inr (or_right (uid_eq v u) (is_on vs u) old)) (ih rest)) (or_cases (uid_eq v u) (is_on (with_uid w vs) u) h)

    by : (r : Ordering) → uid_order w v ≡ r → is_on (match_ordering r (w ∷ v ∷ vs) (v ∷ vs) (v ∷ with_uid w vs)) u ≡ true →
        (is_on (with_uid w vs) u ≡ true → (u ≡ w) ⊎ (is_on vs u ≡ true)) → (u ≡ w) ⊎ (is_on (v ∷ vs) u ≡ true)
    by Less is h ih = first h
    by Equal is h ih = inr h
    by Greater is h ih = more h ih

pub with_on : (u w : Uid) (us : List Uid) → (u ≡ w) ⊎ (is_on us u ≡ true) → is_on (with_uid w us) u ≡ true
with_on u w [] (inl same) = or_left (uid_eq w u) false (ap (uid_eq w) same ∙ uid_same w)
with_on u w [] (inr on) = or_right (uid_eq w u) false on
with_on u w (v ∷ vs) h = by (uid_order w v) refl h (with_on u w vs)
  where
    by : (r : Ordering) → uid_order w v ≡ r → (u ≡ w) ⊎ (is_on (v ∷ vs) u ≡ true) → ((u ≡ w) ⊎ (is_on vs u ≡ true) →
        is_on (with_uid w vs) u ≡ true) → is_on (match_ordering r (w ∷ v ∷ vs) (v ∷ vs) (v ∷ with_uid w vs)) u ≡ true
    by Less is (inl same) ih = or_left (uid_eq w u) (is_on (v ∷ vs) u) (ap (uid_eq w) same ∙ uid_same w)
    by Less is (inr on) ih = or_right (uid_eq w u) (is_on (v ∷ vs) u) on
    by Equal is (inl same) ih =
        or_left (uid_eq v u) (is_on vs u) (ap (λ k. uid_eq k u) (sym (order_exact w v is)) ∙ ap (uid_eq w) same ∙ uid_same w)
    by Equal is (inr on) ih = on
    by Greater is (inl same) ih = or_right (uid_eq v u) (is_on (with_uid w vs) u) (ih (inl same))
    by Greater is (inr on) ih = ⊎_elim (λ one. or_left (uid_eq v u) (is_on (with_uid w vs) u) one)
        (λ old. or_right (uid_eq v u) (is_on (with_uid w vs) u) (ih (inr old))) (or_cases (uid_eq v u) (is_on vs u) on)

pub on_drop : (u w : Uid) (us : List Uid) → is_on (drop_uid w us) u ≡ true → (u ≢ w) × (is_on us u ≡ true)
on_drop u w [] on = cc
on_drop u w (v ∷ vs) on = by (uid_eq v w) refl on (on_drop u w vs)
  where
    by : (b : Bool) → uid_eq v w ≡ b → is_on (cond (not b) (v ∷ drop_uid w vs) (drop_uid w vs)) u ≡ true →
        (is_on (drop_uid w vs) u ≡ true → (u ≢ w) × (is_on vs u ≡ true)) → (u ≢ w) × (is_on (v ∷ vs) u ≡ true)
    by true is h ih = let r = ih h in (r.0, or_right (uid_eq v u) (is_on vs u) r.1)
    by false is h ih =
        ⊎_elim (λ same. ((λ k. uid_isnt v w is (uid_is v u same ∙ k)), or_left (uid_eq v u) (is_on vs u) same)) (λ rest. let r = ih rest in
        (r.0, or_right (uid_eq v u) (is_on vs u) r.1)) (or_cases (uid_eq v u) (is_on (drop_uid w vs) u) h)

pub drop_on : (u w : Uid) (us : List Uid) → u ≢ w → is_on us u ≡ true → is_on (drop_uid w us) u ≡ true
drop_on u w [] other on = on
drop_on u w (v ∷ vs) other on = by (uid_eq v w) refl on (drop_on u w vs other)
  where
    by : (b : Bool) → uid_eq v w ≡ b → is_on (v ∷ vs) u ≡ true → (is_on vs u ≡ true → is_on (drop_uid w vs) u ≡ true) →
        is_on (cond (not b) (v ∷ drop_uid w vs) (drop_uid w vs)) u ≡ true
    by true is h ih = ⊎_elim (λ same. absurd (other (sym (uid_is v u same) ∙ uid_is v w is))) ih (or_cases (uid_eq v u) (is_on vs u) h)
    by false is h ih = ⊎_elim (λ same. or_left (uid_eq v u) (is_on (drop_uid w vs) u) same)
        (λ rest. or_right (uid_eq v u) (is_on (drop_uid w vs) u) (ih rest)) (or_cases (uid_eq v u) (is_on vs u) h)
