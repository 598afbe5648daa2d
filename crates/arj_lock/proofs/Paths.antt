-- Paths that agree.
use Rattle.std.proofs.Common.{◌≡◌, ◌⊎◌, ◌≤◌, List, [], ◌∷◌, length, Bool, true, false, cond, ◌||◌, Some, refl, sym, ◌∙◌, ap, inl, inr}
use Rattle.std.proofs.Common.{arith}
use Rattle.arj_base.specs.declared.uid.Uid.{Uid}
use Rattle.arj_base.specs.Path.{before_last}
use Rattle.arj_base.specs.Rows.{is_on, front, last_uid}
use Rattle.arj_base.specs.Uid.{uid_eq}
use Rattle.arj_lock.specs.Exclusion.{before, Agree}
use Rattle.arj_base.proofs.Uids.{uid_same, uid_is}

none_long : {P : Type 0} → 1 ≤ 0 → P
none_long le = absurd (omega (arith, le))

or_false : (a : Bool) → (a || false) ≡ a
or_false true = refl
or_false false = refl

-- an action is on its own path
pub on_last : (us : List Uid) → 1 ≤ length us → is_on us (last_uid us) ≡ true
on_last [] le = none_long le
on_last (u ∷ []) le = λ i. uid_same u i || false
on_last (u ∷ w ∷ us) le = by (uid_eq u (last_uid (w ∷ us))) (on_last (w ∷ us) (omega arith))
  where
    by : (b : Bool) → is_on (w ∷ us) (last_uid (w ∷ us)) ≡ true → (b || is_on (w ∷ us) (last_uid (w ∷ us))) ≡ true
    by true e = refl
    by false e = e

-- whoever is on a path is its last or stands before it
pub on_parts : (us : List Uid) (a : Uid) → is_on us a ≡ true → (uid_eq (last_uid us) a ≡ true) ⊎ (is_on (front us) a ≡ true)
on_parts [] a e = cc
on_parts (u ∷ []) a e = inl (sym (or_false (uid_eq u a)) ∙ e)
on_parts (u ∷ w ∷ us) a e = by (uid_eq u a) (on_parts (w ∷ us) a) e
  where
    by : (b : Bool) → (is_on (w ∷ us) a ≡ true → (uid_eq (last_uid (w ∷ us)) a ≡ true) ⊎ (is_on (front (w ∷ us)) a ≡ true))
        → (b || is_on (w ∷ us) a) ≡ true → (uid_eq (last_uid (w ∷ us)) a ≡ true) ⊎ ((b || is_on (front (w ∷ us)) a) ≡ true)
    by true ih e = inr refl
    by false ih e = ih e

pub on_front : (us : List Uid) (a : Uid) → is_on (front us) a ≡ true → is_on us a ≡ true
on_front [] a e = e
on_front (u ∷ []) a e = cc
on_front (u ∷ w ∷ us) a e = by (uid_eq u a) (on_front (w ∷ us) a) e
  where
    by : (b : Bool) → (is_on (front (w ∷ us)) a ≡ true → is_on (w ∷ us) a ≡ true) → (b || is_on (front (w ∷ us)) a) ≡ true →
        (b || is_on (w ∷ us) a) ≡ true
    by true ih e = refl
    by false ih e = ih e

-- the Uid before the last, where there is one
pub heir_is : (us : List Uid) (heir : Uid) → before_last us ≡ Some heir → (last_uid (front us) ≡ heir) × (1 ≤ length (front us))
heir_is [] heir e = cc
heir_is (u ∷ []) heir e = cc
heir_is (u ∷ w ∷ []) heir e = (cc, omega arith)
heir_is (u ∷ w ∷ v ∷ us) heir e = let r = heir_is (w ∷ v ∷ us) heir e in (r.0, omega arith)

-- what stands before a Uid of a path

pub before_front : (us : List Uid) (a : Uid) → is_on (front us) a ≡ true → before a (front us) ≡ before a us
before_front [] a e = cc
before_front (u ∷ []) a e = cc
before_front (u ∷ w ∷ us) a e = by (uid_eq u a) (before_front (w ∷ us) a) e
  where
    by : (b : Bool) → (is_on (front (w ∷ us)) a ≡ true → before a (front (w ∷ us)) ≡ before a (w ∷ us)) →
        (b || is_on (front (w ∷ us)) a) ≡ true
        → cond b [] (u ∷ before a (front (w ∷ us))) ≡ cond b [] (u ∷ before a (w ∷ us))
    by true ih e = refl
    by false ih e = ap (λ us. u ∷ us) (ih e)

pub before_last_is : (us : List Uid) (a : Uid) → uid_eq (last_uid us) a ≡ true → is_on (front us) a ≡ false → before a us ≡ front us
before_last_is [] a last new = refl
before_last_is (u ∷ []) a last new = λ i. cond (last i) [] (u ∷ [])
before_last_is (u ∷ w ∷ us) a last new = by (uid_eq u a) (before_last_is (w ∷ us) a last) new
  where
    by : (b : Bool) → (is_on (front (w ∷ us)) a ≡ false → before a (w ∷ us) ≡ front (w ∷ us)) → (b || is_on (front (w ∷ us)) a) ≡ false →
        cond b [] (u ∷ before a (w ∷ us)) ≡ u ∷ front (w ∷ us)
    by true ih e = cc
    by false ih e = ap (λ us. u ∷ us) (ih e)

on_before : (us : List Uid) (a b : Uid) → is_on (before b us) a ≡ true → is_on us a ≡ true
on_before [] a b e = e
on_before (u ∷ us) a b e = by (on_before us a b) (uid_eq u b) e
  where
    more : (t : Bool) → (is_on (before b us) a ≡ true → is_on us a ≡ true) → (t || is_on (before b us) a) ≡ true → (t || is_on us a) ≡ true
    more true ih e = refl
    more false ih e = ih e

    by : (is_on (before b us) a ≡ true → is_on us a ≡ true) → (s : Bool) → is_on (cond s [] (u ∷ before b us)) a ≡ true →
        is_on (u ∷ us) a ≡ true
    by ih true e = cc
    by ih false e = more (uid_eq u a) ih e

-- of two Uids of a path one stands before the other, or they are the same
in_order : (us : List Uid) (a b : Uid) → is_on us a ≡ true → is_on us b ≡ true →
    (is_on (before a us) b ≡ true) ⊎ ((is_on (before b us) a ≡ true) ⊎ (a ≡ b))
in_order [] a b on_a on_b = cc
in_order (u ∷ us) a b on_a on_b = by (uid_eq u a) refl (uid_eq u b) refl (in_order us a b) on_a on_b
  where
    by : (s : Bool) → uid_eq u a ≡ s → (t : Bool) → uid_eq u b ≡ t
        → (is_on us a ≡ true → is_on us b ≡ true → (is_on (before a us) b ≡ true) ⊎ ((is_on (before b us) a ≡ true) ⊎ (a ≡ b)))
        → (s || is_on us a) ≡ true → (t || is_on us b) ≡ true
        → (is_on (cond s [] (u ∷ before a us)) b ≡ true) ⊎ ((is_on (cond t [] (u ∷ before b us)) a ≡ true) ⊎ (a ≡ b))
    by true e true f ih on_a on_b = inr (inr (sym (uid_is u a e) ∙ uid_is u b f))
    by true e false f ih on_a on_b = inr (inl (λ i. e i || is_on (before b us) a))
    by false e true f ih on_a on_b = inl (λ i. f i || is_on (before a us) b)
    by false e false f ih on_a on_b = more (ih on_a on_b)
      where
        more : (is_on (before a us) b ≡ true) ⊎ ((is_on (before b us) a ≡ true) ⊎ (a ≡ b))
            → (is_on (u ∷ before a us) b ≡ true) ⊎ ((is_on (u ∷ before b us) a ≡ true) ⊎ (a ≡ b))
        more (inl on) = inl ((λ i. f i || is_on (before a us) b) ∙ on)
        more (inr (inl on)) = inr (inl ((λ i. e i || is_on (before b us) a) ∙ on))
        more (inr (inr same)) = inr (inr same)

-- Three paths that agree: where one action is on the first and the second, and another on the third and the second, the
-- other is on the first, or the one on the third.
pub between : (p q r : List Uid) (a b : Uid) → Agree p q → Agree r q → is_on p a ≡ true → is_on q a ≡ true → is_on r b ≡ true →
    is_on q b ≡ true → (is_on p b ≡ true) ⊎ (is_on r a ≡ true)
between p q r a b pq rq pa qa rb qb = by (in_order q a b qa qb)
  where
    by : (is_on (before a q) b ≡ true) ⊎ ((is_on (before b q) a ≡ true) ⊎ (a ≡ b)) → (is_on p b ≡ true) ⊎ (is_on r a ≡ true)
    by (inl on) = inl (on_before p b a (ap (λ us. is_on us b) (pq a pa qa) ∙ on))
    by (inr (inl on)) = inr (on_before r a b (ap (λ us. is_on us a) (rq b rb qb) ∙ on))
    by (inr (inr same)) = inl (ap (is_on p) (sym same) ∙ pa)

-- agreeing

pub agree_same : (p : List Uid) → Agree p p
agree_same p = λ u on also. refl

pub agree_sym : (p q : List Uid) → Agree p q → Agree q p
agree_sym p q agree = λ u on also. sym (agree u also on)

pub agree_front : (p q : List Uid) → Agree p q → Agree (front p) q
agree_front p q agree = λ u on also. before_front p u on ∙ agree u (on_front p u on) also
