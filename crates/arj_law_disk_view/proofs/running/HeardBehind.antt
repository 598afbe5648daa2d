-- Who is behind an action on a path has it on its own.
use Rattle.arj_law_parts.proofs.Words
use Words.{◌≡◌, ◌⊎◌, ◌+◌, ◌≤◌, ℕ, zero, suc, ◌||◌, Bool, true, false, List, [], ◌∷◌, ◌++◌, length, Option, Some, None, refl, sym, ◌∙◌, ap}
use Words.{inl, inr, ⊎_elim, append-nil, append_assoc, arith, cond, before_last, uid_is, Uid, front, is_on, last_uid, uid_eq, behind}
use Rattle.arj_law_disk_view.proofs.Terms.{IsTree, Paths, or_cases, or_left, or_right, some_is}

split_last : (us : List Uid) {h : Uid} → before_last us ≡ Some h → us ≡ front us ++ last_uid us ∷ []
split_last [] is = absurd (cc is)
split_last (x ∷ []) is = absurd (cc is)
split_last (x ∷ y ∷ []) is = refl
split_last (x ∷ y ∷ z ∷ us) is = ap (λ vs. x ∷ vs) (split_last (y ∷ z ∷ us) is)

front_is : (us : List Uid) {h : Uid} → before_last us ≡ Some h → (last_uid (front us) ≡ h) × (length (front us) + 1 ≡ length us)
front_is [] is = absurd (cc is)
front_is (x ∷ []) is = absurd (cc is)
front_is (x ∷ y ∷ []) is = (some_is refl is, refl)
front_is (x ∷ y ∷ z ∷ us) is = let f = front_is (y ∷ z ∷ us) is in (f.0, omega (arith, f.1))

-- a path with two actions has one before the last
none_short : (x y : Uid) (us : List Uid) → before_last (x ∷ y ∷ us) ≡ None → ⊥
none_short x y [] is = cc is
none_short x y (z ∷ us) is = none_short y z us is

none_behind : (us : List Uid) (u w : Uid) → before_last us ≡ None → is_on (behind u us) w ≡ true → ⊥
none_behind [] u w none on = cc on
none_behind (x ∷ []) u w none on = by (uid_eq x u) on
  where
    by : (b : Bool) → is_on (cond b [] []) w ≡ true → ⊥
    by true e = cc e
    by false e = cc e
none_behind (x ∷ y ∷ us) u w none on = none_short x y us none

-- behind an action with one more at the end of the path
behind_more : (us : List Uid) (u v w : Uid) → is_on (behind u (us ++ v ∷ [])) w ≡ true →
    (is_on us u ≡ true) × ((is_on (behind u us) w ≡ true) ⊎ (w ≡ v))
behind_more [] u v w on = absurd (one (uid_eq v u) on)
  where
    one : (b : Bool) → is_on (cond b [] []) w ≡ true → ⊥
    one true e = cc e
    one false e = cc e
behind_more (x ∷ us) u v w on = by (uid_eq x u) (λ e. behind_more us u v w e) on
  where
    more : (vs : List Uid) → is_on (vs ++ v ∷ []) w ≡ true → (is_on vs w ≡ true) ⊎ (w ≡ v)
    more [] e = inr (sym (uid_is v w (let z = or_cases (uid_eq v w) false e in ⊎_elim (λ here. here) (λ no. absurd (cc no)) z)))
    more (y ∷ vs) e = ⊎_elim (λ here. inl (or_left (uid_eq y w) (is_on vs w) here)) (λ rest. ⊎_elim (λ old.
        inl (or_right (uid_eq y w) (is_on vs w) old)) (λ last. inr last) (more vs rest)) (or_cases (uid_eq y w) (is_on (vs ++ v ∷ []) w) e)

    by : (b : Bool) → (is_on (behind u (us ++ v ∷ [])) w ≡ true → (is_on us u ≡ true) × ((is_on (behind u us) w ≡ true) ⊎ (w ≡ v))) →
        is_on (cond b (us ++ v ∷ []) (behind u (us ++ v ∷ []))) w ≡ true →
        ((b || is_on us u) ≡ true) × ((is_on (cond b us (behind u us)) w ≡ true) ⊎ (w ≡ v))
    by true ih e = (refl, more us e)
    by false ih e = ih e

on_more : (us : List Uid) (v u : Uid) → is_on us u ≡ true → is_on (us ++ v ∷ []) u ≡ true
on_more [] v u on = absurd (cc on)
on_more (x ∷ us) v u on = ⊎_elim (λ here. or_left (uid_eq x u) (is_on (us ++ v ∷ []) u) here)
    (λ more. or_right (uid_eq x u) (is_on (us ++ v ∷ []) u) (on_more us v u more)) (or_cases (uid_eq x u) (is_on us u) on)

-- a path that goes through an action begins with the action's
pub leads : (paths : Paths) → IsTree paths → (u : Uid) (k : ℕ) (v : Uid) → length (paths v) ≤ k → last_uid (paths v) ≡ v →
    is_on (paths v) u ≡ true → (rest : List Uid) × (paths v ≡ paths u ++ rest)
leads paths tree u zero v short last on = absurd (empty (paths v) short on)
  where
    empty : (us : List Uid) → length us ≤ 0 → is_on us u ≡ true → ⊥
    empty [] le o = cc o
    empty (x ∷ us) le o = absurd (omega (arith, le))
leads paths tree u (suc k) v short last on = by (λ h. leads paths tree u k h) (before_last (paths v)) refl
  where
    here : v ≡ u → (rest : List Uid) × (paths v ≡ paths u ++ rest)
    here same = ([], ap paths same ∙ sym (append-nil (paths u)))

    one : (us : List Uid) → before_last us ≡ None → last_uid us ≡ v → is_on us u ≡ true → v ≡ u
    one [] none end o = absurd (cc o)
    one (x ∷ []) none end o = sym end ∙ uid_is x u (let z = or_cases (uid_eq x u) false o in ⊎_elim (λ y. y) (λ no. absurd (cc no)) z)
    one (x ∷ y ∷ us) none end o = absurd (none_short x y us none)

    split : (us : List Uid) → is_on (us ++ v ∷ []) u ≡ true → (is_on us u ≡ true) ⊎ (v ≡ u)
    split [] o = inr (uid_is v u (let z = or_cases (uid_eq v u) false o in ⊎_elim (λ y. y) (λ no. absurd (cc no)) z))
    split (x ∷ us) o = ⊎_elim (λ first. inl (or_left (uid_eq x u) (is_on us u) first)) (λ more. ⊎_elim (λ old.
        inl (or_right (uid_eq x u) (is_on us u) old)) (λ end. inr end) (split us more)) (or_cases (uid_eq x u) (is_on (us ++ v ∷ []) u) o)

    by : ((h : Uid) → length (paths h) ≤ k → last_uid (paths h) ≡ h → is_on (paths h) u ≡ true → (rest : List Uid)
        × (paths h ≡ paths u ++ rest)) → (o : Option Uid) → before_last (paths v) ≡ o → (rest : List Uid) × (paths v ≡ paths u ++ rest)
    by ih None is = here (one (paths v) is last on)
    by ih (Some h) is =
        let q = tree.heir v h is in
        let f = front_is (paths v) is in
        let whole : paths v ≡ front (paths v) ++ v ∷ [] = split_last (paths v) is ∙ ap (λ x. front (paths v) ++ x ∷ []) last in
        ⊎_elim
        (λ above.
        let i = ih h (let n : length (paths h) + 1 ≡ length (paths v) = ap (λ us. length us + 1) (sym q.0) ∙ f.1 in
        omega (arith, n, short)) (ap last_uid (sym q.0) ∙ f.0) (ap (λ us. is_on us u) (sym q.0) ∙ above) in
        (i.0 ++ v ∷ [], whole ∙ (ap (λ us. us ++ v ∷ []) (q.0 ∙ i.1) ∙ append_assoc (paths u) i.0 (v ∷ []))))
        here (split (front (paths v)) (ap (λ us. is_on us u) (sym whole) ∙ on))

pub behind_on : (paths : Paths) → IsTree paths → (u : Uid) (k : ℕ) (v : Uid) → length (paths v) ≤ k → last_uid (paths v) ≡ v → (w : Uid) →
    is_on (behind u (paths v)) w ≡ true → is_on (paths w) u ≡ true
behind_on paths tree u zero v short last w on = absurd (empty (paths v) short on)
  where
    empty : (us : List Uid) → length us ≤ 0 → is_on (behind u us) w ≡ true → ⊥
    empty [] le o = cc o
    empty (x ∷ us) le o = absurd (omega (arith, le))
behind_on paths tree u (suc k) v short last w on = by (λ h. behind_on paths tree u k h) (before_last (paths v)) refl
  where
    by : ((h : Uid) → length (paths h) ≤ k → last_uid (paths h) ≡ h → (w : Uid) → is_on (behind u (paths h)) w ≡ true →
        is_on (paths w) u ≡ true) → (o : Option Uid) → before_last (paths v) ≡ o → is_on (paths w) u ≡ true
    by ih None is = absurd (none_behind (paths v) u w is on)
    by ih (Some h) is =
        let q = tree.heir v h is in
        let f = front_is (paths v) is in
        let whole : paths v ≡ front (paths v) ++ v ∷ [] = split_last (paths v) is ∙ ap (λ x. front (paths v) ++ x ∷ []) last in
        let m = behind_more (front (paths v)) u v w (ap (λ us. is_on (behind u us) w) (sym whole) ∙ on) in
        ⊎_elim
        (λ old. ih h (let n : length (paths h) + 1 ≡ length (paths v) = ap (λ us. length us + 1) (sym q.0) ∙ f.1 in
        omega (arith, n, short)) (ap last_uid (sym q.0) ∙ f.0) w (ap (λ us. is_on (behind u us) w) (sym q.0) ∙ old))
        (λ same. ap (λ x. is_on (paths x) u) same ∙ (ap (λ us. is_on us u) whole ∙ on_more (front (paths v)) v u m.0)) m.1
