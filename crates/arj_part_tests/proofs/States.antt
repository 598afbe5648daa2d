-- States of objects 1 and 2 are of distinct objects of the role, and of no others.
use Rattle.std.proofs.Common.{◌≡◌, ◌∙◌, ◌<◌, ◌⊎◌, ℕ, [], ◌∷◌, false, arith, refl, sym, ap, subst, ⊎_elim, length}
use Rattle.std.specs.Prelude.{Contains}
use Rattle.std.specs.List.{IsDistinct}
use Rattle.std.proofs.lemmas.List.Elements.{Contains-get_or, Contains-push_cases}
use Rattle.arj_base.specs.Uid.{nobody, uid_eq}
use Rattle.arj_base.specs.declared.state.ObjectState.{ObjectState}
use Rattle.arj_base.specs.declared.uid.Uid.{Uid}
use Rattle.arj_disk.specs.declared.slot.Role.{Role}
use Rattle.arj_disk.specs.declared.slot.Role.TheVariants.{Store, Names}
use Rattle.arj_disk.specs.Says.{role_of}
use Rattle.arj_part_tests.specs.Known.{ours, uid_for}
use Rattle.arj_store.specs.Pair.{AreDistinct}

of_role : (role : Role) (x : ℕ) → role_of (uid_for role x) ≡ role
of_role Store x = refl
of_role Names x = refl

own_role : (role : Role) (s : ObjectState) (x : ℕ) → s.uid ≡ uid_for role x → role_of s.uid ≡ role
own_role role s x is = ap role_of is ∙ of_role role x

-- ---- distinct

pub distinct_none : (role : Role) → AreDistinct role []
unfolding IsDistinct
distinct_none role = record { distinct = tt; own = tt }

pub distinct_one : (role : Role) (s : ObjectState) (x : ℕ) → s.uid ≡ uid_for role x → AreDistinct role (s ∷ [])
unfolding IsDistinct
distinct_one role s x is = record { distinct = (tt, tt); own = (own_role role s x is, tt) }

pub distinct_two : (role : Role) (s t : ObjectState) → s.uid ≡ uid_for role 1 → t.uid ≡ uid_for role 2 → AreDistinct role (s ∷ t ∷ [])
unfolding IsDistinct
distinct_two role s t one two = record {
  distinct = ((other role, tt), (tt, tt));
  own = (own_role role s 1 one, (own_role role t 2 two, tt));
}
  where
    apart : (r : Role) → uid_eq (uid_for r 1) (uid_for r 2) ≡ false
    apart Store = refl
    apart Names = refl

    other : (r : Role) → uid_eq s.uid t.uid ≡ false
    other r = (λ i. uid_eq (one i) (two i)) ∙ apart role

-- ---- and no others

no_element : (u : Uid) → Contains [] u → ⊥
no_element u is = omega (arith, is.1)

first_ours : (role : Role) → Contains (ours role) (uid_for role 1)
first_ours role = let below : 0 < length (ours role) = omega arith in Contains-get_or (ours role) 0 nobody below

second_ours : (role : Role) → Contains (ours role) (uid_for role 2)
second_ours role = let below : 1 < length (ours role) = omega arith in Contains-get_or (ours role) 1 nobody below

pub ours_none : (role : Role) (u : Uid) → Contains [] u → Contains (ours role) u
ours_none role u is = absurd (no_element u is)

one_ours : (role : Role) (own : Uid) → Contains (ours role) own → (u : Uid) → Contains (own ∷ []) u → Contains (ours role) u
one_ours role own mine u is = ⊎_elim (λ (h : Contains [] u). ours_none role u h) (λ (h : own ≡ u). subst (Contains (ours role)) h mine)
    (Contains-push_cases [] own u is)

pub ours_first : (role : Role) (s : ObjectState) → s.uid ≡ uid_for role 1 → (u : Uid) → Contains (s.uid ∷ []) u → Contains (ours role) u
ours_first role s is = one_ours role s.uid (subst (Contains (ours role)) (sym is) (first_ours role))

pub ours_second : (role : Role) (s : ObjectState) → s.uid ≡ uid_for role 2 → (u : Uid) → Contains (s.uid ∷ []) u → Contains (ours role) u
ours_second role s is = one_ours role s.uid (subst (Contains (ours role)) (sym is) (second_ours role))

pub ours_both : (role : Role) (s t : ObjectState) → s.uid ≡ uid_for role 1 → t.uid ≡ uid_for role 2 → (u : Uid)
    → Contains (s.uid ∷ t.uid ∷ []) u → Contains (ours role) u
ours_both role s t one two u is = ⊎_elim (ours_first role s one u)
    (λ (h : t.uid ≡ u). ours_second role t two u (subst (λ w. Contains (t.uid ∷ []) w) h
    (let below : 0 < length (t.uid ∷ []) = omega arith in Contains-get_or (t.uid ∷ []) 0 nobody below)))
    (Contains-push_cases (s.uid ∷ []) t.uid u is)
