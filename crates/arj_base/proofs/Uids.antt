-- Uids are told apart by their parts.
use Rattle.std.proofs.Common.{◌≡◌, ◌≢◌, ◌⊎◌, Bool, true, false, ◌==◌, ◌&&◌, refl, sym, ◌∙◌, ap, inl, inr}
use Rattle.std.proofs.lemmas.Bool.{and_parts, eqb-true, eq-eqb}
use Rattle.arj_base.specs.Uid.{uid_eq}
use Rattle.arj_base.specs.declared.uid.Uid.{Uid}

pub uid_same : (u : Uid) → uid_eq u u ≡ true
uid_same u = λ i. eq-eqb u.node u.node refl i && (eq-eqb u.inc u.inc refl i && eq-eqb u.num u.num refl i)

pub uid_is : (u w : Uid) → uid_eq u w ≡ true → u ≡ w
uid_is u w e =
    let p = and_parts (u.node == w.node) ((u.inc == w.inc) && (u.num == w.num)) e in
    let q = and_parts (u.inc == w.inc) (u.num == w.num) p.1 in
    λ i. record { node = eqb-true u.node w.node p.0 i; inc = eqb-true u.inc w.inc q.0 i; num = eqb-true u.num w.num q.1 i }

pub uid_isnt : (u w : Uid) → uid_eq u w ≡ false → u ≢ w
uid_isnt u w e same = let never : true ≡ false = sym (uid_same u) ∙ ap (uid_eq u) same ∙ e in cc

-- a test that is decided one way holds of both, or of neither
both : (a b : Bool) → (a ≡ true → b ≡ true) → (b ≡ true → a ≡ true) → a ≡ b
both true true to back = refl
both true false to back = sym (to refl)
both false true to back = back refl
both false false to back = refl

pub uid_sym : (u w : Uid) → uid_eq u w ≡ uid_eq w u
uid_sym u w =
    both (uid_eq u w) (uid_eq w u) (λ e. ap (λ v. uid_eq v u) (sym (uid_is u w e)) ∙ uid_same u) (λ e. ap (λ v. uid_eq v w) (sym (uid_is w u e)) ∙ uid_same w)

-- two Uids are the same or not
pub uid_cases : (u w : Uid) → (u ≡ w) ⊎ (u ≢ w)
uid_cases u w = by (uid_eq u w) refl
  where
    by : (b : Bool) → uid_eq u w ≡ b → (u ≡ w) ⊎ (u ≢ w)
    by true e = inl (uid_is u w e)
    by false e = inr (uid_isnt u w e)

pub uid_other : (u w : Uid) → u ≢ w → uid_eq u w ≡ false
uid_other u w other = by (uid_eq u w) refl
  where
    by : (b : Bool) → uid_eq u w ≡ b → uid_eq u w ≡ false
    by true e = absurd (other (uid_is u w e))
    by false e = e
