-- Uids and bindings as numbers.
use Rattle.std.proofs.Common.{◌≡◌, ◌<◌, ℕ, zero, suc, ◌==◌, Bool, true, false, refl, sym, ◌∙◌, ap, subst, ◌⊎◌, inl, inr, ⊎_elim, arith}
use Rattle.std.proofs.Common.{nat_lt, ◌&&◌}
use Rattle.std.proofs.lemmas.Bool.{cases_order, eqb-true, and_parts}
use Rattle.std.specs.Cmp.{nat_cmp_is}
use Rattle.std.specs.declared.cmp.Ordering.{Ordering}
use Rattle.std.specs.declared.cmp.Ordering.TheVariants.{Less, Equal, Greater}
use Rattle.std.specs.Ordering.{nat_cmp, is_eq, is_lt, ordering_then}
use Rattle.arj_base.specs.Order.{binding_order}
use Rattle.arj_protocol.specs.Words.{Uid, Binding, uid_eq}
use Rattle.arj_protocol.specs.Order.{as_one, uid_number, binding_number, binding_less, binding_eq}
use Rattle.arj_protocol.proofs.RowSteps.{same_number, same_uid}

one_tells : (a b c d : ℕ) → as_one a b ≡ as_one c d → (a ≡ c) × (b ≡ d)
one_tells zero b zero d is = (refl, omega arith)
one_tells zero b (suc c) d is = absurd (omega arith)
one_tells (suc a) b zero d is = absurd (omega arith)
one_tells (suc a) b (suc c) d is =
    let half : as_one a b ≡ as_one c d = omega arith in
    let p = one_tells a b c d half in
    (ap suc p.0, p.1)

pub number_tells : (u w : Uid) → uid_number u ≡ uid_number w → u ≡ w
number_tells u w is =
    let p = one_tells u.node (as_one u.inc u.num) w.node (as_one w.inc w.num) is in
    let q = one_tells u.inc u.num w.inc w.num p.1 in
    λ i. record { node = p.0 i; inc = q.0 i; num = q.1 i }

parts_same : (u w : Uid) → uid_eq u w ≡ true → uid_number u ≡ uid_number w
parts_same u w is =
    let a = and_parts (u.node == w.node) ((u.inc == w.inc) && (u.num == w.num)) is in
    let b = and_parts (u.inc == w.inc) (u.num == w.num) a.1 in
    λ i. as_one (eqb-true u.node w.node a.0 i) (as_one (eqb-true u.inc w.inc b.0 i) (eqb-true u.num w.num b.1 i))

pub numbers_tell : (u w : Uid) → (uid_number u == uid_number w) ≡ uid_eq u w
numbers_tell u w = by (uid_number u == uid_number w) (uid_eq u w) refl refl
  where
    by : (a b : Bool) → (uid_number u == uid_number w) ≡ a → uid_eq u w ≡ b → a ≡ b
    by true true p q = refl
    by false false p q = refl
    by true false p q =
        let one : u ≡ w = number_tells u w (eqb-true (uid_number u) (uid_number w) p) in
        absurd (cc (sym (same_uid u) ∙ ap (λ v. uid_eq u v) one, q))
    by false true p q =
        let one : uid_number u ≡ uid_number w = parts_same u w q in
        absurd (cc (sym (same_number (uid_number u)) ∙ ap (λ n. uid_number u == n) one, p))

less_number : (m n : ℕ) → m < n → nat_lt m n ≡ true
less_number m n h = grind arith

more_number : (m n : ℕ) → n < suc m → nat_lt m n ≡ false
more_number m n h = grind arith

other_number : (m n : ℕ) → (m < n) ⊎ (n < m) → (m == n) ≡ false
other_number m n h = grind arith

same_numbers : (m n : ℕ) → m ≡ n → (m == n) ≡ true
same_numbers m n h = grind arith

-- a binding's number against another's, by the two comparisons
abbrev Compares : Binding → Binding → Ordering → Ordering → Type 0
Compares b c i n = (binding_less b c ≡ is_lt (ordering_then i n)) × (binding_eq b c ≡ is_eq (ordering_then i n))

less : (b c : Binding) (n : Ordering) → b.count < 4294967296 → c.count < 4294967296 → b.inc < c.inc → Compares b c Less n
less b c n fits fits2 h =
    (less_number (binding_number b) (binding_number c) (omega arith), other_number (binding_number b) (binding_number c) (inl (omega arith)))

more : (b c : Binding) (n : Ordering) → b.count < 4294967296 → c.count < 4294967296 → c.inc < b.inc → Compares b c Greater n
more b c n fits fits2 h =
    (more_number (binding_number b) (binding_number c) (omega arith), other_number (binding_number b) (binding_number c) (inr (omega arith)))

same_less : (b c : Binding) → b.inc ≡ c.inc → b.count < c.count → Compares b c Equal Less
same_less b c e h =
    (less_number (binding_number b) (binding_number c) (omega arith), other_number (binding_number b) (binding_number c) (inl (omega arith)))

same_more : (b c : Binding) → b.inc ≡ c.inc → c.count < b.count → Compares b c Equal Greater
same_more b c e h =
    (more_number (binding_number b) (binding_number c) (omega arith), other_number (binding_number b) (binding_number c) (inr (omega arith)))

same_same : (b c : Binding) → b.inc ≡ c.inc → b.count ≡ c.count → Compares b c Equal Equal
same_same b c e h =
    (more_number (binding_number b) (binding_number c) (omega arith), same_numbers (binding_number b) (binding_number c) (omega arith))

by_counts : (b c : Binding) → b.inc ≡ c.inc → Compares b c Equal (nat_cmp b.count c.count)
by_counts b c e = ⊎_elim {C = Compares b c Equal (nat_cmp b.count c.count)}
    (λ h. subst (Compares b c Equal) (nat_cmp_is b.count c.count Equal h) (same_same b c e h))
    (λ d. ⊎_elim {C = Compares b c Equal (nat_cmp b.count c.count)}
    (λ h. subst (Compares b c Equal) (nat_cmp_is b.count c.count Less h) (same_less b c e h))
    (λ h. subst (Compares b c Equal) (nat_cmp_is b.count c.count Greater h) (same_more b c e h)) d)
    (cases_order b.count c.count)

pub compares : (b c : Binding) → b.count < 4294967296 → c.count < 4294967296 → Compares b c (nat_cmp b.inc c.inc) (nat_cmp b.count c.count)
compares b c fits fits2 = ⊎_elim {C = Compares b c (nat_cmp b.inc c.inc) (nat_cmp b.count c.count)}
    (λ h. subst (λ i. Compares b c i (nat_cmp b.count c.count)) (nat_cmp_is b.inc c.inc Equal h) (by_counts b c h))
    (λ d. ⊎_elim {C = Compares b c (nat_cmp b.inc c.inc) (nat_cmp b.count c.count)}
    (λ h. subst (λ i. Compares b c i (nat_cmp b.count c.count)) (nat_cmp_is b.inc c.inc Less h) (less b c (nat_cmp b.count c.count) fits fits2 h))
    (λ h. subst (λ i. Compares b c i (nat_cmp b.count c.count)) (nat_cmp_is b.inc c.inc Greater h) (more b c (nat_cmp b.count c.count) fits fits2 h)) d)
    (cases_order b.inc c.inc)

pub lesser_compares : (b c : Binding) → b.count < 4294967296 → c.count < 4294967296 → binding_less b c ≡ is_lt (binding_order b c)
lesser_compares b c fits fits2 = (compares b c fits fits2).0

pub same_compares : (b c : Binding) → b.count < 4294967296 → c.count < 4294967296 → binding_eq b c ≡ is_eq (binding_order b c)
same_compares b c fits fits2 = (compares b c fits fits2).1
