-- Distinct Uids among these are no more than these.
use Rattle.std.proofs.Common.{◌≡◌, ◌≤◌, true, ◌==◌, ◌&&◌, ℕ, List, ap, refl, arith, length}
use Rattle.std.specs.Prelude.{Contains}
use Rattle.std.specs.Cmp.{IsEquivalence}
use Rattle.std.proofs.lemmas.Bool.{eq-eqb, eqb-true, and_parts}
use Rattle.std.proofs.lemmas.Bool.Decides.{nat_tests}
use Rattle.std.proofs.lemmas.Map.Made.{length-le_from_is_member}
use Rattle.std.proofs.lemmas.Map.Views.{list_any-from_Contains, Contains-from_any}
use Rattle.arj_base.specs.Uid.{uid_eq}
use Rattle.arj_base.specs.declared.uid.Uid.{Uid}
use Rattle.arj_disk.specs.Formed.{AtMost}

uid_same : (u : Uid) → uid_eq u u ≡ true
uid_same u = λ i. eq-eqb u.node u.node refl i && (eq-eqb u.inc u.inc refl i && eq-eqb u.num u.num refl i)

uid_is : (u w : Uid) → uid_eq u w ≡ true → u ≡ w
uid_is u w e =
    let p = and_parts (u.node == w.node) ((u.inc == w.inc) && (u.num == w.num)) e in
    let q = and_parts (u.inc == w.inc) (u.num == w.num) p.1 in
    λ i. record { node = eqb-true u.node w.node p.0 i; inc = eqb-true u.inc w.inc q.0 i; num = eqb-true u.num w.num q.1 i }

eq_sym : (a b : ℕ) → (a == b) ≡ (b == a)
eq_sym a b = grind (arith, nat_tests)

uid_equivalence : IsEquivalence uid_eq
uid_equivalence = record {
  refl = uid_same;
  symm = λ u w i. eq_sym u.node w.node i && (eq_sym u.inc w.inc i && eq_sym u.num w.num i);
  congr = λ u w v e. ap (λ x. uid_eq x v) (uid_is u w e);
}

pub at_most : (n : ℕ) (us : List Uid) → length us ≤ n → AtMost n (Contains us)
at_most n us few ws distinct each =
    let le = length-le_from_is_member uid_equivalence ws us distinct (λ u is. list_any-from_Contains uid_equivalence u us (each u (Contains-from_any uid_is u ws is))) in
    omega (arith, le, few)
