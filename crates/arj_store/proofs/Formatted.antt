-- A formatted disk.
use Rattle.std.proofs.Common.{◌≡◌, ◌⊎◌, ◌∙◌, true, false, ◌==◌, ◌&&◌, List, [], ◌∷◌, ℕ, ◌≤◌, arith, refl, sym, ap, subst, inl, inr, ⊎_elim}
use Rattle.std.proofs.Common.{map, take, Option, Some, None, length}
use Rattle.std.specs.Prelude.{IsSome, is_some, IfSome, option_map, Contains, MatchOption}
use Rattle.std.specs.List.{AllByRecursion, IsDistinct}
use Rattle.arj_base.specs.State.{state_bytes}
use Rattle.arj_base.specs.Uid.{uid_eq}
use Rattle.arj_base.specs.declared.state.ObjectState.{ObjectState}
use Rattle.arj_base.specs.declared.uid.Uid.{Uid}
use Rattle.arj_disk.specs.declared.slot.Role.{Role}
use Rattle.arj_disk.specs.declared.slot.Slot.{Slot}
use Rattle.arj_disk.specs.declared.slot.Slot.TheVariants as slot
use Rattle.arj_disk.specs.FileMap.{FileMap}
use Rattle.arj_disk.specs.Formed.{IsStateOf}
use Rattle.arj_store.specs.Formed.{FormedFor, IsPreparedOf}
use Rattle.arj_disk.specs.Says.{role_of, slot_role, names, OnlyOfRole}
use Rattle.arj_store.specs.Says.{held, pend}
use Rattle.arj_store.specs.declared.memory.Holding.{Holding}
use Rattle.arj_store.specs.declared.prepare.Place.TheVariants as place
use Rattle.arj_store.specs.OfFiles.{HasFirst, HasOnly}
use Rattle.arj_store.specs.Pair.{uid_of}
use Rattle.arj_store.specs.Shadow.{is_in, is_named, objects_of, has_shadow, Keeps, PutsFirst, PutsStates, HasStates}
use Rattle.arj_store.specs.Named.{held_own, held_of_role}
use Rattle.arj_store.proofs.Lists.{all_take}
use Rattle.arj_store.proofs.Prepared.{all_in, among}
use Rattle.arj_store.proofs.Puts.{length_map}
use Rattle.arj_store.proofs.Uids.{uid_is, uid_same}
use Rattle.std.specs.Cmp.{IsEquivalence}
use Rattle.std.proofs.lemmas.Bool.Decides.{nat_tests}
use Rattle.std.proofs.lemmas.Map.Made.{length-le_from_is_member}

eq_sym : (a b : ℕ) → (a == b) ≡ (b == a)
eq_sym a b = grind (arith, nat_tests)

pub uid_equivalence : IsEquivalence uid_eq
uid_equivalence = record {
  refl = uid_same;
  symm = λ u w i. eq_sym u.node w.node i && (eq_sym u.inc w.inc i && eq_sym u.num w.num i);
  congr = λ u w v e. ap (λ x. uid_eq x v) (uid_is u w e);
}

module _ (role : Role) (states : List ObjectState) (old new : FileMap) (empty : (q : Slot) → slot_role q ≡ Some role →
    old q ≡ None) (owns : AllByRecursion (λ s. role_of s.uid ≡ role) states)
    (puts : PutsStates place.Committed (map uid_of states) old new) where
  own : (u : Uid) → is_in (map uid_of states) u ≡ true → role_of u ≡ role
  own = all_in (λ u. role_of u ≡ role) states owns

  pub format_others : OnlyOfRole role old new
  format_others q other tmp = ⊎_elim (λ (e : new q ≡ old q). e)
      (λ (e : (w : Uid) × (is_in (map uid_of states) w ≡ true) × (q ≡ slot.Committed w) × IfSome (new q) (IsStateOf w)). absurd (other (ap slot_role e.2 ∙ ap Some (own e.0 e.1))))
      (puts q tmp)

  no_shadow : (u : Uid) → role_of u ≡ role → new (slot.Shadow u) ≡ None
  no_shadow u is = ⊎_elim (λ (e : new (slot.Shadow u) ≡ old (slot.Shadow u)). e ∙ empty (slot.Shadow u) (ap Some is))
      (λ (e : (w : Uid) × (is_in (map uid_of states) w ≡ true) × (slot.Shadow u ≡ slot.Committed w) × IfSome (new (slot.Shadow u)) (IsStateOf w)). let never : slot.Shadow u ≡ slot.Committed e.0 = e.2 in cc)
      (puts (slot.Shadow u) (λ e. cc))

  no_action : (a : Uid) → new (slot.Prepared role a) ≡ None
  no_action a = ⊎_elim (λ (e : new (slot.Prepared role a) ≡ old (slot.Prepared role a)). e ∙ empty (slot.Prepared role a) refl)
      (λ (e : (w : Uid) × (is_in (map uid_of states) w ≡ true) × (slot.Prepared role a ≡ slot.Committed w) × IfSome (new (slot.Prepared role a)) (IsStateOf w)). let never : slot.Prepared role a ≡ slot.Committed e.0 = e.2 in cc)
      (puts (slot.Prepared role a) (λ e. cc))

  -- an object of the role that has a file is one of the states'
  committed_cases : (u : Uid) → role_of u ≡ role →
      (new (slot.Committed u) ≡ None) ⊎ ((is_in (map uid_of states) u ≡ true) × IfSome (new (slot.Committed u)) (IsStateOf u))
  committed_cases u is = ⊎_elim (λ (e : new (slot.Committed u) ≡ old (slot.Committed u)). inl (e ∙ empty (slot.Committed u) (ap Some is)))
      (λ (e : (w : Uid) × (is_in (map uid_of states) w ≡ true) × (slot.Committed u ≡ slot.Committed w) × IfSome (new (slot.Committed u)) (IsStateOf w)).
      let same : e.0 ≡ u =
      cc in inr (subst (λ w. is_in (map uid_of states) w ≡ true) same e.1, subst (λ w. IfSome (new (slot.Committed u)) (IsStateOf w)) same e.3))
      (puts (slot.Committed u) (λ e. cc))

  nothing_pends : (a : Uid) → pend new role a ≡ None
  nothing_pends a = ap (option_map _) (no_action a)

  nothing_named : (a u : Uid) → names (pend new role a) u → ⊥
  nothing_named a u is = subst (λ p. names p u) (nothing_pends a) is

  only_held : (u : Uid) → IsSome (held new role u) → is_in (map uid_of states) u ≡ true
  only_held u is =
      ⊎_elim (λ (none : new (slot.Committed u) ≡ None). let never : false ≡ true =
      ap is_some (sym none) ∙ (held_of_role new role u is).1 in cc)
      (λ (e : (is_in (map uid_of states) u ≡ true) × IfSome (new (slot.Committed u)) (IsStateOf u)). e.0) (committed_cases u (held_of_role new role u is).0)

  pub format_pair : HasStates place.Committed states new → HasOnly role new states
  format_pair has = record {
    each = each states owns has;
    others = λ u is. among (map uid_of states) u (only_held u is);
    none = nothing_pends;
  }
    where
      each : (ss : List ObjectState) → AllByRecursion (λ s. role_of s.uid ≡ role) ss → HasStates place.Committed ss new →
          AllByRecursion (λ s. held new role s.uid ≡ Some (state_bytes s)) ss
      each [] owns has = tt
      each (s ∷ ss) owns has = (held_own new role s.uid owns.0 ∙ has.0, each ss owns.1 has.1)

  pub format_keeps : (a : Uid → Option (List Uid)) (h : Uid → Option Holding) → ((u : Uid) → a u ≡ None) → ((u : Uid) → h u ≡ None) →
      Keeps role a h new
  format_keeps a h no_actions no_holdings = record {
    actions_are = λ b. no_actions b ∙ sym (objects b);
    holders_are =
        λ u. subst (λ o. MatchOption o ((b : Uid) →
        is_named (objects_of new role b) u ≡ false) (λ x. is_named (objects_of new role x.act) u ≡ true)) (sym (no_holdings u)) (λ b. ap (λ o. is_named o u) (objects b));
    shadows_are = λ u is. ap is_some (no_shadow u is) ∙ sym (ap has_shadow (no_holdings u));
  }
    where
      objects : (b : Uid) → objects_of new role b ≡ None
      objects b = ap (option_map _) (no_action b)

  pub format_formed : length states ≤ 65535 → FormedFor new role
  format_formed short = record {
    committed = λ u is. ⊎_elim (λ (none : new (slot.Committed u) ≡ None). subst (λ o. IfSome o (IsStateOf u)) (sym none) tt)
        (λ (e : (is_in (map uid_of states) u ≡ true) × IfSome (new (slot.Committed u)) (IsStateOf u)). e.1) (committed_cases u is);
    shadows = λ u is. subst (λ o. IfSome o (IsStateOf u)) (sym (no_shadow u is)) tt;
    prepared = λ a. subst (λ o. IfSome o (IsPreparedOf a)) (sym (no_action a)) tt;
    own = λ a u is. absurd (nothing_named a u is);
    there = λ a u is. absurd (nothing_named a u is);
    once = λ a b u is is'. absurd (nothing_named a u is);
    few = λ us distinct known. count us distinct (λ u is. ⊎_elim (λ (h : IsSome (held new role u)). only_held u h) (λ (h : (a : Uid) × names (pend new role a) u). absurd (nothing_named h.0 u h.1)) (known u is));
  }
    where
      count : (us : List Uid) → IsDistinct uid_eq us → ((u : Uid) → Contains us u → is_in (map uid_of states) u ≡ true) → length us ≤ 65535
      count us distinct each =
          let le : length us ≤ length (map uid_of states) =
          length-le_from_is_member uid_equivalence us (map uid_of states) distinct (λ q is. each q (among us q is)) in omega (arith, length_map states)

-- a format that ended too soon
pub format_first : (role : Role) (states : List ObjectState) (old new : FileMap) → ((q : Slot) → slot_role q ≡ Some role → old q ≡ None) →
    AllByRecursion (λ s. role_of s.uid ≡ role) states
    → PutsFirst place.Committed states old new → HasFirst role new states
format_first role states old new empty owns first = (
  first.count,
  format_pair role (take first.count states) old new empty (all_take (λ s. role_of s.uid ≡ role) states first.count owns) first.puts first.there,
)
