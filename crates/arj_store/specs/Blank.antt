-- Files among which there is none of a role are formed for it, and give it the empty pair.
use Rattle.std.proofs.Common.{◌≡◌, ◌≤◌, ◌∙◌, Bool, true, false, true≢false, List, [], ◌∷◌, length, refl, sym, ap, subst, ⊎_elim, Some, None}
use Rattle.std.specs.Prelude.{Contains, IsSome, is_some, IfSome, option_map, if◌then◌else◌}
use Rattle.std.proofs.Math.Facts.{leb_yes}
use Rattle.std.proofs.lemmas.List.Elements.{All-contains_itself, All-head}
use Rattle.arj_base.specs.declared.uid.Uid.{Uid}
use Rattle.arj_disk.specs.declared.limits.TheConstants.{MOST_KNOWN}
use Rattle.arj_disk.specs.declared.slot.Role.{Role}
use Rattle.arj_disk.specs.declared.slot.Slot.{Slot}
use Rattle.arj_disk.specs.declared.slot.Slot.TheVariants as slot
use Rattle.arj_disk.specs.FileMap.{FileMap}
use Rattle.arj_disk.specs.Formed.{IsStateOf}
use Rattle.arj_store.specs.Formed.{FormedFor, IsKnown, IsPreparedOf}
use Rattle.arj_disk.specs.Says.{names, role_eq, role_of, slot_role}
use Rattle.arj_store.specs.Says.{held, pend}
use Rattle.arj_store.specs.Named.{role_is}
use Rattle.arj_store.specs.OfFiles.{HasOnly}

module _ (role : Role) (file : FileMap) (none : (q : Slot) → slot_role q ≡ Some role → file q ≡ None) where
  -- no object has a committed state for the role
  nothing_held : (u : Uid) → held file role u ≡ None
  nothing_held u = by (role_eq (role_of u) role) refl
    where
      by : (b : Bool) → role_eq (role_of u) role ≡ b → (if b then file (slot.Committed u) else None) ≡ None
      by true e = none (slot.Committed u) (ap Some (role_is (role_of u) role e))
      by false e = refl

  -- no action has anything prepared
  nothing_pends : (a : Uid) → pend file role a ≡ None
  nothing_pends a = ap (option_map _) (none (slot.Prepared role a) refl)

  -- no action names an object
  nothing_named : (a u : Uid) → names (pend file role a) u → ⊥
  nothing_named a u is = subst (λ o. names o u) (nothing_pends a) is

  -- no object is known
  nothing_known : (u : Uid) → IsKnown file role u → ⊥
  nothing_known u =
      ⊎_elim (λ (h : IsSome (held file role u)). true≢false (sym h ∙ ap is_some (nothing_held u))) (λ (h : (a : Uid) × names (pend file role a) u). nothing_named h.0 u h.1)

  -- so the known objects are few: a list of them is empty
  few : (us : List Uid) → ((u : Uid) → Contains us u → IsKnown file role u) → length us ≤ MOST_KNOWN
  few [] known = leb_yes tt
  few (u ∷ us) known = absurd (nothing_known u (known u (All-head (Contains (u ∷ us)) u us (All-contains_itself (u ∷ us)))))

  -- files among which there is none of the role are formed for it
  pub formed_of_none : FormedFor file role
  formed_of_none = record {
    committed = λ u own. subst (λ o. IfSome o (IsStateOf u)) (sym (none (slot.Committed u) (ap Some own))) tt;
    shadows = λ u own. subst (λ o. IfSome o (IsStateOf u)) (sym (none (slot.Shadow u) (ap Some own))) tt;
    prepared = λ a. subst (λ o. IfSome o (IsPreparedOf a)) (sym (none (slot.Prepared role a) refl)) tt;
    own = λ a u is. absurd (nothing_named a u is);
    there = λ a u is. absurd (nothing_named a u is);
    once = λ a b u is is'. absurd (nothing_named a u is);
    few = λ us distinct known. few us known;
  }

  -- they give the empty pair: no committed state, and nothing prepared
  pub only_none : HasOnly role file []
  only_none = record {
    each = tt;
    others = λ u is. absurd (true≢false (sym is ∙ ap is_some (nothing_held u)));
    none = nothing_pends;
  }

-- the same, as the store's law
pub files_blank : (role : Role) (file : FileMap) → ((q : Slot) → slot_role q ≡ Some role → file q ≡ None) →
    FormedFor file role × HasOnly role file []
files_blank role file none = (formed_of_none role file none, only_none role file none)
