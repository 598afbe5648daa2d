-- Files among which there is none of a role are formed for it, and give it the empty pair.
use Rattle.std.proofs.Common.{◌≡◌, ◌∙◌, true≢false, List, [], ◌∷◌, ◌≤◌, length, refl, sym, ap, subst, ⊎_elim, Some, None}
use Rattle.std.specs.Prelude.{Contains, IsSome, is_some, IfSome, option_map}
use Rattle.std.proofs.Math.Facts.{leb_yes}
use Rattle.std.proofs.lemmas.List.Elements.{All-contains_itself, All-head}
use Rattle.arj_base.specs.declared.uid.Uid.{Uid}
use Rattle.arj_disk.specs.declared.limits.TheConstants.{MOST_KNOWN}
use Rattle.arj_disk.specs.declared.slot.Role.{Role}
use Rattle.arj_disk.specs.declared.slot.Slot.{Slot}
use Rattle.arj_disk.specs.declared.slot.Slot.TheVariants as slot
use Rattle.arj_disk.specs.FileMap.{FileMap}
use Rattle.arj_disk.specs.Says.{names, slot_role}
use Rattle.arj_segment_file.proofs.Newest.{newest_none}
use Rattle.arj_segment_file.specs.Format.{IsSegment, state_in}
use Rattle.arj_store.specs.Pair.{HasOnly, InDoubt, IsKnown}
use Rattle.arj_segment.specs.Formed.{IsFormed}
use Rattle.arj_segment.specs.Says.{held, numbers, pair_of, pend, segments, state_at}

module _ (role : Role) (file : FileMap) (none : (q : Slot) → slot_role q ≡ Some role → file q ≡ None) where
  -- no object has a committed state
  pub nothing_held : (u : Uid) → held file role u ≡ None
  nothing_held u =
      ap (option_map (λ p. p.1)) (newest_none (state_at (segments file role) u) numbers (λ j below. ap (state_in u) (none (slot.Segment role j) refl)))

  -- no action has anything prepared
  pub nothing_pends : (a : Uid) → pend file role a ≡ None
  nothing_pends a = ap (option_map _) (none (slot.Pending role a) refl)

  -- no action names an object
  pub nothing_named : (a u : Uid) → names (pend file role a) u → ⊥
  nothing_named a u is = subst (λ o. names o u) (nothing_pends a) is

  -- no object is known
  pub nothing_known : (u : Uid) → IsKnown (pair_of file role) u → ⊥
  nothing_known u =
      ⊎_elim (λ (h : IsSome (held file role u)). true≢false (sym h ∙ ap is_some (nothing_held u))) (λ (h : InDoubt (pair_of file role) u). nothing_named h.0 u h.1)

  -- so the known objects are few: a list of them is empty
  few : (us : List Uid) → ((u : Uid) → Contains us u → IsKnown (pair_of file role) u) → length us ≤ MOST_KNOWN
  few [] known = leb_yes tt
  few (u ∷ us) known = absurd (nothing_known u (known u (All-head (Contains (u ∷ us)) u us (All-contains_itself (u ∷ us)))))

  -- the files are formed
  pub formed_of_none : IsFormed file role
  formed_of_none = record {
    segments = λ k below. subst (λ o. IfSome o (IsSegment role)) (sym (none (slot.Segment role k) refl)) tt;
    pendings = λ a. subst (λ o. IfSome o (IsSegment role)) (sym (none (slot.Pending role a) refl)) tt;
    once = λ a b u is is'. absurd (nothing_named a u is);
    few = λ us distinct known. few us known;
    in_place = record {
      old = λ q is own. none q own;
      low = λ k above. none (slot.Segment role k) refl;
      bare = λ nothing k. none (slot.Segment role k) refl;
    };
  }

  -- they give the empty pair: no committed state, and nothing prepared
  pub only_none : HasOnly (pair_of file role) []
  only_none = record {
    each = tt;
    others = λ u is. absurd (true≢false (sym is ∙ ap is_some (nothing_held u)));
    none = nothing_pends;
  }

-- the same, as the store's law
pub files_blank : (role : Role) (file : FileMap) → ((q : Slot) → slot_role q ≡ Some role → file q ≡ None) →
    IsFormed file role × HasOnly (pair_of file role) []
files_blank role file none = (formed_of_none role file none, only_none role file none)
