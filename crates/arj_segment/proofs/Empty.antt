-- A store of no files keeps nothing.
use Rattle.std.proofs.Common.{◌≡◌, ◌∙◌, true≢false, ℕ, List, [], refl, sym, ap, subst, Option, Some, None}
use Rattle.std.specs.Prelude.{is_some, option_map, MatchOption}
use Rattle.std.specs.List.Sorted.{IsStrictlySortedBy}
use Rattle.arj_base.specs.declared.uid.Uid.{Uid}
use Rattle.arj_disk.specs.FileMap.{FileMap}
use Rattle.arj_disk.specs.Says.{names, slot_role}
use Rattle.arj_disk.specs.declared.slot.Role.{Role}
use Rattle.arj_disk.specs.declared.slot.Slot.{Slot}
use Rattle.arj_disk.specs.declared.slot.Slot.TheVariants as slot
use Rattle.arj_segment_file.proofs.Newest.{newest_none}
use Rattle.arj_store.specs.Effects.{objects}
use Rattle.arj_store.specs.Table.{at}
use Rattle.arj_segment.specs.Blank.{nothing_named, nothing_pends}
use Rattle.arj_segment.specs.Kept.{Keeps}
use Rattle.arj_segment.specs.Says.{numbers, pend, segments, state_at, state_in}
use Rattle.arj_segment.specs.Tables.{AreNumbers}
use Rattle.arj_segment.specs.declared.kept.Kept.{Kept}

no_numbers : (segment : ℕ → Option (List ℕ)) → ((k : ℕ) → segment k ≡ None) → AreNumbers segment []
unfolding IsStrictlySortedBy
no_numbers segment none = record { there = λ k within some. absurd (true≢false (sym some ∙ ap is_some (none k))); only = tt; below = tt; rises = tt }

pub keeps_nothing : (role : Role) (file : FileMap) → ((q : Slot) → slot_role q ≡ Some role → file q ≡ None) → (kept : Kept) →
    ((a : Uid) → at kept.actions a ≡ None) → ((u : Uid) → at kept.holdings u ≡ None) → ((u : Uid) → at kept.places u ≡ None) →
    kept.numbers ≡ []
    → Keeps role kept file
keeps_nothing role file none kept no_action no_holder no_place no_number = record {
  pending = record {
    actions_are = λ a. no_action a ∙ sym (ap (option_map objects) (nothing_pends role file none a));
    holders_are =
        λ u. subst (λ h. MatchOption h ((a : Uid) → names (pend file role a) u →
        ⊥) (λ a. names (pend file role a) u)) (sym (no_holder u)) (λ a is. nothing_named role file none a u is);
  };
  committed = record {
    places_are = λ u. no_place u ∙ sym (ap (option_map (λ p. p.0)) (newest_none (state_at (segments file role) u) numbers (λ j within. ap (state_in u) (none (slot.Segment role j) refl))));
    numbers_are =
        subst (AreNumbers (segments file role)) (sym no_number) (no_numbers (segments file role) (λ k. none (slot.Segment role k) refl));
  };
}
