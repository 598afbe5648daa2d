-- Which stores of a small journal are in time.
use Rattle.arj_law_parts.proofs.Words
use Words.{◌≡◌, ℕ, List, Option, refl, sym, inl, inr, ⊎_elim, ap, arith, [], ◌∷◌, unwrap_or, slice_index_or as get_or, ObjectState, IsNew}
use Words.{nobody, DiskIsInTime}
use Rattle.arj_law_serial.proofs.Terms.{option_map, IsInTime, IsOnly}
use Rattle.arj_law_serial.specs.joint
use joint.Samples.{counter_state, decided_lines, disks_decided, disks_late, entry_with, its_last, its_top, its_uid, naming_late}
use joint.Samples.{naming_node}
use joint.Samples.{store_three, store_two}
use Rattle.arj_promise.specs.Excluded.{Lists}

-- a state that stands alone is the only one of its object
alone : (s : ObjectState) → IsOnly s.uid (s ∷ []) s
alone s = ((inl refl, refl), λ t of. ⊎_elim (λ is. sym is) (λ none. absurd none) of.0)

pub two_in_time : IsInTime its_last decided_lines 1 naming_node store_two its_top 2
two_in_time = inr (inl (counter_state 1 its_uid 5 ∷ [], refl, alone (counter_state 1 its_uid 5)))

pub three_in_time : IsInTime its_last decided_lines 1 naming_node store_three its_top 3
three_in_time = inr (inr (record {
  by_top = its_top;
  committed = (0, omega arith, refl);
  unit = refl;
  states = entry_with 1 its_uid (2 ∷ []) ∷ [];
  prepared = refl;
  new = entry_with 1 its_uid (2 ∷ []);
  there = alone (entry_with 1 its_uid (2 ∷ []));
  lacks = refl;
}))

pub three_late : IsInTime its_last decided_lines 1 naming_late store_three its_top 3 → ⊥
three_late (inl h) = let e : 0 ≡ 1 = ap (λ o. unwrap_or (option_map (λ (s : ObjectState). s.version) o) 0) h in omega (arith, e)
three_late (inr (inl h)) = cc h.1
three_late (inr (inr h)) = cc h.prepared

pub is_new : IsNew 5 decided_lines its_top
is_new = ((0, omega arith, refl), refl)

pub is_old : IsNew 6 decided_lines its_top → ⊥
is_old h = cc h.1

-- ---- by disks

pub disk_two_in_time : DiskIsInTime its_last decided_lines 1 disks_decided its_top 2
disk_two_in_time = inr (inl refl)

pub disk_three_in_time : DiskIsInTime its_last decided_lines 1 disks_decided its_top 3
disk_three_in_time = inr (inr (record {
  by_top = its_top;
  committed = (0, omega arith, refl);
  unit = refl;
  new = entry_with 1 its_uid (2 ∷ []);
  form = ((omega arith, omega arith, omega arith), omega arith, (omega arith, omega arith, omega arith), omega arith);
  of = refl;
  prepared = refl;
  lacks = refl;
}))

pub disk_three_late : DiskIsInTime its_last decided_lines 1 disks_late its_top 3 → ⊥
disk_three_late (inl h) = let e : 0 ≡ 1 = ap (λ (o : Option (List ℕ)). get_or (unwrap_or o []) 29 0) h in omega (arith, e)
disk_three_late (inr (inl h)) = h
disk_three_late (inr (inr h)) = h.prepared

pub disk_lists : Lists (disks_late 1) 1 3
disk_lists = record {
  state = entry_with 0 nobody (2 ∷ 3 ∷ []);
  form = ((omega arith, omega arith, omega arith), omega arith, (omega arith, omega arith, omega arith), omega arith);
  holds = refl;
  has = refl;
}
