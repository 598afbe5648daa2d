-- Steps of loops over the objects of a list.
use Rattle.std.proofs.Common.{◌≡◌, ◌≢◌, ◌⊎◌, ◌∙◌, Bool, true, false, List, [], ◌∷◌, ◌++◌, ℕ, ◌+◌, ◌<◌, take, get_or, length, refl, sym, ap}
use Rattle.std.proofs.Common.{subst, inl, inr, ⊎_elim, Option, Some, None}
use Rattle.std.specs.Prelude.{IsSome, is_some, IfSome}
use Rattle.std.proofs.lemmas.List.{take_more}
use Rattle.std.proofs.lemmas.List.Folds.{list_any_at}
use Rattle.arj_base.specs.declared.uid.Uid.{Uid}
use Rattle.arj_disk.specs.declared.slot.Slot.TheVariants as slot
use Rattle.arj_disk.specs.Disk.{Same, Removes}
use Rattle.arj_disk.specs.FileMap.{FileMap}
use Rattle.arj_disk.specs.Formed.{IsStateOf}
use Rattle.arj_base.specs.Uid.{uid_eq}
use Rattle.arj_store.specs.declared.memory.Holding.{Holding}
use Rattle.arj_store.specs.declared.prepare.Place.TheVariants as place
use Rattle.arj_store.specs.Shadow.{is_in, has_shadow, Releases, HoldsAll, IsMovedOrNot, MovesShadow, MovesShadows, HaveNoShadow, PutsStates}
use Rattle.arj_store.specs.Table.{Sets}
use Rattle.arj_store.proofs.Uids.{uid_cases, uid_same, slot_cases, in_or_last, out_of_more}

-- ---- the list with one more

holds_one : (us : List Uid) (u act : Uid) (shadow : Bool) (old mid new : Uid → Option Holding) → HoldsAll us act shadow old mid →
    Sets mid new u (Some (record { act = act; shadow = shadow })) → HoldsAll (us ++ u ∷ []) act shadow old new
holds_one us u act shadow old mid new holds sets = record {
  here = λ w is. ⊎_elim (λ (e : w ≡ u). subst (λ v. new v ≡ Some (record { act = act; shadow = shadow })) (sym e) sets.here)
      (λ (e : (w ≢ u) × (is_in us w ≡ true)). sets.others w e.0 ∙ holds.here w e.1) (in_or_last us u w is);
  others = λ w isnt. let e = out_of_more us u w isnt in sets.others w e.0 ∙ holds.others w e.1;
}

pub holds_more : (us : List Uid) (i : ℕ) (act : Uid) (shadow : Bool) (old mid new : Uid → Option Holding) (d : Uid) → i < length us →
    HoldsAll (take i us) act shadow old mid
    → Sets mid new (get_or us i d) (Some (record { act = act; shadow = shadow })) → HoldsAll (take (i + 1) us) act shadow old new
holds_more us i act shadow old mid new d within holds sets =
    subst (λ ws. HoldsAll ws act shadow old new) (sym (take_more us i d within)) (holds_one (take i us) (get_or us i d) act shadow old mid new holds sets)

releases_one : (us : List Uid) (u : Uid) (old mid new : Uid → Option Holding) → Releases us old mid → Sets mid new u None →
    Releases (us ++ u ∷ []) old new
releases_one us u old mid new releases sets = record {
  gone = λ w is. ⊎_elim (λ (e : w ≡ u). subst (λ v. new v ≡ None) (sym e) sets.here) (λ (e : (w ≢ u) × (is_in us w ≡ true)). sets.others w e.0 ∙ releases.gone w e.1) (in_or_last us u w is);
  others = λ w isnt. let e = out_of_more us u w isnt in sets.others w e.0 ∙ releases.others w e.1;
}

pub releases_more : (us : List Uid) (i : ℕ) (old mid new : Uid → Option Holding) (d : Uid) → i < length us → Releases (take i us) old mid →
    Sets mid new (get_or us i d) None → Releases (take (i + 1) us) old new
releases_more us i old mid new d within releases sets =
    subst (λ ws. Releases ws old new) (sym (take_more us i d within)) (releases_one (take i us) (get_or us i d) old mid new releases sets)

-- no shadow of the list so far, and then not of this object either
pub no_shadow_more : (us : List Uid) (i : ℕ) (mid new : FileMap) (d : Uid) → i < length us → HaveNoShadow (take i us) mid →
    ((w : Uid) → w ≢ get_or us i d → new (slot.Shadow w) ≡ mid (slot.Shadow w))
    → new (slot.Shadow (get_or us i d)) ≡ None → HaveNoShadow (take (i + 1) us) new
no_shadow_more us i mid new d within gone others none = subst (λ ws. HaveNoShadow ws new) (sym (take_more us i d within))
    (λ w among. ⊎_elim (λ (e : w ≡ get_or us i d). subst (λ v. new (slot.Shadow v) ≡ None) (sym e) none)
    (λ (e : (w ≢ get_or us i d) × (is_in (take i us) w ≡ true)). others w e.0 ∙ gone w e.1) (in_or_last (take i us) (get_or us i d) w among))

-- ---- one shadow is moved, or not

-- another object's shadow stays
pub move_others : (mid new : FileMap) (u : Uid) → Same mid new ⊎ MovesShadow mid new u → (w : Uid) → w ≢ u →
    new (slot.Shadow w) ≡ mid (slot.Shadow w)
move_others mid new u moves w other = ⊎_elim (λ (same : Same mid new). same (slot.Shadow w))
    (λ (m : MovesShadow mid new u). m.moved.others (slot.Shadow w) (λ e. other cc) (λ e. cc)) moves

pub moves_none : (us : List Uid) (file : FileMap) → MovesShadows us file file
moves_none us file = record { each = λ u. inl (refl, refl); others = λ q _. refl }

moves_kept : (us : List Uid) (old mid new : FileMap) (w : Uid) → new (slot.Shadow w) ≡ mid (slot.Shadow w) →
    new (slot.Committed w) ≡ mid (slot.Committed w) → IsMovedOrNot us old mid w → IsMovedOrNot us old new w
moves_kept us old mid new w shadow committed = ⊎_elim
    (λ (e : (mid (slot.Shadow w) ≡ old (slot.Shadow w)) × (mid (slot.Committed w) ≡ old (slot.Committed w))). inl (shadow ∙ e.0, committed ∙ e.1))
    (λ (e : (is_in us w ≡ true) × IsSome (old (slot.Shadow w)) × (mid (slot.Shadow w) ≡ None) × (mid (slot.Committed w) ≡ old (slot.Shadow w))). inr (e.0, e.1, shadow ∙ e.2, committed ∙ e.3))

moves_here : (us : List Uid) (old mid new : FileMap) (u : Uid) → is_in us u ≡ true → MovesShadow mid new u → IsMovedOrNot us old mid u →
    IsMovedOrNot us old new u
moves_here us old mid new u among m = ⊎_elim
    (λ (e : (mid (slot.Shadow u) ≡ old (slot.Shadow u)) × (mid (slot.Committed u) ≡ old (slot.Committed u))).
    inr (among, ap is_some (sym e.0) ∙ m.was, m.moved.gone (λ e. cc), m.moved.here ∙ e.0))
    (λ (e : (is_in us u ≡ true) × IsSome (old (slot.Shadow u)) × (mid (slot.Shadow u) ≡ None) × (mid (slot.Committed u) ≡ old (slot.Shadow u))).
    let never : true ≡ false = sym m.was ∙ ap is_some e.2 in cc)

pub moves_more : (us : List Uid) (old mid new : FileMap) (u : Uid) → is_in us u ≡ true → MovesShadows us old mid →
    Same mid new ⊎ MovesShadow mid new u → MovesShadows us old new
moves_more us old mid new u among moves step = record {
  each = λ w. ⊎_elim (λ (same : Same mid new). moves_kept us old mid new w (same (slot.Shadow w)) (same (slot.Committed w)) (moves.each w))
      (λ (m : MovesShadow mid new u). ⊎_elim (λ (e : w ≡ u). subst (λ v. IsMovedOrNot us old new v) (sym e) (moves_here us old mid new u among m (moves.each u)))
      (λ (other : w ≢ u). moves_kept us old mid new w (m.moved.others (slot.Shadow w) (λ e. other cc) (λ e. cc)) (m.moved.others (slot.Committed w) (λ e. cc) (λ e. other cc)) (moves.each w)) (uid_cases w u)) step;
  others = λ q apart. ⊎_elim (λ (same : Same mid new). same q) (λ (m : MovesShadow mid new u). m.moved.others q (apart u).0 (apart u).1) step ∙ moves.others q apart;
}

-- the flag of an object tells its shadow also when another one was moved or removed
pub flags_more : (us : List Uid) (mid new : FileMap) (held held' : Uid → Option Holding) (u : Uid) →
    ((w : Uid) → is_in us w ≡ true → is_some (mid (slot.Shadow w)) ≡ has_shadow (held w)) → Sets held held' u None
    → new (slot.Shadow u) ≡ None → ((w : Uid) → w ≢ u → new (slot.Shadow w) ≡ mid (slot.Shadow w)) → (w : Uid) → is_in us w ≡ true →
    is_some (new (slot.Shadow w)) ≡ has_shadow (held' w)
flags_more us mid new held held' u flags sets none others w among = ⊎_elim
    (λ (e : w ≡ u). subst (λ v. is_some (new (slot.Shadow v)) ≡ has_shadow (held' v)) (sym e) (ap is_some none ∙ sym (ap has_shadow sets.here)))
    (λ (other : w ≢ u). ap is_some (others w other) ∙ flags w among ∙ sym (ap has_shadow (sets.others w other))) (uid_cases w u)

-- an object at a place of the list is in it
pub in_at : (us : List Uid) (i : ℕ) (d : Uid) → i < length us → is_in us (get_or us i d) ≡ true
in_at us i d within = list_any_at (uid_eq (get_or us i d)) us i d within (uid_same (get_or us i d))

-- ---- one shadow is removed, or not

pub remove_others : (mid new : FileMap) (u : Uid) → Same mid new ⊎ Removes mid new (slot.Shadow u) → (w : Uid) → w ≢ u →
    new (slot.Shadow w) ≡ mid (slot.Shadow w)
remove_others mid new u step w other =
    ⊎_elim (λ (same : Same mid new). same (slot.Shadow w)) (λ (r : Removes mid new (slot.Shadow u)). r.others (slot.Shadow w) (λ e. other cc)) step

pub removes_more : (us : List Uid) (old mid new : FileMap) (u : Uid) → is_in us u ≡ true → PutsStates place.Shadow us old mid →
    Same mid new ⊎ Removes mid new (slot.Shadow u) → PutsStates place.Shadow us old new
removes_more us old mid new u among puts step q tmp =
    ⊎_elim (λ (same : Same mid new). subst (λ o. (o ≡ old q) ⊎ ((w : Uid) × (is_in us w ≡ true) × (q ≡ slot.Shadow w) × IfSome o (IsStateOf w))) (sym (same q)) (puts q tmp))
    (λ (r : Removes mid new (slot.Shadow u)). ⊎_elim (λ (e : q ≡ slot.Shadow u). inr (u, among, e, subst (λ o. IfSome o (IsStateOf u)) (sym (ap new e ∙ r.gone)) tt))
    (λ (other : q ≢ slot.Shadow u). subst (λ o. (o ≡ old q) ⊎ ((w : Uid) × (is_in us w ≡ true) × (q ≡ slot.Shadow w) × IfSome o (IsStateOf w))) (sym (r.others q other)) (puts q tmp)) (slot_cases q (slot.Shadow u))) step
