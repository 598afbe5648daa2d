-- What changes no file of a role leaves its files formed, and its pair; and where they are formed, the pair is sound.
use Rattle.std.proofs.Common.{◌≡◌, ◌∙◌, ℕ, List, refl, sym, ap, subst, Option, Some, None}
use Rattle.std.specs.Prelude.{IfSome, option_map}
use Rattle.arj_base.specs.declared.uid.Uid.{Uid}
use Rattle.arj_disk.specs.declared.limits.TheConstants.{MOST_KNOWN}
use Rattle.arj_disk.specs.declared.slot.Role.{Role}
use Rattle.arj_disk.specs.declared.slot.Slot.TheVariants as slot
use Rattle.arj_disk.specs.FileMap.{FileMap}
use Rattle.arj_disk.specs.Formed.{AtMost, IsStateOf}
use Rattle.arj_disk.specs.Says.{SameOfRole, names, new_of, role_of}
use Rattle.arj_segment_file.proofs.Newest.{newest_is}
use Rattle.arj_segment_file.proofs.Read.{of_file}
use Rattle.arj_segment_file.specs.Format.{IsSegment, states_in}
use Rattle.arj_store.specs.Pair.{Pair, IsKnown, IsSound, SamePair}
use Rattle.arj_segment.specs.Formed.{IsFormed}
use Rattle.arj_segment.specs.Says.{pair_of, segments, pend, held, placed, state_at, numbers}

module _ (role : Role) (old new : FileMap) (same : SameOfRole role old new) where
  -- where the files of the role are as before, so are its segments
  pub same_segments : segments new role ≡ segments old role
  same_segments = λ i k. same (slot.Segment role k) refl i

  -- so is what is prepared
  pub same_pend : pend new role ≡ pend old role
  same_pend = λ i a. option_map states_in (same (slot.Pending role a) refl i)

  -- so is the pair
  pub same_pair : pair_of new role ≡ pair_of old role
  same_pair = λ i. record { held = λ u. option_map (λ p. p.1) (placed (same_segments i) u); pend = same_pend i }

  -- and the files are formed where they were
  pub formed_of : IsFormed old role → IsFormed new role
  formed_of formed = record {
    segments = λ k below. subst (λ o. IfSome o (IsSegment role)) (sym (same (slot.Segment role k) refl)) (formed.segments k below);
    pendings = λ a. subst (λ o. IfSome o (IsSegment role)) (sym (same (slot.Pending role a) refl)) (formed.pendings a);
    once = subst (λ (p : Pair). (a b u : Uid) → names (p.pend a) u → names (p.pend b) u → a ≡ b) (sym same_pair) formed.once;
    few = subst (λ (p : Pair). AtMost MOST_KNOWN (IsKnown p)) (sym same_pair) formed.few;
    in_place = (let p = formed.in_place in record {
      old = λ q is own. same q own ∙ p.old q is own;
      low = λ k above. same (slot.Segment role k) refl ∙ p.low k above;
      bare = λ nothing k. same (slot.Segment role k) refl
          ∙ p.bare (λ u. sym (ap (λ (r : Pair). r.held u) same_pair) ∙ nothing u) k;
    });
  }

-- the same, as the store's law
pub files_stay : (role : Role) (old new : FileMap) → SameOfRole role old new → IsFormed old role →
    IsFormed new role × SamePair (pair_of old role) (pair_of new role)
files_stay role old new same formed = (
  formed_of role old new same formed,
  record {
    committed = λ u. ap (λ p. p.held u) (same_pair role old new same);
    prepared =
        λ a. ap (λ p. p.pend a) (same_pair role old new same);
  },
)

module _ (role : Role) (file : FileMap) (formed : IsFormed file role) where
  -- each committed state is of an object of the role, and packs a state of it
  committed_sound : (u : Uid) → IfSome (held file role u) (λ bytes. (role_of u ≡ role) × IsStateOf u bytes)
  committed_sound u = by (placed (segments file role) u) refl
    where
      by : (o : Option (ℕ × List ℕ)) → placed (segments file role) u ≡ o →
          IfSome (option_map (λ p. p.1) o) (λ bytes. (role_of u ≡ role) × IsStateOf u bytes)
      by None is = tt
      by (Some p) is =
          let at = newest_is (state_at (segments file role) u) numbers p is in
          let state = of_file role (file (slot.Segment role p.0)) (formed.segments p.0 at.0) u p.1 at.1 in
          (state.0, state.1)

  -- each new state that an action has prepared is of an object of the role, and packs a state of it
  prepared_sound : (a u : Uid) →
      IfSome (pend file role a) (λ states. IfSome (new_of states u) (λ bytes. (role_of u ≡ role) × IsStateOf u bytes))
  prepared_sound a u = by (file (slot.Pending role a)) (formed.pendings a)
    where
      in_file : (bytes : List ℕ) → IsSegment role bytes → (o : Option (List ℕ)) → new_of (states_in bytes) u ≡ o →
          IfSome o (λ bytes. (role_of u ≡ role) × IsStateOf u bytes)
      in_file bytes is None found = tt
      in_file bytes is (Some x) found = let state = of_file role (Some bytes) is u x found in (state.0, state.1)

      by : (o : Option (List ℕ)) → IfSome o (IsSegment role) →
          IfSome (option_map states_in o) (λ states. IfSome (new_of states u) (λ bytes. (role_of u ≡ role) × IsStateOf u bytes))
      by None is = tt
      by (Some bytes) is = in_file bytes is (new_of (states_in bytes) u) refl

-- the pair that formed files give is sound, as the store's law
pub files_sound : (role : Role) (file : FileMap) → IsFormed file role → IsSound role (pair_of file role)
files_sound role file formed =
    record { committed = committed_sound role file formed; prepared = prepared_sound role file formed; once = formed.once }
