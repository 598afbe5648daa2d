-- Why a state is refused, by the pair.
use Rattle.std.proofs.Common.{◌≡◌, ◌≢◌, ◌⊎◌, ◌∙◌, true, false, List, [], ◌∷◌, ℕ, zero, suc, ◌<◌, take, get_or, length, arith, refl, sym, ap}
use Rattle.std.proofs.Common.{subst, inl, inr, Option, Some, None}
use Rattle.std.specs.Prelude.{is_some, option_map, IfSome, MatchOption}
use Rattle.std.specs.List.{AllByRecursion}
use Rattle.arj_base.proofs.Packed.{state_once}
use Rattle.arj_base.specs.State.{state_bytes}
use Rattle.arj_base.specs.declared.state.ObjectState.{ObjectState}
use Rattle.arj_base.specs.declared.uid.Uid.{Uid}
use Rattle.arj_disk.specs.Formed.{IsStateOf}
use Rattle.arj_disk.specs.Says.{names, role_of}
use Rattle.arj_disk.specs.declared.slot.Role.{Role}
use Rattle.arj_store.specs.Pair.{FollowsHeld, IsClear, IsHeld, IsRefused, IsSound, IsWrittenBy, MayFollow, Packs, Pair, Refuses}
use Rattle.arj_store.specs.Shadow.{HeldRefuses}
use Rattle.arj_store.specs.declared.answer.Prep.{Prep}
use Rattle.arj_store.specs.declared.answer.Prep.TheVariants as prep

module _ (role : Role) (p : Pair) (sound : IsSound role p) where
  -- the committed state that was read
  pub read_some : (u : Uid) (s : ObjectState) → Packs (p.held u) (Some s) → IsHeld p u s
  read_some u s packs = by (p.held u) refl (sound.committed u) packs
    where
      by : (o : Option (List ℕ)) → p.held u ≡ o → IfSome o (λ bytes. (role_of u ≡ role) × IsStateOf u bytes) → Packs o (Some s) →
          IsHeld p u s
      by None none is never = let no : Some s ≡ None = never in absurd cc
      by (Some bytes) found is same =
          let one : s ≡ is.1.0 = state_once s is.1.0 same.0 is.1.1 (sym same.1 ∙ is.1.3) in
          record { bytes = found ∙ ap Some same.1; in_form = same.0; own = ap (λ r. r.uid) one ∙ is.1.2 }

  -- none was read
  pub read_none : (u : Uid) → Packs (p.held u) None → p.held u ≡ None
  read_none u packs = by (p.held u) (sound.committed u) packs
    where
      by : (o : Option (List ℕ)) → IfSome o (λ bytes. (role_of u ≡ role) × IsStateOf u bytes) → Packs o None → o ≡ None
      by None is none = refl
      by (Some bytes) is none = absurd (none is.1.0 is.1.1 is.1.3)

module _ (p : Pair) (act : Uid) (s : ObjectState) where
  -- the answer where the state may follow the committed one: by who has prepared the object
  pub by_holder : (h : Option Uid) → MatchOption h ((a : Uid) → names (p.pend a) s.uid → ⊥) (λ a. names (p.pend a) s.uid) →
      FollowsHeld p act s → MatchOption (option_map (λ a. prep.InDoubt s.uid a) h) (IsClear p act s) (Refuses p act s)
  by_holder None free follows = record { follows = follows; free = λ doubt. free doubt.0 doubt.1 }
  by_holder (Some a) named follows = (refl, follows, named)

  -- nothing is committed
  pub follows_none : p.held s.uid ≡ None → FollowsHeld p act s
  follows_none none t is = let never : None ≡ Some (state_bytes t) = sym none ∙ is.bytes in absurd cc

  module _ (t : ObjectState) (is : IsHeld p s.uid t) where
    only : (r : ObjectState) → IsHeld p s.uid r → r ≡ t
    only r other = state_once r t other.in_form is.in_form (one (state_bytes r) (state_bytes t) (sym other.bytes ∙ is.bytes))
      where
        one : (x y : List ℕ) → Some x ≡ Some y → x ≡ y
        one x y e = cc

    pub follows_held : MayFollow act s t → FollowsHeld p act s
    follows_held may r other = subst (λ r. MayFollow act s r) (sym (only r other)) may

    unwritten : t.writer ≢ act → IsWrittenBy p act s.uid → ⊥
    unwritten apart written = apart (ap (λ r. r.writer) (sym (only written.0 written.1)) ∙ written.2)

    -- the refusal by the committed state is that of the state
    pub by_held : (refusal : Prep) → HeldRefuses act s t (Some refusal) → Refuses p act s refusal
    by_held prep.Prepared h = h
    by_held (prep.Already uid by) h = (h.0, h.1, (t, is, h.2))
    by_held (prep.Old uid v) h =
        (h.0, unwritten h.1, (t, is, sym h.2, subst (λ n. (s.version < n) ⊎ ((s.version ≡ n) × (state_bytes s ≢ state_bytes t))) (sym h.2) h.3))
    by_held (prep.InDoubt uid holder) h = absurd h

-- the refusal of the first state after clear ones
refused_at : (p : Pair) (act : Uid) (states : List ObjectState) (i : ℕ) (d : ObjectState) (refusal : Prep) → i < length states →
    AllByRecursion (IsClear p act) (take i states) → Refuses p act (get_or states i d) refusal → IsRefused p act states refusal
refused_at p act [] i d refusal within clear one = let never : ⊥ = omega arith in absurd never
refused_at p act (s ∷ ss) zero d refusal within clear one = inl one
refused_at p act (s ∷ ss) (suc i) d refusal within clear one = inr (clear.0, refused_at p act ss i d refusal (omega arith) clear.1 one)

-- the loop's exit with the refusal of the state at a place
pub refused_first : (p : Pair) (act : Uid) (states : List ObjectState) (i : ℕ) (s : ObjectState) (refusal : Option Prep) →
    i < length states → s ≡ get_or states i s → AllByRecursion (IsClear p act) (take i states)
    → MatchOption refusal (IsClear p act s) (Refuses p act s) → is_some refusal ≡ true →
    MatchOption refusal (AllByRecursion (IsClear p act) states) (IsRefused p act states)
refused_first p act states i s None within is clear answer some = let never : false ≡ true = some in absurd cc
refused_first p act states i s (Some refusal) within is clear answer some =
    refused_at p act states i s refusal within clear (subst (λ r. Refuses p act r refusal) is answer)
