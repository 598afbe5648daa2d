-- Why a state is refused, by the committed state and by who has prepared the object.
use Rattle.std.proofs.Common.{◌≡◌, ◌≢◌, ◌⊎◌, ◌∙◌, true, false, List, [], ◌∷◌, ℕ, zero, suc, ◌<◌, take, get_or, length, arith, refl, sym, ap}
use Rattle.std.proofs.Common.{subst, inl, inr, ⊎_elim, Option, Some, None}
use Rattle.std.specs.Prelude.{is_some, option_map, MatchOption}
use Rattle.std.specs.List.{AllByRecursion}
use Rattle.arj_base.specs.State.{state_bytes, StateInForm}
use Rattle.arj_base.specs.declared.state.ObjectState.{ObjectState}
use Rattle.arj_base.specs.declared.uid.Uid.{Uid}
use Rattle.arj_disk.specs.declared.slot.Role.{Role}
use Rattle.arj_disk.specs.declared.slot.Slot.TheVariants as slot
use Rattle.arj_disk.specs.FileMap.{FileMap}
use Rattle.arj_disk.specs.Says.{role_of, names}
use Rattle.arj_store.specs.Says.{pend, InDoubt}
use Rattle.arj_store.specs.declared.answer.Prep.{Prep}
use Rattle.arj_store.specs.declared.answer.Prep.TheVariants as prep
use Rattle.arj_store.specs.declared.memory.Holding.{Holding}
use Rattle.arj_store.specs.declared.prepare.Place.TheVariants as place
use Rattle.arj_store.specs.OfFiles.{IsHeld, IsWrittenBy, FollowsHeld, Refuses, IsClear, IsRefused}
use Rattle.arj_store.specs.Pair as pair
use Rattle.arj_store.specs.Pair.{Pair, MayFollow, IsNoOlder, AreClear}
use Rattle.arj_store.specs.Recovery.{IsStateAt}
use Rattle.arj_store.specs.Shadow.{HeldRefuses}
use Rattle.arj_store.specs.Named.{held_own}
use Rattle.arj_store.proofs.Readings.{is_held}

-- the answer where the state may follow the committed one: by who has prepared the object
pub by_holder : (file : FileMap) (role : Role) (act : Uid) (s : ObjectState) (h : Option Holding) →
    MatchOption h (InDoubt file role s.uid → ⊥) (λ h. names (pend file role h.act) s.uid) → FollowsHeld file role act s
    → MatchOption (option_map (λ h. prep.InDoubt s.uid h.act) h) (IsClear file role act s) (Refuses file role act s)
by_holder file role act s None free follows = record { follows = follows; free = free }
by_holder file role act s (Some h) named follows = (refl, follows, named)

module _ (file : FileMap) (role : Role) (act : Uid) (s : ObjectState) (own : role_of s.uid ≡ role) where
  -- nothing is committed
  pub follows_none : file (slot.Committed s.uid) ≡ None → FollowsHeld file role act s
  follows_none none t is = let never : None ≡ Some (state_bytes t) = sym none ∙ sym (held_own file role s.uid own) ∙ is.bytes in cc

  module _ (t : ObjectState) (at : IsStateAt place.Committed file s.uid t) (only : (r : ObjectState) → StateInForm r →
      file (slot.Committed s.uid) ≡ Some (state_bytes r) → r ≡ t) where
    pub held_is : IsHeld file role s.uid t
    held_is = is_held file role s.uid t own at

    pub held_only : (r : ObjectState) → IsHeld file role s.uid r → r ≡ t
    held_only r is = only r is.in_form (sym (held_own file role s.uid own) ∙ is.bytes)

    unwritten : t.writer ≢ act → IsWrittenBy file role act s.uid → ⊥
    unwritten other is = other (ap (λ r. r.writer) (sym (held_only is.0 is.1)) ∙ is.2)

    pub follows_held : MayFollow act s t → FollowsHeld file role act s
    follows_held may r is = subst (λ r. MayFollow act s r) (sym (held_only r is)) may

    -- the refusal by the committed state is that of the state
    pub by_held : (refusal : Prep) → HeldRefuses act s t (Some refusal) → Refuses file role act s refusal
    by_held prep.Prepared is = is
    by_held (prep.Already uid by) is = (is.0, is.1, (t, held_is, is.2))
    by_held (prep.Old uid v) is =
        (is.0, unwritten is.1, (t, held_is, sym is.2, subst (λ n. (s.version < n) ⊎ ((s.version ≡ n) × (state_bytes s ≢ state_bytes t))) (sym is.2) is.3))
    by_held (prep.InDoubt uid holder) is = absurd is

-- the refusal of the first state after clear ones
pub refused_at : (file : FileMap) (role : Role) (act : Uid) (states : List ObjectState) (i : ℕ) (d : ObjectState) (refusal : Prep) →
    i < length states → AllByRecursion (IsClear file role act) (take i states)
    → Refuses file role act (get_or states i d) refusal → IsRefused file role act states refusal
refused_at file role act [] i d refusal within clear one = let never : ⊥ = omega arith in absurd never
refused_at file role act (s ∷ ss) zero d refusal within clear one = inl one
refused_at file role act (s ∷ ss) (suc i) d refusal within clear one =
    inr (clear.0, refused_at file role act ss i d refusal (omega arith) clear.1 one)

-- the loop's exit with the refusal of the state at a place
pub refused_first : (old now : FileMap) (role : Role) (act : Uid) (states : List ObjectState) (i : ℕ) (s : ObjectState) (refusal : Option Prep) → i < length states → s ≡ get_or states i s → now ≡ old
    → AllByRecursion (IsClear old role act) (take i states) → MatchOption refusal (IsClear now role act s) (Refuses now role act s) →
    is_some refusal ≡ true
    → MatchOption refusal (AllByRecursion (IsClear old role act) states) (IsRefused old role act states)
refused_first old now role act states i s None within is same clear answer some = let never : false ≡ true = some in cc
refused_first old now role act states i s (Some refusal) within is same clear answer some =
    refused_at old role act states i s refusal within clear (subst (λ r. Refuses old role act r refusal) is (subst (λ file. Refuses file role act s refusal) same answer))

-- what is clear isn't refused
clear_one : (p : Pair) (act : Uid) (s : ObjectState) (answer : Prep) → pair.IsClear p act s → pair.Refuses p act s answer → ⊥
clear_one p act s prep.Prepared clear is = is
clear_one p act s (prep.Already uid by) clear is = (clear.follows is.2.0 is.2.1).0 is.2.2
clear_one p act s (prep.InDoubt uid holder) clear is = clear.free (holder, is.2)
clear_one p act s (prep.Old uid v) clear is = by is.2.0 is.2.2 is.2.3 (clear.follows is.2.0 is.2.1).1
  where
    by : (t : ObjectState) → t.version ≡ v → (s.version < v) ⊎ ((s.version ≡ v) × (state_bytes s ≢ state_bytes t)) → IsNoOlder s t → ⊥
    by t at (inl below) (inl above) = omega (arith, at, below, above)
    by t at (inl below) (inr same) = let level = same.0 in omega (arith, at, below, level)
    by t at (inr other) (inl above) = let level = other.0 in omega (arith, at, level, above)
    by t at (inr other) (inr same) = other.1 (sym same.1)

pub clear_all : (p : Pair) (act : Uid) (states : List ObjectState) (answer : Prep) → AreClear p act states →
    pair.IsRefused p act states answer → ⊥
clear_all p act [] answer clear is = is
clear_all p act (s ∷ ss) answer clear is =
    ⊎_elim (λ (h : pair.Refuses p act s answer). clear_one p act s answer clear.0 h) (λ (h : pair.IsClear p act s × pair.IsRefused p act ss answer). clear_all p act ss answer clear.1 h.1) is
