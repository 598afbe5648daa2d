-- What a store is asked of an object, and of an action, is what the protocol's pair has of it.
use Rattle.arj_law_store.proofs.Terms
use Terms.{◌≡◌, ◌∙◌, Bool, true, false, List, refl, sym, ap, subst, Option, Some, None, IfSome, IsSome, MatchOption, is_some, option_map}
use Terms.{state_bytes, StateInForm, ObjectState, Uid, state_once, names, Pair, held_at, holder_of, at_uid, packed, IsPairOf}
use Terms.files
use Rattle.arj_law_store.proofs.store.Refused.{all_there, holder_is, no_holder}
use Rattle.arj_law_store.specs.store.Reads.{ReadsAs, state_of}
use Rattle.arj_protocol.specs.Effect.{is_prepared}
use Rattle.arj_store.specs.declared.answer.Read.{Read}
use Rattle.std.specs.Prelude.{◌↔◌}
use Rattle.arj_store.specs.declared.answer.Read.TheVariants as read

module _ (p : files.Pair) (d : Pair) (are : IsPairOf p d) where
  pub prepared_as : (act : Uid) (b : Bool) → (b ≡ true) ↔ IsSome (p.pend act) → is_prepared act d ≡ b
  prepared_as act b is = by b (at_uid act d.pend) (subst (λ o. (b ≡ true) ↔ IsSome o) (are.pend act) is)
    where
      by : (b : Bool) (o : Option (List ObjectState)) → (b ≡ true) ↔ IsSome (option_map packed o) → is_some o ≡ b
      by true None is = absurd (cc (is.0 refl))
      by true (Some states) is = refl
      by false None is = refl
      by false (Some states) is = sym (is.1 refl)

  -- the committed state, where it is known to be in form
  state_at : (u : Uid) (s : ObjectState) → IfSome (held_at u d) StateInForm → files.IsHeld p u s → held_at u d ≡ Some s
  state_at u s form held = by (held_at u d) refl form
    where
      by : (o : Option ObjectState) → held_at u d ≡ o → IfSome o StateInForm → held_at u d ≡ Some s
      by None at is = absurd (cc (sym (are.held u ∙ ap (option_map state_bytes) at) ∙ held.bytes))
      by (Some t) at is =
          let bytes : Some (state_bytes t) ≡ Some (state_bytes s) = sym (are.held u ∙ ap (option_map state_bytes) at) ∙ held.bytes in
          at ∙ ap Some (state_once t s is held.in_form (cc bytes))

  absent_at : (u : Uid) → p.held u ≡ None → held_at u d ≡ None
  absent_at u none = by (held_at u d) refl
    where
      by : (o : Option ObjectState) → held_at u d ≡ o → held_at u d ≡ None
      by None at = at
      by (Some t) at = absurd (cc (sym (are.held u ∙ ap (option_map state_bytes) at) ∙ none))

  -- where no two actions have prepared one object
  module _ (once : (a b u : Uid) → names (p.pend a) u → names (p.pend b) u → a ≡ b) where
    pub holder_as : (u : Uid) (o : Option Uid) → MatchOption o (files.InDoubt p u → ⊥) (λ act. names (p.pend act) u) → holder_of u d ≡ o
    holder_as u None free = no_holder p u d.pend (all_there p d are) free
    holder_as u (Some act) has = holder_is p d u act are (λ a b. once a b u) has

    pub reads : (u : Uid) (a : Read) → IfSome (held_at u d) StateInForm → files.Reads p u a → ReadsAs d u a
    reads u (read.InDoubt holder) form has = holder_is p d u holder are (λ a b. once a b u) has
    reads u (read.State s) form is = (no_holder p u d.pend (all_there p d are) is.0, state_at u s form is.1)
    reads u read.Absent form is = (no_holder p u d.pend (all_there p d are) is.0, absent_at u is.1)

-- of an object that isn't in doubt the committed state was read
pub read_is : (d : Pair) (u : Uid) (a : Read) → holder_of u d ≡ None → ReadsAs d u a → held_at u d ≡ state_of a
read_is d u (read.State s) free reads = reads.1
read_is d u (read.InDoubt holder) free reads = absurd (cc (sym free ∙ reads))
read_is d u read.Absent free reads = reads.1
