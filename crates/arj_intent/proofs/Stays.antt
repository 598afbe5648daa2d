-- What a change of one record leaves in form, and as it is.
use Rattle.std.proofs.Common.{◌≡◌, ◌⊎◌, ◌∙◌, List, ℕ, refl, sym, ap, subst, ⊎_elim, Some, None}
use Rattle.std.specs.Prelude.{◌≢◌, IfSome}
use Rattle.std.specs.declared.cmp.Ordering.{Ordering}
use Rattle.std.specs.declared.cmp.Ordering.TheVariants.{Less, Equal, Greater}
use Rattle.arj_base.specs.Order.{uid_order}
use Rattle.arj_base.specs.declared.uid.Uid.{Uid}
use Rattle.arj_disk.specs.Disk.{PutsOrNot, Removes, Same}
use Rattle.arj_disk.specs.FileMap.{FileMap}
use Rattle.arj_disk.specs.Formed.{IsIntentOf}
use Rattle.arj_disk.specs.Says.{slot_role, SameOfRole}
use Rattle.arj_disk.specs.declared.slot.Role.{Role}
use Rattle.arj_disk.specs.declared.slot.Slot.{Slot}
use Rattle.arj_disk.specs.declared.slot.Slot.TheVariants as slot
use Rattle.arj_intent.specs.Records.{AreInForm}
use Rattle.arj_intent.proofs.Entries.{order_exact, order_itself}

-- each file but the record of this top, and Tmp, is as before
abbrev pub OnlyRecord : Uid → FileMap → FileMap → Type 0
OnlyRecord top old new = (q : Slot) → q ≢ slot.Intent top → q ≢ slot.Tmp → new q ≡ old q

module _ (top : Uid) (old new : FileMap) (others : OnlyRecord top old new) where
  -- no file of a role is a record, or Tmp
  roles_stay : (r : Role) → SameOfRole r old new
  roles_stay r q is =
      others q (λ e. let never : None ≡ Some r = sym (ap slot_role e) ∙ is in absurd (cc never)) (λ e. let never : None ≡ Some r =
      sym (ap slot_role e) ∙ is in absurd (cc never))

  -- the record of another top
  pub other_record : (u : Uid) (o : Ordering) → uid_order u top ≡ o → (o ≡ Equal → ⊥) → new (slot.Intent u) ≡ old (slot.Intent u)
  other_record u o is unequal =
      others (slot.Intent u) (λ (e : slot.Intent u ≡ slot.Intent top). apart e) (λ (e : slot.Intent u ≡ slot.Tmp). cc)
    where
      apart : slot.Intent u ≡ slot.Intent top → ⊥
      apart e = let same : u ≡ top = cc in unequal (sym is ∙ ap (λ w. uid_order w top) same ∙ order_itself top)

  -- what holds of the record of this top
  abbrev Here : Type 0
  Here = IfSome (old (slot.Intent top)) (IsIntentOf top) → IfSome (new (slot.Intent top)) (IsIntentOf top)

  pub stays_in_form : Here → AreInForm old → AreInForm new
  stays_in_form here form u = by (uid_order u top) refl
    where
      by : (o : Ordering) → uid_order u top ≡ o → IfSome (new (slot.Intent u)) (IsIntentOf u)
      by Less is = subst (λ o. IfSome o (IsIntentOf u)) (sym (other_record u Less is (λ (e : Less ≡ Equal). cc))) (form u)
      by Greater is = subst (λ o. IfSome o (IsIntentOf u)) (sym (other_record u Greater is (λ (e : Greater ≡ Equal). cc))) (form u)
      by Equal is = subst (λ w. IfSome (new (slot.Intent w)) (IsIntentOf w)) (sym (order_exact u top is)) (here (form top))

-- the records stay in form, and the files of the roles as they are
pub record Stays (old new : FileMap) : Type 0 where
  pub form : AreInForm old → AreInForm new
  pub roles : (r : Role) → SameOfRole r old new

stays : (top : Uid) (old new : FileMap) → OnlyRecord top old new →
    (IfSome (old (slot.Intent top)) (IsIntentOf top) → IfSome (new (slot.Intent top)) (IsIntentOf top)) → Stays old new
stays top old new others here = record { form = stays_in_form top old new others here; roles = roles_stay top old new others }

-- a removal, done or not
pub removed_stays : (old new : FileMap) (top : Uid) → Same old new ⊎ Removes old new (slot.Intent top) → Stays old new
removed_stays old new top = ⊎_elim
    (λ (same : Same old new). stays top old new (λ q _ _. same q) (subst (λ o. IfSome o (IsIntentOf top)) (sym (same (slot.Intent top)))))
    (λ (gone : Removes old new (slot.Intent top)). stays top old new (λ q other _. gone.others q other) (λ _. subst (λ o. IfSome o (IsIntentOf top)) (sym gone.gone) tt))

-- a put, done or not
pub put_stays : (old new : FileMap) (top : Uid) (bytes : List ℕ) → IsIntentOf top bytes → PutsOrNot old new (slot.Intent top) bytes →
    Stays old new
put_stays old new top bytes form puts = stays top old new puts.others (λ before. ⊎_elim
    (λ (same : new (slot.Intent top) ≡ old (slot.Intent top)). subst (λ o. IfSome o (IsIntentOf top)) (sym same) before)
    (λ (here : new (slot.Intent top) ≡ Some bytes). subst (λ o. IfSome o (IsIntentOf top)) (sym here) form) puts.here)
