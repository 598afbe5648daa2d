-- Confirmations keep the entry seen.
use Rattle.arj_law_parts.proofs.Words
use Words.{◌≡◌, ◌⊎◌, ℕ, ◌||◌, List, Bool, true, false, Some, None, sym, ◌∙◌, ap, subst, inl, inr, ⊎_elim, or_left, or_right, Uid}
use Words.{ObjectState, entry, Pair, is_prepared, pair_prepared, at_uid, put_uid, uid_number}
use Rattle.arj_law_disk_view.proofs.Terms
use Terms.{Agree, Pass, Enter, changed, entry_hold, State, undecided, target, put_same, put_cases, IsOf, HasNone, AreOne, packed_entry}
use Terms.{SeesEntry}
use Rattle.arj_law_disk.specs.machine.Effects.{marked}
use Rattle.arj_law_disk_view.proofs.view
use view.PairSteps.{prepares, prepares_none}
use view.StoreSteps.{prepared_is, unprepared}
use Rattle.arj_law_disk_view.specs.view.Confirming.{EnteringKeeps, AgreeingKeeps, PassingKeeps, QuietConfirmsKeep, PreparedIsTaken}
use Rattle.arj_law_disk_view.proofs.view.Keys as keys

-- a mark stays, and who is marked while its outcome is open has it
pub marked_stays : (S : State) (t : ℕ) (f : ℕ → Bool) (z : ℕ) → f z ≡ true → marked S t f z ≡ true
marked_stays S t f z h =
    put_cases (λ b. b ≡ true) t (f t || undecided S t) f z (λ same. or_left (f t) (undecided S t) (ap f (sym same) ∙ h)) (λ other. h)

pub marked_now : (S : State) (t : ℕ) (f : ℕ → Bool) → undecided S t ≡ true → marked S t f t ≡ true
marked_now S t f u = put_same t (f t || undecided S t) f ∙ or_right (f t) (undecided S t) u

module _ (x : ℕ) (d : Pair) (S : State) (top : Uid) (states : List ObjectState) (sees : SeesEntry x d S) (new : is_prepared top d ≡ false)
    (begun : S.begun (uid_number top) ≡ true) where
  -- what holds of the new action and of the others holds of all that are prepared then
  each : (Q : Uid → List ObjectState → Type 0) → Q top states → ((b : Uid) (ss : List ObjectState) → at_uid b d.pend ≡ Some ss → Q b ss) →
      (b : Uid) (ss : List ObjectState) → at_uid b (put_uid top states d.pend) ≡ Some ss → Q b ss
  each Q mine others b ss is = ⊎_elim (λ same. subst (λ k. Q k ss) (sym same.0) (subst (λ l. Q top l) same.1 mine))
      (λ other. others b ss other.1) (keys.put_cases b top states ss d.pend is)

  all_begun : (b : Uid) (ss : List ObjectState) → at_uid b (put_uid top states d.pend) ≡ Some ss → S.begun (uid_number b) ≡ true
  all_begun = each (λ b ss. S.begun (uid_number b) ≡ true) begun sees.begun

  abbrev Taken : (ℕ → Bool) → (ℕ → Bool) → Uid → Type 0
  Taken conf light b = undecided S (uid_number b) ≡ true → (conf (uid_number b) ≡ true) ⊎ (light (uid_number b) ≡ true)

  conf_taken : (b : Uid) (ss : List ObjectState) → at_uid b (put_uid top states d.pend) ≡ Some ss →
      Taken (marked S (uid_number top) S.conf) S.light b
  conf_taken = each (λ b ss. Taken (marked S (uid_number top) S.conf) S.light b) (λ u. inl (marked_now S (uid_number top) S.conf u))
      (λ b ss is u. ⊎_elim (λ c. inl (marked_stays S (uid_number top) S.conf (uid_number b) c)) (λ l. inr l) (sees.taken b ss is u))

  light_taken : (b : Uid) (ss : List ObjectState) → at_uid b (put_uid top states d.pend) ≡ Some ss →
      Taken S.conf (marked S (uid_number top) S.light) b
  light_taken = each (λ b ss. Taken S.conf (marked S (uid_number top) S.light) b) (λ u. inr (marked_now S (uid_number top) S.light u))
      (λ b ss is u. ⊎_elim (λ c. inl c) (λ l. inr (marked_stays S (uid_number top) S.light (uid_number b) l)) (sees.taken b ss is u))

  all_aimed : ((st : ObjectState) → IsOf (entry x) states st → (s : ℕ) × (target (S.plan (uid_number top)) s ≡ true)) →
      (b : Uid) (ss : List ObjectState) → at_uid b (put_uid top states d.pend) ≡ Some ss → (st : ObjectState) → IsOf (entry x) ss st →
      (s : ℕ) × (target (S.plan (uid_number b)) s ≡ true)
  all_aimed mine = each (λ b ss. (st : ObjectState) → IsOf (entry x) ss st →
      (s : ℕ) × (target (S.plan (uid_number b)) s ≡ true)) mine (λ b ss is st of. sees.aimed b ss st is of)

  pub enters : (st : ObjectState) (s : ℕ) → S.entry_pend ≡ None → target (S.plan (uid_number top)) s ≡ true → IsOf (entry x) states st →
      AreOne packed_entry (entry x) states (entry_hold S (uid_number top)).new
      → SeesEntry x (pair_prepared top states d) (changed S (Enter (uid_number top)))
  enters st s free on of one = record {
    pair = prepares packed_entry (entry x) d (Some S.entry) S.entry_pend sees.pair top states (entry_hold S (uid_number top)).new
        (unprepared top d new) free st of one;
    begun = all_begun;
    taken = conf_taken;
    aimed = λ b ss r is q. all_aimed (λ r q. (s, on)) b ss is r q;
  }

  pub agrees : HasNone (entry x) states → SeesEntry x (pair_prepared top states d) (changed S (Agree (uid_number top)))
  agrees none = record {
    pair = prepares_none packed_entry (entry x) d (Some S.entry) S.entry_pend sees.pair top states (unprepared top d new) none;
    begun = all_begun;
    taken = conf_taken;
    aimed = λ b ss r is q. all_aimed (λ r q. absurd (none r q)) b ss is r q;
  }

  pub passes : HasNone (entry x) states → SeesEntry x (pair_prepared top states d) (changed S (Pass (uid_number top)))
  passes none = record {
    pair = prepares_none packed_entry (entry x) d (Some S.entry) S.entry_pend sees.pair top states (unprepared top d new) none;
    begun = all_begun;
    taken = light_taken;
    aimed = λ b ss r is q. all_aimed (λ r q. absurd (none r q)) b ss is r q;
  }

pub entering_keeps : EnteringKeeps
entering_keeps x d S top states st s sees new free begun on of one = enters x d S top states sees new begun st s free on of one

pub agreeing_keeps : AgreeingKeeps
agreeing_keeps x d S top states sees new begun none = agrees x d S top states sees new begun none

pub passing_keeps : PassingKeeps
passing_keeps x d S top states sees new begun none = passes x d S top states sees new begun none

pub quiet_confirms_keep : QuietConfirmsKeep
quiet_confirms_keep x d S t sees = (
  record {
    pair = sees.pair;
    begun = sees.begun;
    taken = λ b ss is u. ⊎_elim (λ c. inl (marked_stays S t S.conf (uid_number b) c)) (λ l. inr l) (sees.taken b ss is u);
    aimed = sees.aimed;
  },
  record {
    pair = sees.pair;
    begun = sees.begun;
    taken = λ b ss is u. ⊎_elim (λ c. inl c) (λ l. inr (marked_stays S t S.light (uid_number b) l)) (sees.taken b ss is u);
    aimed = sees.aimed;
  },
)

pub prepared_is_taken : PreparedIsTaken
prepared_is_taken x d W top sees is asked = let q = prepared_is top d is in (asked, sees.taken top q.0 q.1)
