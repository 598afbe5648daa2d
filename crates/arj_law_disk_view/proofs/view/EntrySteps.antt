-- Ends of prepared entries in the machine's terms.
use Rattle.arj_law_parts.proofs.Words
use Words.{◌≡◌, ◌⊎◌, ℕ, List, [], ◌∷◌, Bool, true, false, Some, refl, sym, ◌∙◌, ap, subst, inl, inr, ⊎_elim, Uid, ObjectState, entry, Pair}
use Words.{is_prepared, pair_committed, pair_aborted, pair_in_part, at_uid, uid_number, without_uid}
use Rattle.arj_law_disk_view.proofs.Terms
use Terms.{Bare, World, run, after, State, Hold, naming, undecided, target, In, bool_cases, never, SeesPair, HasNone, packed_entry}
use Terms.{SeesStore, ClaimsCommit, SeesEntry, EntryGoes}
use Terms.mail
use Rattle.arj_law_disk.specs.machine.Effects.{MoveEntry, FinishEntry, DropEntry, Forget}
use Rattle.arj_law_disk_view.proofs.view
use view.{StoreSteps.prepared_is}
use view.PairSteps.{aborts_own, aborts_other, commits_own, commits_other, parts_own, parts_other, other_states, whose}
use Rattle.arj_law_disk_view.specs.view.Entries.{EntriesCommit, EntriesStopInPart, EntriesAbort, EntriesForget, StoresStayByEntry}
use Rattle.arj_law_disk_view.specs.view.Entries.{EntryStaysByStore}
use Rattle.arj_law_disk_view.proofs.view.Keys as keys

module _ (x : ℕ) (d : Pair) (W : World) (sees : SeesEntry x d W.disk) where
  abbrev Whose : Uid → Type 0
  Whose a = ((h : Hold) × (W.disk.entry_pend ≡ Some h) × (h.top ≡ uid_number a))
      ⊎ ((h : Hold) → W.disk.entry_pend ≡ Some h → h.top ≡ uid_number a → ⊥)

  whose_entry : (a : Uid) → Whose a
  whose_entry a = whose packed_entry (entry x) d (Some W.disk.entry) W.disk.entry_pend sees.pair a

  -- nothing is done
  rests : (c : Pair) → SeesEntry x c W.disk → EntryGoes x c W
  rests c seen = record { effects = []; allowed = tt; plain = tt; there = seen; only = record { rest = refl; sent = refl } }

  -- what is left prepared is as it was
  left : (a : Uid) (c : Pair) (V : State) → c.pend ≡ without_uid a d.pend → V.begun ≡ W.disk.begun → V.plan ≡ W.disk.plan →
      ((t : ℕ) → undecided V t ≡ undecided W.disk t) → V.conf ≡ W.disk.conf → V.light ≡ W.disk.light
      → SeesPair packed_entry (entry x) c (Some V.entry) V.entry_pend → SeesEntry x c V
  left a c V pend begun plans undone conf light pair = record {
    pair = pair;
    begun = λ b ss is. ap (λ f. f (uid_number b)) begun ∙ sees.begun b ss (was b ss is);
    taken = λ b ss is u. ⊎_elim (λ i. inl (ap (λ f. f (uid_number b)) conf ∙ i)) (λ i. inr (ap (λ f. f (uid_number b)) light ∙ i))
        (sees.taken b ss (was b ss is) (sym (undone (uid_number b)) ∙ u));
    aimed = λ b ss st is of. let s = sees.aimed b ss st (was b ss is) of in (s.0, ap (λ f. target (f (uid_number b)) s.0) plans ∙ s.1);
  }
    where
      was : (b : Uid) (ss : List ObjectState) → at_uid b c.pend ≡ Some ss → at_uid b d.pend ≡ Some ss
      was b ss is = (keys.without_cases b a ss d.pend sees.pair.sorted (ap (λ m. at_uid b m) (sym pend) ∙ is)).1

  -- the holder of the entry sent a state of the object to a store
  own_aim : (a : Uid) (h : Hold) → W.disk.entry_pend ≡ Some h → h.top ≡ uid_number a →
      (s : ℕ) × (target (W.disk.plan (uid_number a)) s ≡ true)
  own_aim a h there own =
      let f = sees.pair.holder h there in
      let s = sees.aimed f.action f.states f.state f.prepared f.of in
      (s.0, subst (λ k. target (W.disk.plan k) s.0 ≡ true) (ap (λ (g : Hold). g.top) f.is ∙ own) s.1)

  never_bare : (a : Uid) (h : Hold) → W.disk.entry_pend ≡ Some h → h.top ≡ uid_number a → Bare W.disk → W.disk.bare (uid_number a) ≡ true →
      ⊥
  never_bare a h there own bare untouched = let s = own_aim a h there own in never s.1 (bare.untouched (uid_number a) untouched s.0)

  pub commit : (a : Uid) → Bare W.disk → ClaimsCommit W a naming → is_prepared a d ≡ true → EntryGoes x (pair_committed a d) W
  commit a bare claims is = by (whose_entry a) claims
    where
      q : (states : List ObjectState) × (at_uid a d.pend ≡ Some states)
      q = prepared_is a d is

      by : Whose a → ClaimsCommit W a naming → EntryGoes x (pair_committed a d) W
      by (inr other) claims = rests (pair_committed a d) (left a (pair_committed a d) W.disk refl refl refl (λ t. refl) refl refl
          (commits_other packed_entry (entry x) d (Some W.disk.entry) W.disk.entry_pend sees.pair a q.0 q.1 other))
      by (inl f) (inr untouched) = absurd (never_bare a f.0 f.1 f.2 bare untouched)
      by (inl f) (inl told) =
          let h : Hold = f.0 in
          let mine : In (mail.ToldCommit h.top naming) W.sent = subst (λ k. In (mail.ToldCommit k naming) W.sent) (sym f.2) told in
          record {
            effects = MoveEntry h ∷ FinishEntry h ∷ [];
            plain = (refl, (refl, tt));
            allowed = ((f.1, mine), ((f.1, mine, refl), tt));
            there = left a (pair_committed a d) (run W (MoveEntry h ∷ FinishEntry h ∷ [])).disk refl refl refl (λ t. refl) refl refl
                (commits_own packed_entry (entry x) d (Some W.disk.entry) W.disk.entry_pend sees.pair a q.0 h q.1 f.1 f.2);
            only = record { rest = refl; sent = refl };
          }

  pub stop_in_part : (a : Uid) (which : Uid → Bool) → Bare W.disk → ClaimsCommit W a naming → is_prepared a d ≡ true →
      EntryGoes x (pair_in_part which a d) W
  stop_in_part a which bare claims is = by (whose_entry a) claims (bool_cases (which (entry x)))
    where
      q : (states : List ObjectState) × (at_uid a d.pend ≡ Some states)
      q = prepared_is a d is

      same : (V : State) → V.begun ≡ W.disk.begun → V.plan ≡ W.disk.plan → ((t : ℕ) → undecided V t ≡ undecided W.disk t) →
          V.conf ≡ W.disk.conf → V.light ≡ W.disk.light
          → SeesPair packed_entry (entry x) (pair_in_part which a d) (Some V.entry) V.entry_pend → SeesEntry x (pair_in_part which a d) V
      same V begun plans undone conf light pair = record {
        pair = pair;
        begun = λ b ss at. ap (λ f. f (uid_number b)) begun ∙ sees.begun b ss at;
        taken = λ b ss at u. ⊎_elim (λ i. inl (ap (λ f. f (uid_number b)) conf ∙ i)) (λ i. inr (ap (λ f. f (uid_number b)) light ∙ i))
            (sees.taken b ss at (sym (undone (uid_number b)) ∙ u));
        aimed = λ b ss st at of. let s = sees.aimed b ss st at of in (s.0, ap (λ f. target (f (uid_number b)) s.0) plans ∙ s.1);
      }

      unmoved : HasNone (entry x) q.0 ⊎ (which (entry x) ≡ false) → EntryGoes x (pair_in_part which a d) W
      unmoved none = rests (pair_in_part which a d) (same W.disk refl refl (λ t. refl) refl refl
          (parts_other packed_entry (entry x) d (Some W.disk.entry) W.disk.entry_pend sees.pair which a q.0 q.1 none))

      by : Whose a → ClaimsCommit W a naming → (which (entry x) ≡ true) ⊎ (which (entry x) ≡ false) → EntryGoes x (pair_in_part which a d) W
      by (inr other) claims passes =
          unmoved (inl (other_states packed_entry (entry x) d (Some W.disk.entry) W.disk.entry_pend sees.pair a q.0 q.1 other))
      by (inl f) claims (inr stays_here) = unmoved (inr stays_here)
      by (inl f) (inr untouched) (inl passes) = absurd (never_bare a f.0 f.1 f.2 bare untouched)
      by (inl f) (inl told) (inl passes) =
          let h : Hold = f.0 in
          record {
            effects = MoveEntry h ∷ [];
            plain = (refl, tt);
            allowed = ((f.1, subst (λ k. In (mail.ToldCommit k naming) W.sent) (sym f.2) told), tt);
            there = same (after W (MoveEntry h)).disk refl refl (λ t. refl) refl refl
                (parts_own packed_entry (entry x) d (Some W.disk.entry) W.disk.entry_pend sees.pair which a q.0 h q.1 f.1 f.2 passes);
            only = record { rest = refl; sent = refl };
          }

  pub abort : (a : Uid) → In (mail.ToldAbort (uid_number a) naming) W.sent → EntryGoes x (pair_aborted a d) W
  abort a told = by (whose_entry a)
    where
      by : Whose a → EntryGoes x (pair_aborted a d) W
      by (inr other) = rests (pair_aborted a d) (left a (pair_aborted a d) W.disk refl refl refl (λ t. refl) refl refl
          (aborts_other packed_entry (entry x) d (Some W.disk.entry) W.disk.entry_pend sees.pair a other))
      by (inl f) = record {
        effects = DropEntry f.0 ∷ [];
        plain = (refl, tt);
        allowed = ((f.1, subst (λ k. In (mail.ToldAbort k naming) W.sent) (sym f.2) told), tt);
        there = left a (pair_aborted a d) (after W (DropEntry f.0)).disk refl refl refl (λ t. refl) refl refl
            (aborts_own packed_entry (entry x) d (Some W.disk.entry) W.disk.entry_pend sees.pair a f.0 f.1 f.2);
        only = record { rest = refl; sent = refl };
      }

  pub forget : (a : Uid) (r : ℕ) → In (mail.ToldSerial r naming) W.sent → W.disk.root (uid_number a) ≡ r → EntryGoes x (pair_aborted a d) W
  forget a r told of_root = by (whose_entry a)
    where
      by : Whose a → EntryGoes x (pair_aborted a d) W
      by (inr other) = rests (pair_aborted a d) (left a (pair_aborted a d) W.disk refl refl refl (λ t. refl) refl refl
          (aborts_other packed_entry (entry x) d (Some W.disk.entry) W.disk.entry_pend sees.pair a other))
      by (inl f) = record {
        effects = Forget r f.0 ∷ [];
        plain = (refl, tt);
        allowed = ((f.1, told, ap (λ k. W.disk.root k) f.2 ∙ of_root), tt);
        there = left a (pair_aborted a d) (after W (Forget r f.0)).disk refl refl refl (λ t. refl) refl refl
            (aborts_own packed_entry (entry x) d (Some W.disk.entry) W.disk.entry_pend sees.pair a f.0 f.1 f.2);
        only = record { rest = refl; sent = refl };
      }

-- ---- as laws

pub entries_commit : EntriesCommit
entries_commit x d W a bare sees claims is = commit x d W sees a bare claims is

pub entries_stop_in_part : EntriesStopInPart
entries_stop_in_part x d W a which bare sees claims is = stop_in_part x d W sees a which bare claims is

pub entries_abort : EntriesAbort
entries_abort x d W a sees told is = abort x d W sees a told

pub entries_forget : EntriesForget
entries_forget x d W a r sees told of_root = forget x d W sees a r told of_root

-- other places under the work of one
pub stores_by_entry : StoresStayByEntry
stores_by_entry x s d W V only sees = subst (λ (S : State). SeesStore x s d S) (sym only.rest) (record {
  pair = sees.pair;
  planned = λ a ss is. let p = sees.planned a ss is in record { begun = p.begun; named = p.named; there = p.there };
})

pub entry_by_store : EntryStaysByStore
entry_by_store x s d W V only sees = subst (λ (S : State). SeesEntry x d S) (sym only.rest)
    (record { pair = sees.pair; begun = sees.begun; taken = sees.taken; aimed = sees.aimed })
