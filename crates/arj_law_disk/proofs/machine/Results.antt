-- What follows from what holds at every moment.
use Rattle.arj_law_disk.proofs.Terms
use Terms.{◌≡◌, ◌⊎◌, ℕ, ◌+◌, ◌<◌, ◌≤◌, List, [], ◌∷◌, take, Bool, true, false, cond, ◌&&◌, not, Option, Some, None, is_some, unwrap_or}
use Terms.{refl, sym, ◌∙◌, ap, subst, inl, inr, ⊎_elim, arith, bytes_eq, Core, Chain, World, Whole, ToldCommit, ToldAbort, ToldSerial}
use Terms.{State, Packed, Plan, Done, naming, is_open, decided, decided_in, undecided, lists, state_for, hold, list_after, last_in, last}
use Terms.{last_entry, Known, KnownIn, Below, is_latest, IsExcused, has, In}
use Rattle.arj_law_disk.proofs.machine
use machine.{Keeps.run_keeps, Keeps.front_follows, Listing.plain_target}
use machine.Base.{never, never_some, below_both, falls_to}
use machine.History.{known_below, effective_none, latest_is, in_decided}
use Rattle.arj_law_disk.specs.machine.Laws.{FirstIsWhole, StopsStayWhole, IsClean, IsExcludedInTime, AreExcludedInTime, HasOneOutcome}
use Rattle.arj_law_disk.specs.machine.Laws.{VersionsCount, writes_in, changes_in, OldIsCommitted}
use Rattle.arj_law_disk.specs.machine.State.{entry_in}

pub stops_stay_whole : StopsStayWhole
stops_stay_whole W es n f w = run_keeps W (take n es) (front_follows W n es f) w

pub clean : (W : World) → Whole W → IsClean W.disk
clean W w = record {
  entry = λ free. entry free;
  stores = λ free s i p. sym (effective_none (decided W.disk) Some (W.disk.pend s) (W.disk.held s) p)
      ∙ w.core.effective.store s (subst (λ (e : Packed). has s e.content ≡ true) (entry free) i);
}
  where
    entry : W.disk.entry_pend ≡ None → W.disk.entry ≡ last_entry W.disk
    entry free = sym (effective_none (decided W.disk) (λ (e : Packed). e) W.disk.entry_pend W.disk.entry free) ∙ w.core.effective.entry

-- the newest decision that counts is of a confirmed top, and has its state
pub latest_state : (S : State) (t : ℕ) → Core S → is_latest S t ≡ true →
    (decided S t ≡ true) × (S.conf t ≡ true) × ((w : Packed) → (S.plan t).writes ≡ Some w → last S ≡ w)
latest_state S t c l =
    let r = latest_is S.first S.tops t c.journal.plain l in (
      subst (λ n. decided S n ≡ true) r.2 (in_decided S.tops r.0 r.1),
      subst (λ n. S.conf n ≡ true) r.2 (c.journal.counted r.0 r.1 r.3),
      λ w e. r.4 w (ap (λ (p : Plan). p.writes) (c.journal.plan r.0 r.1) ∙ (ap (λ n. (S.plan n).writes) r.2 ∙ e)),
    )

pub in_time : (W : World) → Whole W → AreExcludedInTime W.disk
in_time W w t s l wrote i = by (S.plan t).writes refl wrote
  where
    S : State
    S = W.disk

    c : Core S
    c = w.core

    r : (decided S t ≡ true) × (S.conf t ≡ true) × ((x : Packed) → (S.plan t).writes ≡ Some x → last S ≡ x)
    r = latest_state S t c l

    reached : (x : Packed) → (S.plan t).writes ≡ Some x → S.went t s ≡ true → S.held s ≡ Some (last S)
    reached x e went =
        let h = (c.firm.went t s went).1 in
        let state : state_for (S.plan t) ≡ last S = ap (λ o. unwrap_or o (S.plan t).loaded) e ∙ sym (r.2 x e) in
        let up = subst (λ (y : Packed). Below y h.0) state h.2 in
        let down = known_below S h.0 c.history (c.history.held s h.0 h.1) in
        h.1 ∙ ap Some (below_both h.0 (last S) down up)

    by : (o : Option Packed) → (S.plan t).writes ≡ o → is_some (S.plan t).writes ≡ true → IsExcludedInTime S t s
    by None e n = absurd (never n (ap is_some e))
    by (Some x) e n = ⊎_elim
        (λ (g : S.got t s ≡ true). ⊎_elim
        (λ (p : S.pend s ≡ Some (hold S t)). inr (inl (hold S t, p, refl, ap (λ o. unwrap_or o (S.plan t).loaded) e ∙ sym (r.2 x e))))
        (λ (went : S.went t s ≡ true). inl (reached x e went))
        (c.firm.done t s r.0 g))
        (λ (y : IsExcused S t s). inr (inr y))
        (c.covered.stores t s r.1 (inr l) n (inl i))

pub one_outcome : (W : World) → Whole W → HasOneOutcome W
one_outcome W w = record {
  moved = λ s h x. w.mail (ToldCommit h.top s) x.1;
  finished = λ s h x. w.mail (ToldCommit h.top s) x.1;
  dropped = λ s h x d g. ⊎_elim (λ (l : lists W.disk h.top s ≡ true). absurd (never l (w.mail (ToldAbort h.top s) x.1).2))
      (λ (e : W.disk.went h.top s ≡ true). e) (w.core.firm.listed h.top s d g);
  entry_moved = λ h x. w.mail (ToldCommit h.top naming) x.1;
  entry_finished = λ h x. w.mail (ToldCommit h.top naming) x.1;
  entry_dropped =
      λ h x. falls_to (decided W.disk h.top) (λ d. never (w.core.pending.listed h x.0 d) (w.mail (ToldAbort h.top naming) x.1).2);
  entry_forgotten = λ r h x.
      falls_to (decided W.disk h.top) (λ d. never (w.core.pending.listed h x.0 d) ((w.mail (ToldSerial r naming) x.1).1 h.top x.2));
}

-- versions

state_version : (first : Packed) (ds : List Done) → Chain first ds → (last_in first ds).version ≡ first.version + writes_in ds
state_version first [] c = omega arith
state_version first (d ∷ ds) c = by (state_version first ds c.1) d.plan.writes refl
  where
    by : (last_in first ds).version ≡ first.version + writes_in ds → (o : Option Packed) → d.plan.writes ≡ o →
        (unwrap_or o (last_in first ds)).version ≡ first.version + (writes_in ds + cond (is_some o) 1 0)
    by ih None e = omega (arith, ih)
    by ih (Some w) e = omega (arith, ih, c.0 w e)

entry_version : (first : Packed) (ds : List Done) → (entry_in first ds).version ≡ first.version + changes_in first ds
entry_version first [] = omega arith
entry_version first (d ∷ ds) =
    by (entry_version first ds) d.counts (bytes_eq (list_after d.plan d.got (entry_in first ds).content) (entry_in first ds).content)
  where
    by : (entry_in first ds).version ≡ first.version + changes_in first ds → (b same : Bool)
        → (cond b (cond same (entry_in first ds) (record {
          version = (entry_in first ds).version + 1;
          writer = d.top;
          content = list_after d.plan d.got (entry_in first ds).content;
        })) (entry_in first ds)).version ≡ first.version + (changes_in first ds + cond (b && not same) 1 0)
    by ih false same = omega (arith, ih)
    by ih true true = omega (arith, ih)
    by ih true false = omega (arith, ih)

pub versions_count : (W : World) → Whole W → VersionsCount W.disk
versions_count W w =
    record { state = state_version W.disk.first W.disk.tops w.core.history.chain; entry = entry_version W.disk.first_entry W.disk.tops }

-- a known state is the first one, or above it
pub known_above : (first : Packed) (ds : List Done) (g : Packed) → Chain first ds → KnownIn first ds g →
    (first ≡ g) ⊎ (first.version < g.version)
known_above first [] g c k = inl k
known_above first (d ∷ ds) g c (inr k) = known_above first ds g c.1 k
known_above first (d ∷ ds) g c (inl e) = inr (omega (arith, state_version first ds c.1, c.0 g e))

pub old_is_committed : (W : World) → Whole W → OldIsCommitted W.disk
old_is_committed W w t s g begun sent based late held old = (low known, high (known_below S g c.history known))
  where
    S : State
    S = W.disk

    c : Core S
    c = w.core

    known : Known S g
    known = c.history.held s g held

    -- the first state is below each that is sent
    first_below : (o : Option Packed) → (S.plan t).writes ≡ o → Below S.first (state_for (S.plan t))
    first_below None e = subst (λ o. Below S.first (unwrap_or o (S.plan t).loaded)) (sym e) (⊎_elim (λ k. at (known_above S.first S.tops
        (S.plan t).loaded c.history.chain k)) (λ i. absurd (late i)) (c.history.loaded t s begun (plain_target (S.plan t) s e sent)))
      where
        at : (S.first ≡ (S.plan t).loaded) ⊎ (S.first.version < (S.plan t).loaded.version) → Below S.first (S.plan t).loaded
        at (inl is) = inr is
        at (inr less) = inl less
    first_below (Some x) e = subst (λ o. Below S.first (unwrap_or o (S.plan t).loaded)) (sym e)
        (at (known_above S.first S.tops (based x e).base c.history.chain (based x e).known))
      where
        at : (S.first ≡ (based x e).base) ⊎ (S.first.version < (based x e).base.version) → Below S.first x
        at (inl is) = inl (omega (arith, ap (λ (y : Packed). y.version) is, (based x e).above))
        at (inr less) = inl (omega (arith, less, (based x e).above))

    first_under : Below S.first (state_for (S.plan t))
    first_under = first_below (S.plan t).writes refl

    -- an older one is below it
    past_under : In g S.past → Below S.first (state_for (S.plan t)) → Below g (state_for (S.plan t))
    past_under i (inl less) = inl (omega (arith, c.history.past.below g i, less))
    past_under i (inr is) = inl (omega (arith, c.history.past.below g i, ap (λ (y : Packed). y.version) is))

    low : Known S g → S.first.version < g.version
    low (inr i) = absurd (old (past_under i first_under))
    low (inl k) = ⊎_elim (λ (is : S.first ≡ g). absurd (old (subst (λ (y : Packed). Below y (state_for (S.plan t))) is first_under)))
        (λ (less : S.first.version < g.version). less) (known_above S.first S.tops g c.history.chain k)

    high : Below g (last S) → g.version ≤ S.first.version + writes_in S.tops
    high (inl less) = omega (arith, less, state_version S.first S.tops c.history.chain)
    high (inr is) = omega (arith, ap (λ (y : Packed). y.version) is, state_version S.first S.tops c.history.chain)

-- the first state

pub first_is_whole : FirstIsWhole
first_is_whole S f = record { core = core; mail = λ m i. absurd i }
  where
    none : {A : Type 0} {b : Bool} → b ≡ false → b ≡ true → A
    none {b = b} n h = absurd (never h n)

    none_some : {A B : Type 0} {o : Option B} {x : B} → o ≡ None → o ≡ Some x → A
    none_some n h = absurd (never_some h n)

    none_record : {A : Type 0} (t : ℕ) → is_some (S.intent t) ≡ true → A
    none_record t h = absurd (never h (ap is_some (f.no_record t)))

    undone : {A : Type 0} (t : ℕ) → decided S t ≡ true → A
    undone t h = absurd (never h (ap (λ ds. decided_in ds t) f.undecided))

    nowhere : {A : Type 0} (d : Done) → In d S.tops → A
    nowhere d i = absurd (subst (In d) f.undecided i)

    entry_last : S.entry ≡ last_entry S
    entry_last = f.entry ∙ sym (ap (entry_in S.first_entry) f.undecided)

    core : Core S
    core = record {
      coordinators = record {
        conf_sealed = λ t h. none (f.none_conf t) h;
        light_sealed = λ t h. none (f.none_light t) h;
        decided_taken = λ t h. undone t h;
        decided_closed = λ t h. undone t h;
        record_sealed = λ t h. none_record t h;
        record_taken = λ t h. none_record t h;
        record_lists = λ t l h. none_some (f.no_record t) h;
        record_names = λ t l h. none_some (f.no_record t) h;
        got_target = λ t s h. none (f.none_got t s) h;
      };
      fresh = record {
        begun = λ t h. none (f.unbegun t) h;
        open_begun = λ t h. none (ap is_open (f.idle t)) h;
        conf = λ t h. none (f.none_conf t) h;
        light = λ t h. none (f.none_light t) h;
        got = λ t s h. none (f.none_got t s) h;
        pend = λ s h p. none_some (f.free s) p;
        went = λ t s h. none (f.none_went t s) h;
        entry = λ h p. none_some f.entry_free p;
      };
      bare = record {
        gone = λ t h. none (f.none_bare t) h;
        no_record = λ t h. none (f.none_bare t) h;
        undone = λ t h. none (f.none_bare t) h;
        untouched = λ t h. none (f.none_bare t) h;
        taken = λ t h. none (f.none_bare t) h;
      };
      forms = record {
        state = λ s h p. none_some (f.free s) p;
        sent = λ s h p. none_some (f.free s) p;
        below = λ s h g p. none_some (f.free s) p;
      };
      history = record {
        held = λ s g h. ⊎_elim (λ (is : S.first ≡ g). inl (subst (λ ds. KnownIn S.first ds g) (sym f.undecided) is))
            (λ (i : In g S.past). inr i) (f.no_other s g h);
        done = λ t s d. undone t d;
        loaded = λ t s b. none (f.unbegun t) b;
        chain = subst (Chain S.first) (sym f.undecided) tt;
        past = f.past;
      };
      journal = record { plan = λ d i. nowhere d i; got = λ d i. nowhere d i; plain = λ d i. nowhere d i; counted = λ d i. nowhere d i };
      firm = record {
        kept = λ t s u g. none (f.none_got t s) g;
        done = λ t s d. undone t d;
        listed = λ t s d. undone t d;
        went = λ t s h. none (f.none_went t s) h;
      };
      light = record {
        plain = λ t h. none (f.none_light t) h;
        none = λ t s h. none (f.none_light t) h;
        other = λ t h. none (f.none_light t) h;
        late = λ t s h l. none (f.none_light t) l;
      };
      alone = record {
        one = λ t z h. none (f.none_conf t) h;
        next = λ t w h. none (f.none_conf t) h;
        loaded = λ t s h. none (f.none_conf t) h;
      };
      covered = record {
        stores = λ t s h. none (f.none_conf t) h;
        own = λ t h c. none (f.none_conf t) c;
        rest = λ t h. none (f.none_conf t) h;
        joins = λ t s h. none (f.none_conf t) h;
        plain = λ t h. none (f.none_conf t) h;
      };
      pending = record {
        sealed = λ h p. none_some f.entry_free p;
        open_conf = λ h p. none_some f.entry_free p;
        done_conf = λ h p. none_some f.entry_free p;
        listed = λ h p. none_some f.entry_free p;
        new = λ h s p. none_some f.entry_free p;
        stores = λ h p. none_some f.entry_free p;
        held = f.stores;
      };
      effective = record {
        entry = effective_none (decided S) (λ (e : Packed). e) S.entry_pend S.entry f.entry_free ∙ entry_last;
        store = λ s i. effective_none (decided S) Some (S.pend s) (S.held s) (f.free s) ∙ (f.held s
            (subst (λ (e : Packed). has s e.content ≡ true) (sym entry_last) i) ∙ ap Some (sym (ap (last_in S.first) f.undecided)));
        late = λ s h i p. none_some (f.free s) p;
      };
    }
