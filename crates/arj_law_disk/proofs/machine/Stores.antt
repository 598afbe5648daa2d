-- What a store does: prepare, move, finish, drop.
use Rattle.arj_law_disk.proofs.Terms
use Terms.{◌≡◌, ◌⊎◌, ℕ, true, false, Option, Some, None, refl, sym, ◌∙◌, ap, subst, inl, inr, ⊎_elim, Core, HasReached, changed, Keep, Move}
use Terms.{Finish, Drop, State, Packed, Hold, decided, undecided, lists, target, state_for, hold, last, last_entry, effective_by, Known}
use Terms.{Below, has, put, put2}
use Rattle.arj_law_disk.proofs.machine
use machine.Base.{bool_cases, put_cases, put2_true, put2_rises, put2_same, open_done, never, never_some, some_is, below_trans, below_both}
use machine.History.{known_below, effective_none, effective_done, effective_open}

pub core_kept : (S : State) (t s : ℕ) → S.begun t ≡ true → target (S.plan t) s ≡ true → S.pend s ≡ None →
    ((g : Packed) → S.held s ≡ Some g → Below g (state_for (S.plan t))) → Core S → Core (changed S (Keep t s))
core_kept S t s begun sent free below c = record {
  journal = c.journal;
  coordinators = c.coordinators;
  fresh = record {
    begun = c.fresh.begun;
    open_begun = c.fresh.open_begun;
    conf = c.fresh.conf;
    light = c.fresh.light;
    got = c.fresh.got;
    pend = λ m h p. put_cases (λ o. o ≡ Some h →
        S.begun h.top ≡ true) s new S.pend m (λ e q. subst (λ k. S.begun k.top ≡ true) (is q) begun) (λ e q. c.fresh.pend m h q) p;
    went = c.fresh.went;
    entry = c.fresh.entry;
  };
  bare = c.bare;
  forms = record {
    state = λ m h p. put_cases (λ o. o ≡ Some h → h.new ≡ state_for (S.plan h.top)) s new S.pend m
        (λ e q. subst (λ k. k.new ≡ state_for (S.plan k.top)) (is q) refl) (λ e q. c.forms.state m h q) p;
    sent = λ m h p. put_cases (λ o. o ≡ Some h → target (S.plan h.top) m ≡ true) s new S.pend m (λ e q. subst
        (λ k. target (S.plan k.top) m ≡ true) (is q) (subst (λ n. target (S.plan t) n ≡ true) (sym e) sent)) (λ e q. c.forms.sent m h q) p;
    below = λ m h g p hg. put_cases (λ o. o ≡ Some h → Below g h.new) s new S.pend m
        (λ e q. subst (λ k. Below g k.new) (is q) (below g (ap S.held (sym e) ∙ hg))) (λ e q. c.forms.below m h g q hg) p;
  };
  history = c.history;
  firm = record {
    kept = λ a m u g.
        put_cases (λ o. o ≡ Some (hold S a)) s new S.pend m (λ e. absurd (taken e (c.firm.kept a m u g))) (λ e. c.firm.kept a m u g);
    done = λ a m d g. put_cases (λ o. (o ≡ Some (hold S a)) ⊎ (S.went a m ≡ true)) s new S.pend m
        (λ e. ⊎_elim (λ (p : S.pend m ≡ Some (hold S a)). absurd (taken e p)) (λ (w : S.went a m ≡ true). inr w) (c.firm.done a m d g))
        (λ e. c.firm.done a m d g);
    listed = c.firm.listed;
    went = c.firm.went;
  };
  light = record {
    plain = c.light.plain;
    none = c.light.none;
    other = c.light.other;
    late = λ a m h l u p top i. put_cases (λ o. o ≡ Some h →
        S.held m ≡ Some (last S)) s new S.pend m (λ e q. free_held m e i) (λ e q. c.light.late a m h l u q top i) p;
  };
  alone = c.alone;
  covered = c.covered;
  pending = c.pending;
  effective = record {
    entry = c.effective.entry;
    store = λ m i. put_cases (λ o. effective_by (decided S) Some o (S.held m) ≡ Some (last S)) s new S.pend m (λ e. here m e i)
        (λ e. c.effective.store m i);
    late = λ m h i p d. put_cases (λ o. o ≡ Some h → ((lists S h.top m ≡ true) × (S.got h.top m ≡ true)) ⊎ (S.held m ≡ Some (last S))) s new
        S.pend m (λ e q. inr (free_held m e i)) (λ e q. c.effective.late m h i q d) p;
  };
}
  where
    new : Option Hold
    new = Some (hold S t)

    is : {h : Hold} → ◌≡◌ {A = Option Hold} (Some (hold S t)) (Some h) → hold S t ≡ h
    is e = cc

    taken : {m : ℕ} {h : Hold} → m ≡ s → S.pend m ≡ Some h → ⊥
    taken {m} e p = never_some p (ap S.pend e ∙ free)

    free_held : (m : ℕ) → m ≡ s → has m (last_entry S).content ≡ true → S.held m ≡ Some (last S)
    free_held m e i = sym (effective_none (decided S) Some (S.pend m) (S.held m) (ap S.pend e ∙ free)) ∙ c.effective.store m i

    here : (m : ℕ) → m ≡ s → has m (last_entry S).content ≡ true →
        effective_by (decided S) Some (Some (hold S t)) (S.held m) ≡ Some (last S)
    here m e i = ⊎_elim
        (λ (d : decided S t ≡ true).
        let up = below (last S) (ap S.held (sym e) ∙ free_held m e i) in
        let down = known_below S (state_for (S.plan t)) c.history (c.history.done t s d sent) in
        effective_done (decided S) Some (Some (hold S t)) (hold S t) (S.held m) refl d
        ∙ ap Some (below_both (state_for (S.plan t)) (last S) down up))
        (λ (d : decided S t ≡ false). effective_open (decided S) Some (Some (hold S t)) (hold S t) (S.held m) refl d ∙ free_held m e i)
        (bool_cases (decided S t))

pub core_moved : (S : State) (s : ℕ) (h : Hold) → S.pend s ≡ Some h → decided S h.top ≡ true → Core S → Core (changed S (Move s h))
core_moved S s h prepared done c = record {
  journal = c.journal;
  coordinators = c.coordinators;
  fresh = c.fresh;
  bare = c.bare;
  forms = record {
    state = c.forms.state;
    sent = c.forms.sent;
    below = λ m k g p. put_cases (λ o. o ≡ Some g →
        Below g k.new) s (Some h.new) S.held m (λ e q. inr (sym (some q) ∙ ap (λ x. x.new) (one m k e p))) (λ e q. c.forms.below m k g p q);
  };
  history = record {
    held = λ m g. put_cases (λ o. o ≡ Some g → Known S g) s (Some h.new) S.held m (λ e q. subst (Known S) (sym (c.forms.state s h prepared)
        ∙ some q) (c.history.done h.top s done (c.forms.sent s h prepared))) (λ e q. c.history.held m g q);
    done = c.history.done;
    loaded = c.history.loaded;
    chain = c.history.chain;
    past = c.history.past;
  };
  firm = record {
    kept = c.firm.kept;
    done = c.firm.done;
    listed = c.firm.listed;
    went = λ a m w.
        let old = c.firm.went a m w in (
          old.0,
          put_cases (λ o. HasReached o (state_for (S.plan a))) s (Some h.new) S.held m (λ e. reached m (state_for (S.plan a)) e old.1)
              (λ e. old.1),
        );
  };
  light = record {
    plain = c.light.plain;
    none = c.light.none;
    other = c.light.other;
    late = λ a m k l u p top i. put_cases (λ o. o ≡ Some (last S)) s (Some h.new) S.held m
        (λ e. absurd (never (ap (decided S) (sym top) ∙ ap (λ x. decided S x.top) (sym (one m k e p)) ∙ done)
        (open_done (decided S a) (S.stage a) (S.intent a) u)))
        (λ e. c.light.late a m k l u p top i);
  };
  alone = c.alone;
  covered = c.covered;
  pending = c.pending;
  effective = record {
    entry = c.effective.entry;
    store = λ m i. put_cases (λ o. effective_by (decided S) Some (S.pend m) o ≡ Some (last S)) s (Some h.new) S.held m
        (λ e. effective_done (decided S) Some (S.pend m) h (Some h.new) (ap S.pend e ∙ prepared) done ∙ is_last m e i)
        (λ e. c.effective.store m i);
    late = λ m k i p d. put_cases (λ o. ((lists S k.top m ≡ true) × (S.got k.top m ≡ true)) ⊎ (o ≡ Some (last S))) s (Some h.new) S.held m
        (λ e. inr (is_last m e i)) (λ e. c.effective.late m k i p d);
  };
}
  where
    some : {g : Packed} → ◌≡◌ {A = Option Packed} (Some h.new) (Some g) → h.new ≡ g
    some e = cc

    one : (m : ℕ) (k : Hold) → m ≡ s → S.pend m ≡ Some k → h ≡ k
    one m k e p = some_is prepared (ap S.pend (sym e) ∙ p)

    is_last : (m : ℕ) → m ≡ s → has m (last_entry S).content ≡ true → ◌≡◌ {A = Option Packed} (Some h.new) (Some (last S))
    is_last m e i = sym (effective_done (decided S) Some (S.pend m) h (S.held m) (ap S.pend e ∙ prepared) done) ∙ c.effective.store m i

    reached : (m : ℕ) (state : Packed) → m ≡ s → HasReached (S.held m) state → HasReached (Some h.new) state
    reached m state e r = (h.new, refl, below_trans state r.0 h.new r.2 (c.forms.below s h r.0 prepared (ap S.held (sym e) ∙ r.1)))

-- what is still prepared after one was taken away
pub freed : (S : State) (s m : ℕ) (h : Hold) → put s None S.pend m ≡ Some h → S.pend m ≡ Some h
freed S s m h = put_cases (λ o. o ≡ Some h → S.pend m ≡ Some h) s None S.pend m (λ e q. let n : ◌≡◌ {A = Option Hold} None (Some h) = q in
    cc) (λ e q. q)

pub core_finished : (S : State) (s : ℕ) (h : Hold) → S.pend s ≡ Some h → decided S h.top ≡ true → S.held s ≡ Some h.new → Core S →
    Core (changed S (Finish s h))
core_finished S s h prepared done held c = record {
  journal = c.journal;
  coordinators = c.coordinators;
  fresh = record {
    begun = c.fresh.begun;
    open_begun = c.fresh.open_begun;
    conf = c.fresh.conf;
    light = c.fresh.light;
    got = c.fresh.got;
    pend = λ m k p. c.fresh.pend m k (freed S s m k p);
    went = λ a m w. ⊎_elim (λ (x : (a ≡ h.top) × (m ≡ s)). ap S.begun x.0 ∙ c.fresh.pend s h prepared)
        (λ (x : S.went a m ≡ true). c.fresh.went a m x) (put2_true h.top s S.went a m w);
    entry = c.fresh.entry;
  };
  bare = c.bare;
  forms = record {
    state = λ m k p. c.forms.state m k (freed S s m k p);
    sent = λ m k p. c.forms.sent m k (freed S s m k p);
    below = λ m k g p. c.forms.below m k g (freed S s m k p);
  };
  history = c.history;
  firm = record {
    kept = λ a m u g. put_cases (λ o. o ≡ Some (hold S a)) s None S.pend m
        (λ e. absurd (never (ap (λ x. decided S x.top) (sym (one m (hold S a) e (c.firm.kept a m u g))) ∙ done)
        (open_done (decided S a) (S.stage a) (S.intent a) u)))
        (λ e. c.firm.kept a m u g);
    done = λ a m d g. put_cases (λ o. (o ≡ Some (hold S a)) ⊎ (put2 h.top s true S.went a m ≡ true)) s None S.pend m
        (λ e. inr (went a m e (c.firm.done a m d g))) (λ e. ⊎_elim (λ (p : S.pend m ≡ Some (hold S a)). inl p)
        (λ (w : S.went a m ≡ true). inr (put2_rises h.top s S.went a m w)) (c.firm.done a m d g));
    listed = λ a m d g. ⊎_elim (λ (l : lists S a m ≡ true). inl l) (λ (w : S.went a m ≡ true). inr (put2_rises h.top s S.went a m w))
        (c.firm.listed a m d g);
    went = λ a m w. ⊎_elim
        (λ (x : (a ≡ h.top) × (m ≡ s)). subst (λ n. (decided S n ≡ true) × HasReached (S.held m) (state_for (S.plan n))) (sym x.0)
        (done, (h.new, ap S.held x.1 ∙ held, inr (sym (c.forms.state s h prepared)))))
        (λ (x : S.went a m ≡ true). c.firm.went a m x)
        (put2_true h.top s S.went a m w);
  };
  light = record {
    plain = c.light.plain;
    none = c.light.none;
    other = c.light.other;
    late = λ a m k l u p. c.light.late a m k l u (freed S s m k p);
  };
  alone = c.alone;
  covered = c.covered;
  pending = c.pending;
  effective = record {
    entry = c.effective.entry;
    store = λ m i. put_cases (λ o. effective_by (decided S) Some o (S.held m) ≡ Some (last S)) s None S.pend m
        (λ e. (ap S.held e ∙ held)
        ∙ (sym (effective_done (decided S) Some (S.pend m) h (S.held m) (ap S.pend e ∙ prepared) done) ∙ c.effective.store m i))
        (λ e. c.effective.store m i);
    late = λ m k i p. c.effective.late m k i (freed S s m k p);
  };
}
  where
    one : (m : ℕ) (k : Hold) → m ≡ s → S.pend m ≡ Some k → h ≡ k
    one m k e p = some_is prepared (ap S.pend (sym e) ∙ p)

    went : (a m : ℕ) → m ≡ s → (S.pend m ≡ Some (hold S a)) ⊎ (S.went a m ≡ true) → put2 h.top s true S.went a m ≡ true
    went a m e (inl p) = subst (λ n. put2 h.top s true S.went n m ≡ true) (ap (λ x. x.top) (one m (hold S a) e p))
        (subst (λ n. put2 h.top s true S.went h.top n ≡ true) (sym e) (put2_same h.top s S.went))
    went a m e (inr w) = put2_rises h.top s S.went a m w

pub core_dropped : (S : State) (s : ℕ) (h : Hold) → S.pend s ≡ Some h → undecided S h.top ≡ false → lists S h.top s ≡ false → Core S →
    Core (changed S (Drop s h))
core_dropped S s h prepared closed unlisted c = record {
  journal = c.journal;
  coordinators = c.coordinators;
  fresh = record {
    begun = c.fresh.begun;
    open_begun = c.fresh.open_begun;
    conf = c.fresh.conf;
    light = c.fresh.light;
    got = c.fresh.got;
    pend = λ m k p. c.fresh.pend m k (freed S s m k p);
    went = c.fresh.went;
    entry = c.fresh.entry;
  };
  bare = c.bare;
  forms = record {
    state = λ m k p. c.forms.state m k (freed S s m k p);
    sent = λ m k p. c.forms.sent m k (freed S s m k p);
    below = λ m k g p. c.forms.below m k g (freed S s m k p);
  };
  history = c.history;
  firm = record {
    kept = λ a m u g. put_cases (λ o. o ≡ Some (hold S a)) s None S.pend m
        (λ e. absurd (never u (ap (λ x. undecided S x.top) (sym (one m (hold S a) e (c.firm.kept a m u g))) ∙ closed)))
        (λ e. c.firm.kept a m u g);
    done = λ a m d g. put_cases (λ o. (o ≡ Some (hold S a)) ⊎ (S.went a m ≡ true)) s None S.pend m
        (λ e. inr (went a m e (c.firm.listed a m d g) (c.firm.done a m d g))) (λ e. c.firm.done a m d g);
    listed = c.firm.listed;
    went = c.firm.went;
  };
  light = record {
    plain = c.light.plain;
    none = c.light.none;
    other = c.light.other;
    late = λ a m k l u p. c.light.late a m k l u (freed S s m k p);
  };
  alone = c.alone;
  covered = c.covered;
  pending = c.pending;
  effective = record {
    entry = c.effective.entry;
    store = λ m i. put_cases (λ o. effective_by (decided S) Some o (S.held m) ≡ Some (last S)) s None S.pend m
        (λ e. here m e i (bool_cases (decided S h.top))) (λ e. c.effective.store m i);
    late = λ m k i p. c.effective.late m k i (freed S s m k p);
  };
}
  where
    one : (m : ℕ) (k : Hold) → m ≡ s → S.pend m ≡ Some k → h ≡ k
    one m k e p = some_is prepared (ap S.pend (sym e) ∙ p)

    went : (a m : ℕ) → m ≡ s → (lists S a m ≡ true) ⊎ (S.went a m ≡ true) → (S.pend m ≡ Some (hold S a)) ⊎ (S.went a m ≡ true) →
        S.went a m ≡ true
    went a m e (inl l) (inl p) =
        absurd (never l (subst (λ n. lists S a n ≡ false) (sym e) (ap (λ x. lists S x.top s) (sym (one m (hold S a) e p)) ∙ unlisted)))
    went a m e (inr w) (inl p) = w
    went a m e l (inr w) = w

    here : (m : ℕ) → m ≡ s → has m (last_entry S).content ≡ true → (decided S h.top ≡ true) ⊎ (decided S h.top ≡ false) →
        S.held m ≡ Some (last S)
    here m e i (inl d) = ⊎_elim
        (λ (x : (lists S h.top m ≡ true) × (S.got h.top m ≡ true)). absurd (never x.0 (ap (lists S h.top) e ∙ unlisted)))
        (λ (x : S.held m ≡ Some (last S)). x)
        (c.effective.late m h i (ap S.pend e ∙ prepared) d)
    here m e i (inr d) = sym (effective_open (decided S) Some (S.pend m) h (S.held m) (ap S.pend e ∙ prepared) d) ∙ c.effective.store m i
