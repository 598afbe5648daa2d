-- A top's commit begins: nothing spoke of it before, so its plan may be set.
use Rattle.arj_law_disk.proofs.Terms
use Terms.{◌≡◌, ◌⊎◌, ℕ, ◌+◌, Bool, true, false, ◌==◌, Some, None, is_some, refl, sym, ◌∙◌, ap, subst, inl, inr, Journal, Core, HasReached}
use Terms.{IsActive, changed, Begin, CanBegin, State, Plan, Hold, Stage, Preparing, is_open, is_sealed, is_gone, is_idle, open_by, decided}
use Terms.{undecided, target, state_for, entry_after, last, last_entry, Known, is_latest, Listed, IsExcused, has, put}
use Rattle.arj_law_disk.proofs.machine.{Base.put_cases, Base.put_rises, Base.put_other, Base.test_not, History.in_decided}

pub core_begun : (S : State) (t : ℕ) (p : Plan) → CanBegin S t p → Core S → Core (changed S (Begin t p))
core_begun S t p can c = record {
  journal = journal;
  coordinators = record {
    conf_sealed = λ a h. same a (c.fresh.conf a h) (λ g q. is_sealed g ≡ true) (c.coordinators.conf_sealed a h);
    light_sealed = λ a h. same a (c.fresh.light a h) (λ g q. is_sealed g ≡ true) (c.coordinators.light_sealed a h);
    decided_taken = c.coordinators.decided_taken;
    decided_closed =
        λ a d. same a (taken_begun a (c.coordinators.decided_taken a d)) (λ g q. is_gone g ≡ true) (c.coordinators.decided_closed a d);
    record_sealed =
        λ a i. same a (taken_begun a (c.coordinators.record_taken a i)) (λ g q. is_sealed g ≡ true) (c.coordinators.record_sealed a i);
    record_taken = c.coordinators.record_taken;
    record_lists = c.coordinators.record_lists;
    record_names = c.coordinators.record_names;
    got_target = λ a s g. same a (c.fresh.got a s g) (λ st q. target q s ≡ true) (c.coordinators.got_target a s g);
  };
  fresh = record {
    begun = λ a h. put_cases (λ g. is_idle g ≡ false) t Preparing S.stage a (λ e. refl) (λ e. c.fresh.begun a (old a e h));
    open_begun = λ a h. put_cases (λ b. b ≡ true) t true S.begun a (λ e. refl)
        (λ e. c.fresh.open_begun a (ap is_open (sym (put_other t Preparing S.stage a e)) ∙ h));
    conf = λ a h. put_rises t S.begun a (c.fresh.conf a h);
    light = λ a h. put_rises t S.begun a (c.fresh.light a h);
    got = λ a s h. put_rises t S.begun a (c.fresh.got a s h);
    pend = λ s h p. put_rises t S.begun h.top (c.fresh.pend s h p);
    went = λ a s h. put_rises t S.begun a (c.fresh.went a s h);
    entry = λ h p. put_rises t S.begun h.top (c.fresh.entry h p);
  };
  bare = record {
    gone = λ a b. same a (taken_begun a (c.bare.taken a b)) (λ g q. is_gone g ≡ true) (c.bare.gone a b);
    no_record = c.bare.no_record;
    undone = c.bare.undone;
    untouched = λ a b s. same a (taken_begun a (c.bare.taken a b)) (λ g q. target q s ≡ false) (c.bare.untouched a b s);
    taken = c.bare.taken;
  };
  forms = record {
    state = λ s h p. same h.top (c.fresh.pend s h p) (λ g q. h.new ≡ state_for q) (c.forms.state s h p);
    sent = λ s h p. same h.top (c.fresh.pend s h p) (λ g q. target q s ≡ true) (c.forms.sent s h p);
    below = c.forms.below;
  };
  history = record {
    held = c.history.held;
    done = λ a s d.
        same a (taken_begun a (c.coordinators.decided_taken a d)) (λ g q. target q s ≡ true → Known S (state_for q)) (c.history.done a s d);
    loaded = λ a s. put_cases (λ q. put t true S.begun a ≡ true → has s q.joins ≡ true →
        Known S q.loaded) t p S.plan a (λ e b j. can.loaded s j) (λ e b j. c.history.loaded a s (old a e b) j);
    chain = c.history.chain;
    past = c.history.past;
  };
  firm = record {
    kept = λ a s u g. same a (c.fresh.got a s g) (λ st q. open_by (decided S a) st (S.intent a) ≡ true →
        S.pend s ≡ Some (record { top = a; new = state_for q })) (λ v. c.firm.kept a s v g) u;
    done = λ a s d g. same a (c.fresh.got a s g) (λ st q. (S.pend s ≡ Some (record { top = a; new = state_for q })) ⊎ (S.went a s ≡ true))
        (c.firm.done a s d g);
    listed = c.firm.listed;
    went = λ a s w. same a (c.fresh.went a s w) (λ st q. (decided S a ≡ true) × HasReached (S.held s) (state_for q)) (c.firm.went a s w);
  };
  light = record {
    plain = λ a l. same a (c.fresh.light a l) (λ g q. q.writes ≡ None) (c.light.plain a l);
    none = c.light.none;
    other = c.light.other;
    late = λ a s h l u. c.light.late a s h l (und a (c.fresh.light a l) u);
  };
  alone = record {
    one = λ a z ca ua cz uz. c.alone.one a z ca (und a (c.fresh.conf a ca) ua) cz (und z (c.fresh.conf z cz) uz);
    next = λ a w ca ua. same a (c.fresh.conf a ca) (λ g q. q.writes ≡ Some w →
        w.version ≡ (last S).version + 1) (c.alone.next a w ca (und a (c.fresh.conf a ca) ua));
    loaded = λ a s ca ua.
        same a (c.fresh.conf a ca) (λ g q. has s q.joins ≡ true → q.loaded ≡ last S) (c.alone.loaded a s ca (und a (c.fresh.conf a ca) ua));
  };
  covered = record {
    stores = λ a s ca act. same a (c.fresh.conf a ca) (λ g q. is_some q.writes ≡ true → Listed S s →
        (S.got a s ≡ true) ⊎ IsExcused S a s) (c.covered.stores a s ca (active a ca act));
    own = λ a h ca ua pe top. same a (c.fresh.conf a ca) (λ g q. h.new ≡ entry_after a q (S.got a) (last_entry S))
        (c.covered.own a h ca (und a (c.fresh.conf a ca) ua) pe top);
    rest = λ a ca ua non. same a (c.fresh.conf a ca) (λ g q. entry_after a q (S.got a) (last_entry S) ≡ last_entry S)
        (c.covered.rest a ca (und a (c.fresh.conf a ca) ua) non);
    joins = λ a s ca ua. same a (c.fresh.conf a ca) (λ g q. has s q.joins ≡ true → S.got a s ≡ true →
        (h : Hold) × (S.entry_pend ≡ Some h) × (h.top ≡ a)) (c.covered.joins a s ca (und a (c.fresh.conf a ca) ua));
    plain = λ a ca ua. same a (c.fresh.conf a ca) (λ g q. q.writes ≡ None → ((s : ℕ) × (has s q.joins ≡ true))
        × ((h : Hold) × (S.entry_pend ≡ Some h) × (h.top ≡ a))) (c.covered.plain a ca (und a (c.fresh.conf a ca) ua));
  };
  pending = record {
    sealed = λ h pe. same h.top (c.fresh.entry h pe) (λ g q. is_sealed g ≡ true) (c.pending.sealed h pe);
    open_conf = λ h pe u. c.pending.open_conf h pe (und h.top (c.fresh.entry h pe) u);
    done_conf = c.pending.done_conf;
    listed = c.pending.listed;
    new = c.pending.new;
    stores = c.pending.stores;
    held = c.pending.held;
  };
  effective = c.effective;
}
  where
    unbegun : S.begun t ≡ true → ⊥
    unbegun b = let n : ◌≡◌ {A = Bool} true false = sym (ap is_idle can.idle) ∙ c.fresh.begun t b in cc

    differs : (a : ℕ) → S.begun a ≡ true → (a == t) ≡ false
    differs a b = test_not a t (λ e. unbegun (ap S.begun (sym e) ∙ b))

    old : (a : ℕ) → (a == t) ≡ false → put t true S.begun a ≡ true → S.begun a ≡ true
    old a e h = sym (put_other t true S.begun a e) ∙ h

    taken_begun : (a : ℕ) → (S.conf a ≡ true) ⊎ (S.light a ≡ true) → S.begun a ≡ true
    taken_begun a (inl h) = c.fresh.conf a h
    taken_begun a (inr h) = c.fresh.light a h

    same : (a : ℕ) → S.begun a ≡ true → (P : Stage → Plan → Type 0) → P (S.stage a) (S.plan a) →
        P (put t Preparing S.stage a) (put t p S.plan a)
    same a b P x = subst (λ g. P g (put t p S.plan a)) (sym (put_other t Preparing S.stage a (differs a b)))
        (subst (P (S.stage a)) (sym (put_other t p S.plan a (differs a b))) x)

    und : (a : ℕ) → S.begun a ≡ true → open_by (decided S a) (put t Preparing S.stage a) (S.intent a) ≡ true → undecided S a ≡ true
    und a b u = subst (λ g. open_by (decided S a) g (S.intent a) ≡ true) (put_other t Preparing S.stage a (differs a b)) u

    active : (a : ℕ) → S.conf a ≡ true → (open_by (decided S a) (put t Preparing S.stage a) (S.intent a) ≡ true) ⊎ (is_latest S a ≡ true) →
        IsActive S a
    active a ca (inl u) = inl (und a (c.fresh.conf a ca) u)
    active a ca (inr l) = inr l

    journal : Journal (changed S (Begin t p))
    journal = record {
      plan = λ d i. c.journal.plan d i ∙ sym
          (put_other t p S.plan d.top (differs d.top (taken_begun d.top (c.coordinators.decided_taken d.top (in_decided S.tops d i)))));
      got = c.journal.got;
      plain = c.journal.plain;
      counted = c.journal.counted;
    }
