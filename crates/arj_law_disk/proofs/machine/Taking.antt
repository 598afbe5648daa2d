-- A store's Yes is taken while the prepare step runs.
use Rattle.arj_law_disk.proofs.Terms
use Terms.{◌≡◌, ◌⊎◌, ℕ, true, false, Some, is_some, refl, sym, ◌∙◌, ap, subst, inl, inr, ⊎_elim, Journal, Core, changed, Take, State, Hold}
use Terms.{Preparing, is_open, is_sealed, is_gone, decided, undecided, lists, target, hold, entry_after, last, last_entry, IsExcused, has}
use Terms.{put, put2}
use Rattle.arj_law_disk.proofs.machine.{Base.put_cases, Base.put2_true, Base.put2_rises, Base.gone_sealed, History.in_decided}

pub core_took : (S : State) (t s : ℕ) → S.stage t ≡ Preparing → target (S.plan t) s ≡ true →
    (undecided S t ≡ true → S.pend s ≡ Some (hold S t)) → Core S → Core (changed S (Take t s))
core_took S t s is sent kept c = record {
  journal = journal;
  coordinators = record {
    conf_sealed = c.coordinators.conf_sealed;
    light_sealed = c.coordinators.light_sealed;
    decided_taken = c.coordinators.decided_taken;
    decided_closed = c.coordinators.decided_closed;
    record_sealed = c.coordinators.record_sealed;
    record_taken = c.coordinators.record_taken;
    record_lists = λ a nodes i m g. by a m (has m nodes ≡ true) (λ e f. unsealed a e (c.coordinators.record_sealed a (ap is_some i)))
        (λ h. c.coordinators.record_lists a nodes i m h) g;
    record_names = c.coordinators.record_names;
    got_target = λ a m g. by a m (target (S.plan a) m ≡ true) (λ e f. subst (λ n. target (S.plan n) m ≡ true) (sym e)
        (subst (λ n. target (S.plan t) n ≡ true) (sym f) sent)) (c.coordinators.got_target a m) g;
  };
  fresh = record {
    begun = c.fresh.begun;
    open_begun = c.fresh.open_begun;
    conf = c.fresh.conf;
    light = c.fresh.light;
    got = λ a m g. by a m (S.begun a ≡ true) (λ e f. ap S.begun e ∙ c.fresh.open_begun t (ap is_open is)) (c.fresh.got a m) g;
    pend = c.fresh.pend;
    went = c.fresh.went;
    entry = c.fresh.entry;
  };
  bare = c.bare;
  forms = c.forms;
  history = c.history;
  firm = record {
    kept = λ a m u g. by a m (S.pend m ≡ Some (hold S a)) (λ e f. subst (λ n. S.pend m ≡ Some (hold S n)) (sym e)
        (subst (λ n. S.pend n ≡ Some (hold S t)) (sym f) (kept (ap (undecided S) (sym e) ∙ u)))) (c.firm.kept a m u) g;
    done = λ a m d g. by a m ((S.pend m ≡ Some (hold S a)) ⊎ (S.went a m ≡ true)) (λ e f. absurd (undone a e d)) (c.firm.done a m d) g;
    listed = λ a m d g. by a m ((lists S a m ≡ true) ⊎ (S.went a m ≡ true)) (λ e f. absurd (undone a e d)) (c.firm.listed a m d) g;
    went = c.firm.went;
  };
  light = record {
    plain = c.light.plain;
    none = λ a m l. subst (λ f. f m ≡ false) (sym (stays a (c.coordinators.light_sealed a l))) (c.light.none a m l);
    other = c.light.other;
    late = c.light.late;
  };
  alone = c.alone;
  covered = record {
    stores = λ a m ca act w l.
        subst (λ f. (f m ≡ true) ⊎ IsExcused S a m) (sym (stays a (c.coordinators.conf_sealed a ca))) (c.covered.stores a m ca act w l);
    own = λ a h ca u pe top. subst (λ f. h.new ≡ entry_after a (S.plan a) f (last_entry S))
        (sym (stays a (c.coordinators.conf_sealed a ca))) (c.covered.own a h ca u pe top);
    rest = λ a ca u non. subst (λ f. entry_after a (S.plan a) f (last_entry S) ≡ last_entry S)
        (sym (stays a (c.coordinators.conf_sealed a ca))) (c.covered.rest a ca u non);
    joins = λ a m ca u j. subst (λ f. f m ≡ true →
        (h : Hold) × (S.entry_pend ≡ Some h) × (h.top ≡ a)) (sym (stays a (c.coordinators.conf_sealed a ca))) (c.covered.joins a m ca u j);
    plain = c.covered.plain;
  };
  pending = record {
    sealed = c.pending.sealed;
    open_conf = c.pending.open_conf;
    done_conf = c.pending.done_conf;
    listed = c.pending.listed;
    new = λ h m pe i. ⊎_elim (λ (x : has m S.entry.content ≡ true). inl x)
        (λ (x : S.got h.top m ≡ true). inr (put2_rises t s S.got h.top m x)) (c.pending.new h m pe i);
    stores = c.pending.stores;
    held = c.pending.held;
  };
  effective = record {
    entry = c.effective.entry;
    store = c.effective.store;
    late = λ m h l pe d. ⊎_elim (λ (x : (lists S h.top m ≡ true) × (S.got h.top m ≡ true)). inl (x.0, put2_rises t s S.got h.top m x.1))
        (λ (x : S.held m ≡ Some (last S)). inr x) (c.effective.late m h l pe d);
  };
}
  where
    by : (a m : ℕ) (P : Type 0) → (a ≡ t → m ≡ s → P) → (S.got a m ≡ true → P) → put2 t s true S.got a m ≡ true → P
    by a m P new old g = ⊎_elim (λ (x : (a ≡ t) × (m ≡ s)). new x.0 x.1) (λ (x : S.got a m ≡ true). old x) (put2_true t s S.got a m g)

    unsealed : {P : Type 0} (a : ℕ) → a ≡ t → is_sealed (S.stage a) ≡ true → P
    unsealed a e h = let n : false ≡ true = sym (ap is_sealed (ap S.stage e ∙ is)) ∙ h in cc

    undone : (a : ℕ) → a ≡ t → decided S a ≡ true → ⊥
    undone a e d = let n : false ≡ true = sym (ap is_gone (ap S.stage e ∙ is)) ∙ c.coordinators.decided_closed a d in cc

    -- a top that has ended its prepare step is another one
    stays : (a : ℕ) → is_sealed (S.stage a) ≡ true → put2 t s true S.got a ≡ S.got a
    stays a h = put_cases (λ f. f ≡ S.got a) t (put s true (S.got t)) S.got a (λ e. unsealed a e h) (λ e. refl)

    journal : Journal (changed S (Take t s))
    journal = record {
      plan = c.journal.plan;
      got = λ d i. c.journal.got d i
          ∙ sym (stays d.top (gone_sealed (S.stage d.top) (c.coordinators.decided_closed d.top (in_decided S.tops d i))));
      plain = c.journal.plain;
      counted = c.journal.counted;
    }
