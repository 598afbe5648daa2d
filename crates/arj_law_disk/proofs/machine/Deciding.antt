-- A top's decision: what it prepared becomes the last state, and its list the last one.
use Rattle.arj_law_disk.proofs.Terms
use Terms.{◌≡◌, ◌⊎◌, ℕ, ◌+◌, List, ◌∷◌, Bool, true, false, cond, ◌==◌, ◌||◌, not, Option, Some, None, is_some, unwrap_or, refl, sym, ◌∙◌}
use Terms.{ap, subst, inl, inr, ⊎_elim, Journal, Core, Coordinators, Fresh, Bare, History, IsActive, Pending, changed, Decide, Done, State}
use Terms.{Packed, Hold, Gone, naming, is_open, is_gone, open_by, decided, undecided, lists, listed_by, target, state_for, hold}
use Terms.{entry_after, last, last_entry, effective_by, Known, Below, is_latest, Listed, IsExcused, has, put, In}
use Rattle.arj_law_disk.proofs.machine
use machine.{Entries.pending_last}
use machine.Base.{bool_cases, put_cases, put_same, test_cases, test_is, test_same, test_not, differs, or_cases, or_left, or_right, not_true}
use machine.Base.{never, never_some, some_is, open_done, open_parts, open_made, below_both}
use machine.History.{known_below, known_more, effective_none, effective_done}
use machine.Listing.{list_from, entry_content, plain_target}
use machine.Stages.{Ages, ages_gone, coordinators_age, fresh_ages}
use Rattle.arj_law_disk.specs.machine.{Core.Firm, Effects.done_of}

pub core_decided : (S : State) (t : ℕ) → is_some (S.intent t) ≡ true → decided S t ≡ false → Core S → Core (changed S (Decide t))
core_decided S t recorded undone c = by (bool_cases (S.light t)) (c.coordinators.record_taken t recorded)
  where
    V : State
    V = record S { stage = put t Gone S.stage; tops = done_of S t ∷ S.tops }

    ages : Ages S.stage (put t Gone S.stage)
    ages = ages_gone t S.stage

    open_t : undecided S t ≡ true
    open_t = open_made (decided S t) (S.stage t) (S.intent t) undone (inr recorded)

    begun_t : S.begun t ≡ true
    begun_t = ⊎_elim (λ (h : S.conf t ≡ true). c.fresh.conf t h) (λ (h : S.light t ≡ true). c.fresh.light t h)
        (c.coordinators.record_taken t recorded)

    rises : (a : ℕ) → decided S a ≡ true → ((t == a) || decided S a) ≡ true
    rises a d = or_right (t == a) (decided S a) d

    cases : (a : ℕ) → ((t == a) || decided S a) ≡ true → (t ≡ a) ⊎ (decided S a ≡ true)
    cases a d =
        ⊎_elim (λ (e : (t == a) ≡ true). inl (test_is t a e)) (λ (e : decided S a ≡ true). inr e) (or_cases (t == a) (decided S a) d)

    now : ((t == t) || decided S t) ≡ true
    now = or_left (t == t) (decided S t) (test_same t)

    -- another top's decision is as it was
    others : (a : ℕ) → (t ≡ a → ⊥) → ((t == a) || decided S a) ≡ decided S a
    others a n = ap (λ b. b || decided S a) (test_not t a n)

    closed : (a : ℕ) → undecided V a ≡ true → t ≡ a → ⊥
    closed a u e = never (or_left (t == a) (decided S a) (subst (λ n. (t == n) ≡ true) e (test_same t)))
        (open_done ((t == a) || decided S a) (put t Gone S.stage a) (S.intent a) u)

    falls : (a : ℕ) → undecided V a ≡ true → undecided S a ≡ true
    falls a u = open_made (decided S a) (S.stage a) (S.intent a)
        (sym (others a (closed a u)) ∙ open_done ((t == a) || decided S a) (put t Gone S.stage a) (S.intent a) u)
        (⊎_elim (λ (o : is_open (put t Gone S.stage a) ≡ true). inl (ages.opens a o)) (λ (i : is_some (S.intent a) ≡ true). inr i)
        (open_parts ((t == a) || decided S a) (put t Gone S.stage a) (S.intent a) u))

    nodes : (m : ℕ) → ((l : List ℕ) → S.intent t ≡ Some l → has m l ≡ true) → lists S t m ≡ true
    nodes m all = at (S.intent t) refl recorded
      where
        at : (o : Option (List ℕ)) → S.intent t ≡ o → is_some o ≡ true → lists S t m ≡ true
        at None e r = let n : false ≡ true = r in cc
        at (Some l) e r = ap (λ o. listed_by o m) e ∙ all l e

    lists_store : (s : ℕ) → S.got t s ≡ true → lists S t s ≡ true
    lists_store s g = nodes s (λ l e. c.coordinators.record_lists t l e s g)

    lists_naming : lists S t naming ≡ true
    lists_naming = nodes naming (λ l e. c.coordinators.record_names t l e)

    coordinators : Coordinators V
    coordinators =
        let o = coordinators_age S (put t Gone S.stage) S.bare ages c.coordinators in
        record {
          conf_sealed = o.conf_sealed;
          light_sealed = o.light_sealed;
          decided_taken = λ a d. ⊎_elim (λ (e : t ≡ a). subst (λ n. (S.conf n ≡ true) ⊎ (S.light n ≡ true)) e
              (c.coordinators.record_taken t recorded)) (λ (e : decided S a ≡ true). c.coordinators.decided_taken a e) (cases a d);
          decided_closed = λ a d. ⊎_elim (λ (e : t ≡ a). subst (λ n. is_gone (put t Gone S.stage n) ≡ true) e
              (ap is_gone (put_same t Gone S.stage))) (λ (e : decided S a ≡ true). o.decided_closed a e) (cases a d);
          record_sealed = o.record_sealed;
          record_taken = o.record_taken;
          record_lists = o.record_lists;
          record_names = o.record_names;
          got_target = o.got_target;
        }

    fresh : Fresh V
    fresh = let o = fresh_ages S (put t Gone S.stage) S.intent S.bare ages c.fresh in record {
      begun = o.begun;
      open_begun = o.open_begun;
      conf = o.conf;
      light = o.light;
      got = o.got;
      pend = o.pend;
      went = o.went;
      entry = o.entry;
    }

    bare : Bare V
    bare = record {
      gone = λ a b. ages.gone a (c.bare.gone a b);
      no_record = c.bare.no_record;
      undone = λ a b. others a (λ e. never recorded (ap is_some (ap S.intent e ∙ c.bare.no_record a b))) ∙ c.bare.undone a b;
      untouched = c.bare.untouched;
      taken = c.bare.taken;
    }

    history : ((w : Packed) → (S.plan t).writes ≡ Some w → w.version ≡ (last S).version + 1) → History V
    history next = record {
      held = λ s g h. known_more S t g (c.history.held s g h);
      done = λ a s d goal. ⊎_elim (λ (e : t ≡ a). subst (λ n. target (S.plan n) s ≡ true → Known V (state_for (S.plan n))) e (mine s (S.plan
          t).writes refl) goal) (λ (e : decided S a ≡ true). known_more S t (state_for (S.plan a)) (c.history.done a s e goal)) (cases a d);
      loaded = λ a s b j. known_more S t (S.plan a).loaded (c.history.loaded a s b j);
      chain = (next, c.history.chain);
      past = c.history.past;
    }
      where
        mine : (s : ℕ) (o : Option Packed) → (S.plan t).writes ≡ o → target (S.plan t) s ≡ true → Known V (state_for (S.plan t))
        mine s None e goal = known_more S t (state_for (S.plan t)) (subst (Known S) (sym (ap (λ x. unwrap_or x (S.plan t).loaded) e))
            (c.history.loaded t s begun_t (plain_target (S.plan t) s e goal)))
        mine s (Some w) e goal = inl (inl (e ∙ ap Some (sym (ap (λ x. unwrap_or x (S.plan t).loaded) e))))

    journal : Journal V
    journal = record {
      plan = λ d i. by_head d i (λ x. x.plan ≡ S.plan x.top) refl (c.journal.plan d);
      got = λ d i. by_head d i (λ x. x.got ≡ S.got x.top) refl (c.journal.got d);
      plain = λ d i.
          by_head d i (λ x. x.counts ≡ false → x.plan.writes ≡ None) (λ n. c.light.plain t (not_not (S.light t) n)) (c.journal.plain d);
      counted = λ d i. by_head d i (λ x. x.counts ≡ true → S.conf x.top ≡ true) (λ n. ⊎_elim (λ (h : S.conf t ≡ true). h) (λ (h : S.light t
          ≡ true). absurd (never h (not_true (S.light t) n))) (c.coordinators.record_taken t recorded)) (c.journal.counted d);
    }
      where
        by_head : (d : Done) → In d (done_of S t ∷ S.tops) → (P : Done → Type 0) → P (done_of S t) → (In d S.tops → P d) → P d
        by_head d (inl e) P here there = subst P e here
        by_head d (inr i) P here there = there i

        not_not : (b : Bool) → not b ≡ false → b ≡ true
        not_not true e = refl
        not_not false e = let n : true ≡ false = e in cc

    firm : Firm V
    firm = record {
      kept = λ a s u g. c.firm.kept a s (falls a u) g;
      done = λ a s d g. ⊎_elim (λ (e : t ≡ a). inl (subst (λ n. S.got n s ≡ true →
          S.pend s ≡ Some (hold S n)) e (c.firm.kept t s open_t) g)) (λ (e : decided S a ≡ true). c.firm.done a s e g) (cases a d);
      listed = λ a s d g. ⊎_elim (λ (e : t ≡ a). inl (subst (λ n. S.got n s ≡ true → lists S n s ≡ true) e (lists_store s) g))
          (λ (e : decided S a ≡ true). c.firm.listed a s e g) (cases a d);
      went = λ a s w. let o = c.firm.went a s w in (rises a o.0, o.1);
    }

    pending : Pending V
    pending = record {
      sealed = λ h pe. ages.sealed h.top (c.pending.sealed h pe);
      open_conf = λ h pe u. c.pending.open_conf h pe (falls h.top u);
      done_conf = λ h pe d. ⊎_elim (λ (e : t ≡ h.top). c.pending.open_conf h pe (subst (λ n. undecided S n ≡ true) e open_t))
          (λ (e : decided S h.top ≡ true). c.pending.done_conf h pe e) (cases h.top d);
      listed = λ h pe d. ⊎_elim (λ (e : t ≡ h.top). subst (λ n. lists S n naming ≡ true) e lists_naming)
          (λ (e : decided S h.top ≡ true). c.pending.listed h pe e) (cases h.top d);
      new = c.pending.new;
      stores = c.pending.stores;
      held = c.pending.held;
    }

    excused : (a s : ℕ) → IsExcused S a s → IsExcused V a s
    excused a s x = record { by_entry = x.by_entry; there = x.there; whose = whose x.whose; lacks = x.lacks }
      where
        whose : (x.by_entry.top ≡ a) ⊎ ((decided S x.by_entry.top ≡ true) × (S.root x.by_entry.top ≡ S.root a)) →
            (x.by_entry.top ≡ a) ⊎ ((decided V x.by_entry.top ≡ true) × (S.root x.by_entry.top ≡ S.root a))
        whose (inl e) = inl e
        whose (inr p) = inr (rises x.by_entry.top p.0, p.1)

    or_excused : (a s : ℕ) → (S.got a s ≡ true) ⊎ IsExcused S a s → (S.got a s ≡ true) ⊎ IsExcused V a s
    or_excused a s (inl g) = inl g
    or_excused a s (inr x) = inr (excused a s x)

    -- what will be held where another top is prepared
    same_effective : (A : Type 0) (some : Packed → A) (o : Option Hold) (held : A) → ((h : Hold) → o ≡ Some h → t ≡ h.top → ⊥) →
        effective_by (decided V) some o held ≡ effective_by (decided S) some o held
    same_effective A some None held n = refl
    same_effective A some (Some h) held n = ap (λ b. cond b (some h.new) held) (others h.top (n h refl))

    -- a confirmed top that changes nothing
    by_light : S.light t ≡ true → Core V
    by_light l = record {
      journal = journal;
      coordinators = coordinators;
      fresh = fresh;
      bare = bare;
      forms = c.forms;
      history = history (λ w e. absurd (never_some e plain));
      firm = firm;
      light = record {
        plain = c.light.plain;
        none = c.light.none;
        other = c.light.other;
        late = λ a s h la u pe top i. c.light.late a s h la (falls a u) pe top (old s i) ∙ ap Some (sym same_last);
      };
      alone = record {
        one = λ a z ca ua cz uz. c.alone.one a z ca (falls a ua) cz (falls z uz);
        next = λ a w ca ua e. c.alone.next a w ca (falls a ua) e ∙ ap (λ (x : Packed). x.version + 1) (sym same_last);
        loaded = λ a s ca ua j. c.alone.loaded a s ca (falls a ua) j ∙ sym same_last;
      };
      covered = record {
        stores = λ a s ca act w x. or_excused a s (c.covered.stores a s ca (active a act) w (listed s x));
        own = λ a h ca u pe top. c.covered.own a h ca (falls a u) pe top ∙ ap (entry_after a (S.plan a) (S.got a)) (sym same_entry);
        rest = λ a ca u non. ap (entry_after a (S.plan a) (S.got a)) same_entry ∙ (c.covered.rest a ca (falls a u) non ∙ sym same_entry);
        joins = λ a s ca u. c.covered.joins a s ca (falls a u);
        plain = λ a ca u. c.covered.plain a ca (falls a u);
      };
      pending = pending;
      effective = record {
        entry = same_effective Packed (λ (e : Packed). e) S.entry_pend S.entry (λ h pe e. not_mine h pe e)
            ∙ (c.effective.entry ∙ sym same_entry);
        store = λ s i. store s (old s i) (S.pend s) refl ∙ ap Some (sym same_last);
        late = λ s h i p d. ⊎_elim
            (λ (e : t ≡ h.top). inr (c.light.late t s h l open_t p (sym e) (old s i) ∙ ap Some (sym same_last)))
            (λ (e : decided S h.top ≡ true). ⊎_elim (λ (x : (lists S h.top s ≡ true) × (S.got h.top s ≡ true)). inl x)
            (λ (x : S.held s ≡ Some (last S)). inr (x ∙ ap Some (sym same_last))) (c.effective.late s h (old s i) p e))
            (cases h.top d);
      };
    }
      where
        plain : (S.plan t).writes ≡ None
        plain = c.light.plain t l

        same_last : last V ≡ last S
        same_last = ap (λ o. unwrap_or o (last S)) plain

        same_entry : last_entry V ≡ last_entry S
        same_entry = ap (λ b. cond (not b) (entry_after t (S.plan t) (S.got t) (last_entry S)) (last_entry S)) l

        old : (s : ℕ) → has s (last_entry V).content ≡ true → has s (last_entry S).content ≡ true
        old s i = subst (λ (e : Packed). has s e.content ≡ true) same_entry i

        listed : (s : ℕ) → Listed V s → Listed S s
        listed s (inl i) = inl i
        listed s (inr i) = inr (old s i)

        active : (a : ℕ) → IsActive V a → IsActive S a
        active a (inl u) = inl (falls a u)
        active a (inr x) = inr (subst (λ b. cond (not b) (t == a) (is_latest S a) ≡ true) l x)

        not_mine : (h : Hold) → S.entry_pend ≡ Some h → t ≡ h.top → ⊥
        not_mine h pe e = never (c.pending.open_conf h pe (subst (λ n. undecided S n ≡ true) e open_t))
            (subst (λ n. S.conf n ≡ false) e (c.light.other t l))

        store : (s : ℕ) → has s (last_entry S).content ≡ true → (o : Option Hold) → S.pend s ≡ o →
            effective_by (decided V) Some o (S.held s) ≡ Some (last S)
        store s i None p = sym (effective_none (decided S) Some (S.pend s) (S.held s) p) ∙ c.effective.store s i
        store s i (Some h) p = ⊎_elim
            (λ (e : t ≡ h.top).
            let held = c.light.late t s h l open_t p (sym e) i in
            let up = c.forms.below s h (last S) p held in
            let sent = subst (λ n. target (S.plan n) s ≡ true) (sym e) (c.forms.sent s h p) in
            let known = c.history.loaded t s begun_t (plain_target (S.plan t) s plain sent) in
            let state = c.forms.state s h p ∙ (ap (λ n. state_for (S.plan n)) (sym e) ∙ ap (λ o. unwrap_or o (S.plan t).loaded) plain) in
            let down = subst (λ (x : Packed). Below x (last S)) (sym state) (known_below S (S.plan t).loaded c.history known) in
            effective_done (decided V) Some (Some h) h (S.held s) refl (subst (λ n. decided V n ≡ true) e now)
            ∙ ap Some (below_both h.new (last S) down up))
            (λ (e : (t == h.top) ≡ false). same_effective (Option Packed) Some (Some h) (S.held s) (λ k q. differs_hold k q e)
            ∙ (ap (λ o. effective_by (decided S) Some o (S.held s)) (sym p) ∙ c.effective.store s i))
            (test_cases t h.top)
          where
            differs_hold : (k : Hold) → ◌≡◌ {A = Option Hold} (Some h) (Some k) → (t == h.top) ≡ false → t ≡ k.top → ⊥
            differs_hold k q e f = let same : h ≡ k = cc in differs t h.top e (f ∙ ap (λ (x : Hold). x.top) (sym same))

    -- a confirmed top that changes the object or its list
    by_conf : S.light t ≡ false → S.conf t ≡ true → Core V
    by_conf l ct = record {
      journal = journal;
      coordinators = coordinators;
      fresh = fresh;
      bare = bare;
      forms = c.forms;
      history = history (λ w e. c.alone.next t w ct open_t e);
      firm = firm;
      light = record {
        plain = c.light.plain;
        none = c.light.none;
        other = c.light.other;
        late = λ a s h la u pe top i. ⊎_elim
            (λ (g : S.got t s ≡ true). absurd (closed a u (ap (λ (x : Hold). x.top) (some_is (c.firm.kept t s open_t g) pe) ∙ top)))
            (λ (x : ((S.plan t).writes ≡ None) × (has s (last_entry S).content ≡ true) × (target (S.plan t) s ≡ false)).
            c.light.late a s h la (falls a u) pe top x.1 ∙ ap Some (sym (same_last x.0)))
            (new s i);
      };
      alone = record {
        one = λ a z ca ua. absurd (vacuous a ca ua);
        next = λ a w ca ua. absurd (vacuous a ca ua);
        loaded = λ a s ca ua. absurd (vacuous a ca ua);
      };
      covered = record {
        stores = λ a s ca act w x. stores a s ca w x (active a act);
        own = λ a h ca ua. absurd (vacuous a ca ua);
        rest = λ a ca ua. absurd (vacuous a ca ua);
        joins = λ a s ca ua. absurd (vacuous a ca ua);
        plain = λ a ca ua. absurd (vacuous a ca ua);
      };
      pending = pending;
      effective = record {
        entry = entry S.entry_pend refl ∙ sym is_entry;
        store = λ s i. ⊎_elim
            (λ (g : S.got t s ≡ true). effective_done (decided V) Some (S.pend s) (hold S t) (S.held s) (c.firm.kept t s open_t g) now
            ∙ ap Some (state s g (S.plan t).writes refl))
            (λ (x : ((S.plan t).writes ≡ None) × (has s (last_entry S).content ≡ true) × (target (S.plan t) s ≡ false)).
            same_effective (Option Packed) Some (S.pend s) (S.held s) (λ h p e. untouched s x.2 h p e)
            ∙ (c.effective.store s x.1 ∙ ap Some (sym (same_last x.0))))
            (new s i);
        late = λ s h i p d. ⊎_elim
            (λ (g : S.got t s ≡ true). let e = ap (λ (x : Hold). x.top) (some_is (c.firm.kept t s open_t g) p) in
            inl (subst (λ n. lists S n s ≡ true) e (lists_store s g), subst (λ n. S.got n s ≡ true) e g))
            (λ (x : ((S.plan t).writes ≡ None) × (has s (last_entry S).content ≡ true) × (target (S.plan t) s ≡ false)). ⊎_elim
            (λ (e : t ≡ h.top). absurd (untouched s x.2 h p e))
            (λ (e : decided S h.top ≡ true). ⊎_elim (λ (y : (lists S h.top s ≡ true) × (S.got h.top s ≡ true)). inl y)
            (λ (y : S.held s ≡ Some (last S)). inr (y ∙ ap Some (sym (same_last x.0)))) (c.effective.late s h x.1 p e))
            (cases h.top d))
            (new s i);
      };
    }
      where
        vacuous : (a : ℕ) → S.conf a ≡ true → undecided V a ≡ true → ⊥
        vacuous a ca u = closed a u (c.alone.one t a ct open_t ca (falls a u))

        same_last : (S.plan t).writes ≡ None → last V ≡ last S
        same_last e = ap (λ o. unwrap_or o (last S)) e

        is_entry : last_entry V ≡ entry_after t (S.plan t) (S.got t) (last_entry S)
        is_entry = ap (λ b. cond (not b) (entry_after t (S.plan t) (S.got t) (last_entry S)) (last_entry S)) l

        untouched : (s : ℕ) → target (S.plan t) s ≡ false → (h : Hold) → S.pend s ≡ Some h → t ≡ h.top → ⊥
        untouched s no_target h p e = never (subst (λ n. target (S.plan n) s ≡ true) (sym e) (c.forms.sent s h p)) no_target

        -- a store of the new list has prepared for it, or it isn't concerned
        new : (s : ℕ) → has s (last_entry V).content ≡ true →
            (S.got t s ≡ true) ⊎ (((S.plan t).writes ≡ None) × (has s (last_entry S).content ≡ true) × (target (S.plan t) s ≡ false))
        new s i = from (list_from (S.plan t) (S.got t) (last_entry S).content s
            (subst (λ k. has s k ≡ true) (ap (λ (x : Packed). x.content) is_entry ∙ entry_content t (S.plan t) (S.got t) (last_entry S)) i))
          where
            Goal : Type 0
            Goal = (S.got t s ≡ true) ⊎ (((S.plan t).writes ≡ None) × (has s (last_entry S).content ≡ true) × (target (S.plan t) s ≡ false))

            written : (o : Option Packed) → (S.plan t).writes ≡ o → has s (last_entry S).content ≡ true → target (S.plan t) s ≡ false → Goal
            written None e was no_target = inr (e, was, no_target)
            written (Some w) e was no_target = ⊎_elim (λ (g : S.got t s ≡ true). inl g) (λ (x : IsExcused S t s). absurd (excuse x x.whose))
                (c.covered.stores t s ct (inl open_t) (ap is_some e) (inr was))
              where
                excuse : (x : IsExcused S t s) →
                    (x.by_entry.top ≡ t) ⊎ ((decided S x.by_entry.top ≡ true) × (S.root x.by_entry.top ≡ S.root t)) → ⊥
                excuse x (inl own) = never i
                    (ap (λ (y : Packed). has s y.content) (is_entry ∙ sym (c.covered.own t x.by_entry ct open_t x.there own)) ∙ x.lacks)
                excuse x (inr d) =
                    never was (ap (λ (y : Packed). has s y.content) (sym (pending_last S x.by_entry x.there d.0 c)) ∙ x.lacks)

            from : ((has s (last_entry S).content ≡ true) × (target (S.plan t) s ≡ true → S.got t s ≡ true))
                ⊎ ((has s (S.plan t).joins ≡ true) × (S.got t s ≡ true)) → Goal
            from (inr x) = inl x.1
            from (inl x) = ⊎_elim (λ (goal : target (S.plan t) s ≡ true). inl (x.1 goal))
                (λ (goal : target (S.plan t) s ≡ false). written (S.plan t).writes refl x.0 goal) (bool_cases (target (S.plan t) s))

        active : (a : ℕ) → IsActive V a → (undecided V a ≡ true) ⊎ (t ≡ a)
        active a (inl u) = inl u
        active a (inr x) = inr (test_is t a (subst (λ b. cond (not b) (t == a) (is_latest S a) ≡ true) l x))

        stores : (a s : ℕ) → S.conf a ≡ true → is_some (S.plan a).writes ≡ true → Listed V s → (undecided V a ≡ true) ⊎ (t ≡ a) →
            (S.got a s ≡ true) ⊎ IsExcused V a s
        stores a s ca w x (inl u) = absurd (vacuous a ca u)
        stores a s ca w x (inr e) = subst (λ n. is_some (S.plan n).writes ≡ true → (S.got n s ≡ true) ⊎ IsExcused V n s) e (mine x) w
          where
            mine : Listed V s → is_some (S.plan t).writes ≡ true → (S.got t s ≡ true) ⊎ IsExcused V t s
            mine (inl i) wt = or_excused t s (c.covered.stores t s ct (inl open_t) wt (inl i))
            mine (inr i) wt = ⊎_elim (λ (g : S.got t s ≡ true). inl g) (λ (y : ((S.plan t).writes ≡ None)
                × (has s (last_entry S).content ≡ true) × (target (S.plan t) s ≡ false)). absurd (never wt (ap is_some y.0))) (new s i)

        entry : (o : Option Hold) → S.entry_pend ≡ o →
            effective_by (decided V) (λ (e : Packed). e) o S.entry ≡ entry_after t (S.plan t) (S.got t) (last_entry S)
        entry None p = sym (effective_none (decided S) (λ (e : Packed). e) S.entry_pend S.entry p)
            ∙ (c.effective.entry ∙ sym (c.covered.rest t ct open_t (λ h q. absurd (never_some q p))))
        entry (Some h) p = ⊎_elim
            (λ (e : t ≡ h.top). effective_done (decided V) (λ (x : Packed). x) (Some h) h S.entry refl
            (subst (λ n. decided V n ≡ true) e now) ∙ c.covered.own t h ct open_t p (sym e))
            (λ (e : (t == h.top) ≡ false).
            same_effective Packed (λ (x : Packed). x) (Some h) S.entry (λ k q. differs_hold k q e)
            ∙ (ap (λ o. effective_by (decided S) (λ (x : Packed). x) o S.entry) (sym p) ∙ (c.effective.entry
            ∙ sym (c.covered.rest t ct open_t (λ k q f. differs t h.top e (sym f ∙ ap (λ (x : Hold). x.top) (some_is q p)))))))
            (test_cases t h.top)
          where
            differs_hold : (k : Hold) → ◌≡◌ {A = Option Hold} (Some h) (Some k) → (t == h.top) ≡ false → t ≡ k.top → ⊥
            differs_hold k q e f = let same : h ≡ k = cc in differs t h.top e (f ∙ ap (λ (x : Hold). x.top) (sym same))

        state : (s : ℕ) → S.got t s ≡ true → (o : Option Packed) → (S.plan t).writes ≡ o → state_for (S.plan t) ≡ last V
        state s g None e = ap (λ x. unwrap_or x (S.plan t).loaded) e
            ∙ (c.alone.loaded t s ct open_t (plain_target (S.plan t) s e (c.coordinators.got_target t s g)) ∙ sym (same_last e))
        state s g (Some w) e = ap (λ x. unwrap_or x (S.plan t).loaded) e ∙ sym (ap (λ x. unwrap_or x (last S)) e)

    by : (S.light t ≡ true) ⊎ (S.light t ≡ false) → (S.conf t ≡ true) ⊎ (S.light t ≡ true) → Core V
    by (inl l) h = by_light l
    by (inr l) (inl ct) = by_conf l ct
    by (inr l) (inr lt) = absurd (never lt l)

-- a record is removed once each listed node has acknowledged
pub core_removed : (S : State) (t : ℕ) (nodes : List ℕ) → S.intent t ≡ Some nodes → decided S t ≡ true →
    ((m : ℕ) → has m nodes ≡ true → S.got t m ≡ true → S.went t m ≡ true) → ((h : Hold) → S.entry_pend ≡ Some h → h.top ≡ t → ⊥)
    → Core S → Core (record S { intent = put t None S.intent })
core_removed S t nodes is done landed no_entry c = record {
  journal = c.journal;
  coordinators = record {
    conf_sealed = c.coordinators.conf_sealed;
    light_sealed = c.coordinators.light_sealed;
    decided_taken = c.coordinators.decided_taken;
    decided_closed = c.coordinators.decided_closed;
    record_sealed = λ a i. c.coordinators.record_sealed a (old a (λ o. is_some o ≡ true) (λ n. let x : false ≡ true = n in cc) i);
    record_taken = λ a i. c.coordinators.record_taken a (old a (λ o. is_some o ≡ true) (λ n. let x : false ≡ true = n in cc) i);
    record_lists = λ a ns i.
        c.coordinators.record_lists a ns (old a (λ o. o ≡ Some ns) (λ n. let x : ◌≡◌ {A = Option (List ℕ)} None (Some ns) = n in cc) i);
    record_names = λ a ns i.
        c.coordinators.record_names a ns (old a (λ o. o ≡ Some ns) (λ n. let x : ◌≡◌ {A = Option (List ℕ)} None (Some ns) = n in cc) i);
    got_target = c.coordinators.got_target;
  };
  fresh = c.fresh;
  bare = record {
    gone = c.bare.gone;
    no_record = λ a b. put_cases (λ o. o ≡ None) t None S.intent a (λ e. refl) (λ e. c.bare.no_record a b);
    undone = c.bare.undone;
    untouched = c.bare.untouched;
    taken = c.bare.taken;
  };
  forms = c.forms;
  history = c.history;
  firm = record {
    kept = λ a s u. c.firm.kept a s (falls a u);
    done = c.firm.done;
    listed = λ a s d g. put_cases (λ o. (listed_by o s ≡ true) ⊎ (S.went a s ≡ true)) t None S.intent a
        (λ e. inr (subst (λ n. S.got n s ≡ true → S.went n s ≡ true) (sym e) (landed_by s) g))
        (λ e. c.firm.listed a s d g);
    went = c.firm.went;
  };
  light =
      record { plain = c.light.plain; none = c.light.none; other = c.light.other; late = λ a s h l u. c.light.late a s h l (falls a u) };
  alone = record {
    one = λ a z ca ua cz uz. c.alone.one a z ca (falls a ua) cz (falls z uz);
    next = λ a w ca ua. c.alone.next a w ca (falls a ua);
    loaded = λ a s ca ua. c.alone.loaded a s ca (falls a ua);
  };
  covered = record {
    stores = λ a s ca act. c.covered.stores a s ca (active a act);
    own = λ a h ca u. c.covered.own a h ca (falls a u);
    rest = λ a ca u. c.covered.rest a ca (falls a u);
    joins = λ a s ca u. c.covered.joins a s ca (falls a u);
    plain = λ a ca u. c.covered.plain a ca (falls a u);
  };
  pending = record {
    sealed = c.pending.sealed;
    open_conf = λ h pe u. c.pending.open_conf h pe (falls h.top u);
    done_conf = c.pending.done_conf;
    listed = λ h pe d.
        put_cases (λ o. listed_by o naming ≡ true) t None S.intent h.top (λ e. absurd (no_entry h pe e)) (λ e. c.pending.listed h pe d);
    new = c.pending.new;
    stores = c.pending.stores;
    held = c.pending.held;
  };
  effective = record {
    entry = c.effective.entry;
    store = c.effective.store;
    late =
        λ s h i p d. put_cases (λ o. ((listed_by o s ≡ true) × (S.got h.top s ≡ true)) ⊎ (S.held s ≡ Some (last S))) t None S.intent h.top
        (λ e. inr (late s h i p d e (c.effective.late s h i p d)))
        (λ e. c.effective.late s h i p d);
  };
}
  where
    old : (a : ℕ) (P : Option (List ℕ) → Type 0) → (P None → ⊥) → P (put t None S.intent a) → P (S.intent a)
    old a P none p = put_cases (λ o. P o → P (S.intent a)) t None S.intent a (λ e n. absurd (none n)) (λ e q. q) p

    falls : (a : ℕ) → open_by (decided S a) (S.stage a) (put t None S.intent a) ≡ true → undecided S a ≡ true
    falls a u = put_cases (λ o. open_by (decided S a) (S.stage a) o ≡ true → undecided S a ≡ true) t None S.intent a
        (λ e v. absurd (never (ap (decided S) e ∙ done) (open_done (decided S a) (S.stage a) None v)))
        (λ e v. v)
        u

    active : (a : ℕ) → (open_by (decided S a) (S.stage a) (put t None S.intent a) ≡ true) ⊎ (is_latest S a ≡ true) → IsActive S a
    active a (inl u) = inl (falls a u)
    active a (inr l) = inr l

    landed_by : (s : ℕ) → S.got t s ≡ true → S.went t s ≡ true
    landed_by s g = landed s (c.coordinators.record_lists t nodes is s g) g

    late : (s : ℕ) (h : Hold) → has s (last_entry S).content ≡ true → S.pend s ≡ Some h → decided S h.top ≡ true → h.top ≡ t →
        ((lists S h.top s ≡ true) × (S.got h.top s ≡ true)) ⊎ (S.held s ≡ Some (last S)) → S.held s ≡ Some (last S)
    late s h i p d e (inr x) = x
    late s h i p d e (inl x) =
        let reached = (c.firm.went h.top s (subst (λ n. S.got n s ≡ true → S.went n s ≡ true) (sym e) (landed_by s) x.1)).1 in
        let up = c.forms.below s h reached.0 p reached.1 in
        let down = subst (λ (y : Packed). Below y reached.0) (sym (c.forms.state s h p)) reached.2 in
        reached.1 ∙ (ap Some (below_both reached.0 h.new up down)
        ∙ (sym (effective_done (decided S) Some (S.pend s) h (S.held s) p d) ∙ c.effective.store s i))
