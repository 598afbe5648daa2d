-- A top is confirmed at the naming node.
use Rattle.arj_law_disk.proofs.Terms
use Terms.{◌≡◌, ◌⊎◌, ℕ, ◌+◌, Bool, true, false, ◌||◌, Option, Some, None, is_some, refl, sym, ◌∙◌, ap, subst, inl, inr, ⊎_elim, bytes_eq}
use Terms.{Journal, Core, Coordinators, Bare, changed, marked, Agree, Pass, Enter, Locked, IsClear, new_list, entry_hold, State, Packed}
use Terms.{Hold, is_sealed, decided, undecided, target, entry_after, last, last_entry, Listed, IsExcused, has}
use Rattle.arj_law_disk.proofs.machine
use machine.{Entries.last_listed, History.effective_none, History.effective_open}
use machine.Base.{bool_cases, put_cases, put_same, or_cases, or_left, or_right, never, never_some}
use machine.Listing.{list_from, list_lacks, list_joins, list_same, same_list, entry_same, entry_content, plain_target, find_true, list_is}
use Rattle.arj_law_disk.specs.machine.Effects.{IsUnlisted, NoneIsListed}

-- who is marked was so before, or is the one whose outcome is open
pub marked_cases : (S : State) (t : ℕ) (f : ℕ → Bool) (a : ℕ) → marked S t f a ≡ true → (f a ≡ true) ⊎ ((a ≡ t) × (undecided S t ≡ true))
marked_cases S t f a = put_cases (λ b. b ≡ true → (f a ≡ true) ⊎ ((a ≡ t) × (undecided S t ≡ true))) t (f t || undecided S t) f a
    (λ e h. ⊎_elim (λ (o : f t ≡ true). inl (ap f e ∙ o)) (λ (u : undecided S t ≡ true). inr (e, u)) (or_cases (f t) (undecided S t) h))
    (λ e h. inl h)

pub marked_rises : (S : State) (t : ℕ) (f : ℕ → Bool) (a : ℕ) → f a ≡ true → marked S t f a ≡ true
marked_rises S t f a h =
    put_cases (λ b. b ≡ true) t (f t || undecided S t) f a (λ e. or_left (f t) (undecided S t) (ap f (sym e) ∙ h)) (λ e. h)

pub marked_now : (S : State) (t : ℕ) (f : ℕ → Bool) → undecided S t ≡ true → marked S t f t ≡ true
marked_now S t f u = put_same t (f t || undecided S t) f ∙ or_right (f t) (undecided S t) u

taken_by : {A B C : Type 0} → (A → C) → A ⊎ B → C ⊎ B
taken_by f (inl a) = inl (f a)
taken_by f (inr b) = inr b

-- the groups that say who was confirmed, with one more
coordinators_conf : (S : State) (t : ℕ) → is_sealed (S.stage t) ≡ true → Coordinators S →
    Coordinators (record S { conf = marked S t S.conf })
coordinators_conf S t sealed c = record {
  conf_sealed = λ a h. ⊎_elim (λ (o : S.conf a ≡ true). c.conf_sealed a o)
      (λ (n : (a ≡ t) × (undecided S t ≡ true)). ap (λ x. is_sealed (S.stage x)) n.0 ∙ sealed) (marked_cases S t S.conf a h);
  light_sealed = c.light_sealed;
  decided_taken = λ a d. taken_by (marked_rises S t S.conf a) (c.decided_taken a d);
  decided_closed = c.decided_closed;
  record_sealed = c.record_sealed;
  record_taken = λ a i. taken_by (marked_rises S t S.conf a) (c.record_taken a i);
  record_lists = c.record_lists;
  record_names = c.record_names;
  got_target = c.got_target;
}

journal_conf : (S : State) (t : ℕ) → Journal S → Journal (record S { conf = marked S t S.conf })
journal_conf S t c =
    record { plan = c.plan; got = c.got; plain = c.plain; counted = λ d i n. marked_rises S t S.conf d.top (c.counted d i n) }

bare_conf : (S : State) (t : ℕ) → Bare S → Bare (record S { conf = marked S t S.conf })
bare_conf S t c = record {
  gone = c.gone;
  no_record = c.no_record;
  undone = c.undone;
  untouched = c.untouched;
  taken = λ a b. taken_by (marked_rises S t S.conf a) (c.taken a b);
}

conf_begun : (S : State) (t : ℕ) → S.begun t ≡ true → ((a : ℕ) → S.conf a ≡ true → S.begun a ≡ true) → (a : ℕ) →
    marked S t S.conf a ≡ true → S.begun a ≡ true
conf_begun S t begun old a h = ⊎_elim (λ (o : S.conf a ≡ true). old a o) (λ (n : (a ≡ t) × (undecided S t ≡ true)). ap S.begun n.0 ∙ begun)
    (marked_cases S t S.conf a h)

other_conf : (S : State) (t : ℕ) → (undecided S t ≡ true → Locked S t) → ((a : ℕ) → S.light a ≡ true → S.conf a ≡ false) → (a : ℕ) →
    S.light a ≡ true → marked S t S.conf a ≡ false
other_conf S t locked other a l = ⊎_elim
    (λ (h : marked S t S.conf a ≡ true). ⊎_elim
    (λ (o : S.conf a ≡ true). absurd (never o (other a l)))
    (λ (n : (a ≡ t) × (undecided S t ≡ true)). absurd (never l (ap S.light n.0 ∙ (locked n.1).not_light)))
    (marked_cases S t S.conf a h))
    (λ (h : marked S t S.conf a ≡ false). h)
    (bool_cases (marked S t S.conf a))

-- who is confirmed with an open outcome is alone, also with one more
alone_conf : (S : State) (t : ℕ) → (undecided S t ≡ true → Locked S t) → Core S → (a z : ℕ) → marked S t S.conf a ≡ true →
    undecided S a ≡ true → marked S t S.conf z ≡ true → undecided S z ≡ true → a ≡ z
alone_conf S t locked c a z ca ua cz uz = by (marked_cases S t S.conf a ca) (marked_cases S t S.conf z cz)
  where
    by : (S.conf a ≡ true) ⊎ ((a ≡ t) × (undecided S t ≡ true)) → (S.conf z ≡ true) ⊎ ((z ≡ t) × (undecided S t ≡ true)) → a ≡ z
    by (inl o) (inl p) = c.alone.one a z o ua p uz
    by (inl o) (inr n) = absurd ((locked n.1).alone a o ua)
    by (inr n) (inl p) = absurd ((locked n.1).alone z p uz)
    by (inr n) (inr m) = n.0 ∙ sym m.0

next_conf : (S : State) (t : ℕ) → (undecided S t ≡ true → Locked S t) → Core S → (a : ℕ) (w : Packed) → marked S t S.conf a ≡ true →
    undecided S a ≡ true → (S.plan a).writes ≡ Some w → w.version ≡ (last S).version + 1
next_conf S t locked c a w ca ua e = ⊎_elim (λ (o : S.conf a ≡ true). c.alone.next a w o ua e) (λ (n : (a ≡ t) × (undecided S t ≡ true)).
    (locked n.1).next w (ap (λ x. (S.plan x).writes) (sym n.0) ∙ e)) (marked_cases S t S.conf a ca)

loaded_conf : (S : State) (t : ℕ) → (undecided S t ≡ true → Locked S t) → Core S → (a s : ℕ) → marked S t S.conf a ≡ true →
    undecided S a ≡ true → has s (S.plan a).joins ≡ true → (S.plan a).loaded ≡ last S
loaded_conf S t locked c a s ca ua j = ⊎_elim
    (λ (o : S.conf a ≡ true). c.alone.loaded a s o ua j)
    (λ (n : (a ≡ t) × (undecided S t ≡ true)). ap (λ x. (S.plan x).loaded) n.0
    ∙ (locked n.1).loaded s (ap (λ x. has s (S.plan x).joins) (sym n.0) ∙ j))
    (marked_cases S t S.conf a ca)

pub core_entered : (S : State) (t : ℕ) → S.begun t ≡ true → is_sealed (S.stage t) ≡ true → S.entry_pend ≡ None →
    bytes_eq (new_list S t) S.entry.content ≡ false → (s : ℕ) × (has s (new_list S t) ≡ true) → decided S t ≡ false → IsUnlisted S t →
    (undecided S t ≡ true → Locked S t)
    → Core S → Core (changed S (Enter t))
core_entered S t begun sealed free other stores undone unlisted locked c = record {
  journal = journal_conf S t c.journal;
  coordinators = coordinators_conf S t sealed c.coordinators;
  fresh = record {
    begun = c.fresh.begun;
    open_begun = c.fresh.open_begun;
    conf = conf_begun S t begun c.fresh.conf;
    light = c.fresh.light;
    got = c.fresh.got;
    pend = c.fresh.pend;
    went = c.fresh.went;
    entry = λ h e. subst (λ (x : Hold). S.begun x.top ≡ true) (is h e) begun;
  };
  bare = bare_conf S t c.bare;
  forms = c.forms;
  history = c.history;
  firm = c.firm;
  light = record { plain = c.light.plain; none = c.light.none; other = other_conf S t locked c.light.other; late = c.light.late };
  alone = record { one = alone_conf S t locked c; next = next_conf S t locked c; loaded = loaded_conf S t locked c };
  covered = record {
    stores = λ a s ca act w l. ⊎_elim
        (λ (o : S.conf a ≡ true). ⊎_elim (λ (g : S.got a s ≡ true). inl g) (λ (x : IsExcused S a s). absurd (never_some x.there free))
        (c.covered.stores a s o act w l))
        (λ (n : (a ≡ t) × (undecided S t ≡ true)).
        subst (Fine s) (sym n.0) (mine s ((locked n.1).wide s (ap (λ x. is_some (S.plan x).writes) (sym n.0) ∙ w) l)))
        (marked_cases S t S.conf a ca);
    own = λ a h ca u e top. subst (λ x. h.new ≡ entry_after x (S.plan x) (S.got x) (last_entry S)) (ap (λ (x : Hold). x.top) (is h e) ∙ top)
        (sym (ap (λ (x : Hold). x.new) (is h e)) ∙ ap (entry_after t (S.plan t) (S.got t)) held);
    rest = λ a ca u non. ⊎_elim
        (λ (o : S.conf a ≡ true). c.covered.rest a o u (λ h pe. absurd (never_some pe free)))
        (λ (n : (a ≡ t) × (undecided S t ≡ true)). absurd (non (entry_hold S t) refl (sym n.0)))
        (marked_cases S t S.conf a ca);
    joins = λ a s ca u j g. ⊎_elim
        (λ (o : S.conf a ≡ true). let x = c.covered.joins a s o u j g in absurd (never_some x.1 free))
        (λ (n : (a ≡ t) × (undecided S t ≡ true)). (entry_hold S t, refl, sym n.0))
        (marked_cases S t S.conf a ca);
    plain = λ a ca u e. ⊎_elim
        (λ (o : S.conf a ≡ true). let x = (c.covered.plain a o u e).1 in absurd (never_some x.1 free))
        (λ (n : (a ≡ t) × (undecided S t ≡ true)). (
          subst (λ x. (s : ℕ) × (has s (S.plan x).joins ≡ true)) (sym n.0) (joined (ap (λ x. (S.plan x).writes) (sym n.0) ∙ e)),
          (entry_hold S t, refl, sym n.0),
        ))
        (marked_cases S t S.conf a ca);
  };
  pending = record {
    sealed = λ h e. subst (λ (x : Hold). is_sealed (S.stage x.top) ≡ true) (is h e) sealed;
    open_conf = λ h e u. subst (λ (x : Hold). marked S t S.conf x.top ≡ true) (is h e)
        (marked_now S t S.conf (ap (λ (x : Hold). undecided S x.top) (is h e) ∙ u));
    done_conf = λ h e d. absurd (never d (ap (λ (x : Hold). decided S x.top) (sym (is h e)) ∙ undone));
    listed = λ h e d. absurd (never d (ap (λ (x : Hold). decided S x.top) (sym (is h e)) ∙ undone));
    new = λ h s e i. subst (λ (x : Hold). (has s S.entry.content ≡ true) ⊎ (S.got x.top s ≡ true)) (is h e)
        (new s (subst (λ (x : Hold). has s x.new.content ≡ true) (sym (is h e)) i));
    stores = λ h e. (
      stores.0,
      subst (λ (x : Hold). has stores.0 x.new.content ≡ true) (is h e) (subst (λ l. has stores.0 l ≡ true) (sym content) stores.1),
    );
    held = c.pending.held;
  };
  effective = record {
    entry = effective_open (decided S) (λ (e : Packed). e) (Some (entry_hold S t)) (entry_hold S t) S.entry refl undone ∙ held;
    store = c.effective.store;
    late = c.effective.late;
  };
}
  where
    is : (h : Hold) → ◌≡◌ {A = Option Hold} (Some (entry_hold S t)) (Some h) → entry_hold S t ≡ h
    is h e = cc

    held : S.entry ≡ last_entry S
    held = sym (effective_none (decided S) (λ (e : Packed). e) S.entry_pend S.entry free) ∙ c.effective.entry

    content : (entry_hold S t).new.content ≡ new_list S t
    content = entry_content t (S.plan t) (S.got t) S.entry

    new : (s : ℕ) → has s (entry_hold S t).new.content ≡ true → (has s S.entry.content ≡ true) ⊎ (S.got t s ≡ true)
    new s i = ⊎_elim (λ (x : (has s S.entry.content ≡ true) × (target (S.plan t) s ≡ true → S.got t s ≡ true)). inl x.0)
        (λ (x : (has s (S.plan t).joins ≡ true) × (S.got t s ≡ true)). inr x.1)
        (list_from (S.plan t) (S.got t) S.entry.content s (subst (λ l. has s l ≡ true) content i))

    -- a new list of one that didn't write has a store that it includes, or lacks one
    joined : (S.plan t).writes ≡ None → (m : ℕ) × (has m (S.plan t).joins ≡ true)
    joined e = ⊎_elim
        (λ (x : (m : ℕ) × (has m (S.plan t).joins ≡ true) × (S.got t m ≡ true)). (x.0, x.1))
        (λ (none : (m : ℕ) → has m (S.plan t).joins ≡ true → S.got t m ≡ false). ⊎_elim
        (λ (x : (m : ℕ) × (has m S.entry.content ≡ true) × (target (S.plan t) m ≡ true)). (x.0, plain_target (S.plan t) x.0 e x.2))
        (λ (off : (m : ℕ) → has m S.entry.content ≡ true → target (S.plan t) m ≡ false).
        absurd (never (list_is (new_list S t) S.entry.content
        (list_same (S.plan t) (S.got t) S.entry.content (λ m i goal. absurd (never goal (off m i))) none)) other))
        (find_true (target (S.plan t)) S.entry.content))
        (find_true (S.got t) (S.plan t).joins)

    Fine : ℕ → ℕ → Type 0
    Fine s a = (S.got a s ≡ true) ⊎ IsExcused (changed S (Enter t)) a s

    mine : (s : ℕ) → (target (S.plan t) s ≡ true) ⊎ IsExcused S t s → (S.got t s ≡ true) ⊎ IsExcused (changed S (Enter t)) t s
    mine s (inr x) = absurd (never_some x.there free)
    mine s (inl goal) = ⊎_elim
        (λ (g : S.got t s ≡ true). inl g)
        (λ (g : S.got t s ≡ false). inr (record {
          by_entry = entry_hold S t;
          there = refl;
          whose = inl refl;
          lacks = ap (has s) content ∙ list_lacks (S.plan t) (S.got t) S.entry.content s goal g;
        }))
        (bool_cases (S.got t s))

pub core_agreed : (S : State) (t : ℕ) → S.begun t ≡ true → is_sealed (S.stage t) ≡ true → is_some (S.plan t).writes ≡ true →
    bytes_eq (new_list S t) S.entry.content ≡ true → IsUnlisted S t → IsClear S t → (undecided S t ≡ true → Locked S t)
    → Core S → Core (changed S (Agree t))
core_agreed S t begun sealed wrote same unlisted clear locked c = record {
  journal = journal_conf S t c.journal;
  coordinators = coordinators_conf S t sealed c.coordinators;
  fresh = record {
    begun = c.fresh.begun;
    open_begun = c.fresh.open_begun;
    conf = conf_begun S t begun c.fresh.conf;
    light = c.fresh.light;
    got = c.fresh.got;
    pend = c.fresh.pend;
    went = c.fresh.went;
    entry = c.fresh.entry;
  };
  bare = bare_conf S t c.bare;
  forms = c.forms;
  history = c.history;
  firm = c.firm;
  light = record { plain = c.light.plain; none = c.light.none; other = other_conf S t locked c.light.other; late = c.light.late };
  alone = record { one = alone_conf S t locked c; next = next_conf S t locked c; loaded = loaded_conf S t locked c };
  covered = record {
    stores = λ a s ca act w l. ⊎_elim
        (λ (o : S.conf a ≡ true). c.covered.stores a s o act w l)
        (λ (n : (a ≡ t) × (undecided S t ≡ true)). subst (λ x. (S.got x s ≡ true) ⊎ IsExcused S x s) (sym n.0)
        (mine s l ((locked n.1).wide s (ap (λ x. is_some (S.plan x).writes) (sym n.0) ∙ w) l)))
        (marked_cases S t S.conf a ca);
    own = λ a h ca u pe top. ⊎_elim
        (λ (o : S.conf a ≡ true). c.covered.own a h o u pe top)
        (λ (n : (a ≡ t) × (undecided S t ≡ true)).
        absurd (never (c.pending.open_conf h pe (ap (undecided S) top ∙ u)) (ap S.conf (top ∙ n.0) ∙ (locked n.1).unconfirmed)))
        (marked_cases S t S.conf a ca);
    rest = λ a ca u non. ⊎_elim
        (λ (o : S.conf a ≡ true). c.covered.rest a o u non)
        (λ (n : (a ≡ t) × (undecided S t ≡ true)). subst (λ x. entry_after x (S.plan x) (S.got x) (last_entry S) ≡ last_entry S) (sym n.0)
        (entry_same t (S.plan t) (S.got t) (last_entry S) (list_same (S.plan t) (S.got t) (last_entry S).content last_kept no_joins)))
        (marked_cases S t S.conf a ca);
    joins = λ a s ca u j g. ⊎_elim
        (λ (o : S.conf a ≡ true). c.covered.joins a s o u j g)
        (λ (n : (a ≡ t) × (undecided S t ≡ true)).
        absurd (never (ap (λ x. S.got x s) (sym n.0) ∙ g) (no_joins s (ap (λ x. has s (S.plan x).joins) (sym n.0) ∙ j))))
        (marked_cases S t S.conf a ca);
    plain = λ a ca u e. ⊎_elim
        (λ (o : S.conf a ≡ true). c.covered.plain a o u e)
        (λ (n : (a ≡ t) × (undecided S t ≡ true)). absurd (never wrote (ap is_some (ap (λ x. (S.plan x).writes) (sym n.0) ∙ e))))
        (marked_cases S t S.conf a ca);
  };
  pending = record {
    sealed = c.pending.sealed;
    open_conf = λ h pe u. marked_rises S t S.conf h.top (c.pending.open_conf h pe u);
    done_conf = λ h pe d. marked_rises S t S.conf h.top (c.pending.done_conf h pe d);
    listed = c.pending.listed;
    new = c.pending.new;
    stores = c.pending.stores;
    held = c.pending.held;
  };
  effective = c.effective;
}
  where
    is_same : new_list S t ≡ S.entry.content
    is_same = same_list (new_list S t) S.entry.content same

    -- no included store has prepared, since it would be listed
    no_joins : (s : ℕ) → has s (S.plan t).joins ≡ true → S.got t s ≡ false
    no_joins s j = ⊎_elim
        (λ (g : S.got t s ≡ true).
        absurd (never (subst (λ l. has s l ≡ true) is_same (list_joins (S.plan t) (S.got t) S.entry.content s j g)) (unlisted s j g)))
        (λ (g : S.got t s ≡ false). g)
        (bool_cases (S.got t s))

    -- each listed target has prepared
    held_kept : (s : ℕ) → has s S.entry.content ≡ true → target (S.plan t) s ≡ true → S.got t s ≡ true
    held_kept s i goal = ⊎_elim
        (λ (g : S.got t s ≡ true). g)
        (λ (g : S.got t s ≡ false).
        absurd (never (subst (λ l. has s l ≡ true) (sym is_same) i) (list_lacks (S.plan t) (S.got t) S.entry.content s goal g)))
        (bool_cases (S.got t s))

    last_kept : (s : ℕ) → has s (last_entry S).content ≡ true → target (S.plan t) s ≡ true → S.got t s ≡ true
    last_kept s i goal = ⊎_elim
        (λ (e : has s S.entry.content ≡ true). held_kept s e goal)
        (λ (x : (h : Hold) × (S.entry_pend ≡ Some h) × (decided S h.top ≡ true) × (has s h.new.content ≡ true)). clear x.0 s x.1 x.3 goal)
        (last_listed S s c i)

    mine : (s : ℕ) → Listed S s → (target (S.plan t) s ≡ true) ⊎ IsExcused S t s → (S.got t s ≡ true) ⊎ IsExcused S t s
    mine s l (inr x) = inr x
    mine s (inl e) (inl goal) = inl (held_kept s e goal)
    mine s (inr i) (inl goal) = inl (last_kept s i goal)

pub core_passed : (S : State) (t : ℕ) → S.begun t ≡ true → is_sealed (S.stage t) ≡ true → (S.plan t).writes ≡ None →
    ((s : ℕ) → S.got t s ≡ false) → NoneIsListed S t → IsClear S t → (undecided S t ≡ true → S.conf t ≡ false)
    → Core S → Core (changed S (Pass t))
core_passed S t begun sealed plain none unlisted clear unconfirmed c = record {
  journal = c.journal;
  coordinators = record {
    conf_sealed = c.coordinators.conf_sealed;
    light_sealed = λ a h. by a (λ x. is_sealed (S.stage x) ≡ true) (λ u. sealed) (c.coordinators.light_sealed a) h;
    decided_taken = λ a d. taken (marked_rises S t S.light a) (c.coordinators.decided_taken a d);
    decided_closed = c.coordinators.decided_closed;
    record_sealed = c.coordinators.record_sealed;
    record_taken = λ a i. taken (marked_rises S t S.light a) (c.coordinators.record_taken a i);
    record_lists = c.coordinators.record_lists;
    record_names = c.coordinators.record_names;
    got_target = c.coordinators.got_target;
  };
  fresh = record {
    begun = c.fresh.begun;
    open_begun = c.fresh.open_begun;
    conf = c.fresh.conf;
    light = λ a h. by a (λ x. S.begun x ≡ true) (λ u. begun) (c.fresh.light a) h;
    got = c.fresh.got;
    pend = c.fresh.pend;
    went = c.fresh.went;
    entry = c.fresh.entry;
  };
  bare = record {
    gone = c.bare.gone;
    no_record = c.bare.no_record;
    undone = c.bare.undone;
    untouched = c.bare.untouched;
    taken = λ a b. taken (marked_rises S t S.light a) (c.bare.taken a b);
  };
  forms = c.forms;
  history = c.history;
  firm = c.firm;
  light = record {
    plain = λ a h. by a (λ x. (S.plan x).writes ≡ None) (λ u. plain) (c.light.plain a) h;
    none = λ a s h. by a (λ x. S.got x s ≡ false) (λ u. none s) (c.light.none a s) h;
    other = λ a h. by a (λ x. S.conf x ≡ false) unconfirmed (c.light.other a) h;
    late = λ a s h l u pe top i. by a (λ x. h.top ≡ x →
        S.held s ≡ Some (last S)) (λ u e. absurd (never_mine s h pe e i)) (λ o. λ e. c.light.late a s h o u pe e i) l top;
  };
  alone = c.alone;
  covered = c.covered;
  pending = c.pending;
  effective = c.effective;
}
  where
    taken : {A B C : Type 0} → (B → C) → A ⊎ B → A ⊎ C
    taken f (inl a) = inl a
    taken f (inr b) = inr (f b)

    by : (a : ℕ) (P : ℕ → Type 0) → (undecided S t ≡ true → P t) → (S.light a ≡ true → P a) → marked S t S.light a ≡ true → P a
    by a P here there h = ⊎_elim (λ (o : S.light a ≡ true). there o)
        (λ (n : (a ≡ t) × (undecided S t ≡ true)). subst P (sym n.0) (here n.1)) (marked_cases S t S.light a h)

    -- no target of it is listed
    never_mine : (s : ℕ) (h : Hold) → S.pend s ≡ Some h → h.top ≡ t → has s (last_entry S).content ≡ true → ⊥
    never_mine s h pe top i = ⊎_elim
        (λ (e : has s S.entry.content ≡ true). never e (unlisted s (plain_target (S.plan t) s plain goal)))
        (λ (x : (k : Hold) × (S.entry_pend ≡ Some k) × (decided S k.top ≡ true) × (has s k.new.content ≡ true)).
        never (clear x.0 s x.1 x.3 goal) (none s))
        (last_listed S s c i)
      where
        goal : target (S.plan t) s ≡ true
        goal = subst (λ x. target (S.plan x) s ≡ true) top (c.forms.sent s h pe)
