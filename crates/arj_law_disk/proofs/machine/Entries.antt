-- The end of a prepared entry at the naming node.
use Rattle.arj_law_disk.proofs.Terms
use Terms.{◌≡◌, ◌⊎◌, ℕ, true, false, Option, Some, None, refl, sym, ◌∙◌, ap, subst, inl, inr, ⊎_elim, Core, IsActive, changed, MoveEntry}
use Terms.{FinishEntry, DropEntry, State, Packed, Hold, naming, decided, undecided, lists, last_entry, Listed, IsExcused, has}
use Rattle.arj_law_disk.proofs.machine
use machine.{Listing.latest_decided}
use machine.Base.{bool_cases, never, some_is, open_done}
use machine.History.{effective_none, effective_done, effective_open}

-- a decided top's prepared entry is the last one
pub pending_last : (S : State) (h : Hold) → S.entry_pend ≡ Some h → decided S h.top ≡ true → Core S → h.new ≡ last_entry S
pending_last S h prepared done c =
    sym (effective_done (decided S) (λ (e : Packed). e) S.entry_pend h S.entry prepared done) ∙ c.effective.entry

-- a store of the last entry is in the committed one, or in one that a decided top has prepared
pub last_listed : (S : State) (s : ℕ) → Core S → has s (last_entry S).content ≡ true →
    (has s S.entry.content ≡ true) ⊎ ((h : Hold) × (S.entry_pend ≡ Some h) × (decided S h.top ≡ true) × (has s h.new.content ≡ true))
last_listed S s c i = by S.entry_pend refl
  where
    is_entry : S.entry ≡ last_entry S → has s S.entry.content ≡ true
    is_entry e = subst (λ (x : Packed). has s x.content ≡ true) (sym e) i

    by : (o : Option Hold) → S.entry_pend ≡ o →
        (has s S.entry.content ≡ true) ⊎ ((h : Hold) × (S.entry_pend ≡ Some h) × (decided S h.top ≡ true) × (has s h.new.content ≡ true))
    by None e = inl (is_entry (sym (effective_none (decided S) (λ (x : Packed). x) S.entry_pend S.entry e) ∙ c.effective.entry))
    by (Some h) e = ⊎_elim
        (λ (d : decided S h.top ≡ true). inr (h, e, d, subst (λ (x : Packed). has s x.content ≡ true) (sym (pending_last S h e d c)) i))
        (λ (d : decided S h.top ≡ false).
        inl (is_entry (sym (effective_open (decided S) (λ (x : Packed). x) S.entry_pend h S.entry e d) ∙ c.effective.entry)))
        (bool_cases (decided S h.top))

pub core_entry_moved : (S : State) (h : Hold) → S.entry_pend ≡ Some h → decided S h.top ≡ true → Core S → Core (changed S (MoveEntry h))
core_entry_moved S h prepared done c = record {
  journal = c.journal;
  coordinators = c.coordinators;
  fresh = c.fresh;
  bare = c.bare;
  forms = c.forms;
  history = c.history;
  firm = c.firm;
  light = c.light;
  alone = c.alone;
  covered = record {
    stores = λ a s ca act w l. c.covered.stores a s ca act w (listed s l);
    own = c.covered.own;
    rest = c.covered.rest;
    joins = c.covered.joins;
    plain = c.covered.plain;
  };
  pending = record {
    sealed = c.pending.sealed;
    open_conf = c.pending.open_conf;
    done_conf = c.pending.done_conf;
    listed = c.pending.listed;
    new = λ k s pe i. inl (subst (λ (x : Hold). has s x.new.content ≡ true) (some_is pe prepared) i);
    stores = c.pending.stores;
    held = c.pending.stores h prepared;
  };
  effective = record {
    entry = effective_done (decided S) (λ (e : Packed). e) S.entry_pend h h.new prepared done ∙ pending_last S h prepared done c;
    store = c.effective.store;
    late = c.effective.late;
  };
}
  where
    listed : (s : ℕ) → (has s h.new.content ≡ true) ⊎ (has s (last_entry S).content ≡ true) → Listed S s
    listed s (inl i) = inr (subst (λ (x : Packed). has s x.content ≡ true) (pending_last S h prepared done c) i)
    listed s (inr i) = inr i

-- Where no entry is prepared any more, it suffices that nobody was excused by it, that it was no open top's, and that the
-- entry that will be stays.
pub core_entry_ended : (S : State) (h : Hold) → S.entry_pend ≡ Some h → ((a s : ℕ) → S.conf a ≡ true → IsActive S a → Listed S s →
    IsExcused S a s → ⊥) → undecided S h.top ≡ false → S.entry ≡ last_entry S → Core S → Core (changed S (DropEntry h))
core_entry_ended S h prepared unexcused closed entry c = record {
  journal = c.journal;
  coordinators = c.coordinators;
  fresh = record {
    begun = c.fresh.begun;
    open_begun = c.fresh.open_begun;
    conf = c.fresh.conf;
    light = c.fresh.light;
    got = c.fresh.got;
    pend = c.fresh.pend;
    went = c.fresh.went;
    entry = λ k pe. none k pe;
  };
  bare = c.bare;
  forms = c.forms;
  history = c.history;
  firm = c.firm;
  light = c.light;
  alone = c.alone;
  covered = record {
    stores = λ a s ca act w l. ⊎_elim (λ (g : S.got a s ≡ true). inl g) (λ (x : IsExcused S a s). absurd (unexcused a s ca act l x))
        (c.covered.stores a s ca act w l);
    own = λ a k ca u pe. none k pe;
    rest = λ a ca u non. c.covered.rest a ca u (λ k pe top. not_own a u k pe top);
    joins = λ a s ca u j g. let x = c.covered.joins a s ca u j g in absurd (not_own a u x.0 x.1 x.2);
    plain = λ a ca u e. let x = (c.covered.plain a ca u e).1 in absurd (not_own a u x.0 x.1 x.2);
  };
  pending = record {
    sealed = λ k pe. none k pe;
    open_conf = λ k pe. none k pe;
    done_conf = λ k pe. none k pe;
    listed = λ k pe. none k pe;
    new = λ k s pe. none k pe;
    stores = λ k pe. none k pe;
    held = c.pending.held;
  };
  effective = record { entry = entry; store = c.effective.store; late = c.effective.late };
}
  where
    none : {P : Type 0} (k : Hold) → ◌≡◌ {A = Option Hold} None (Some k) → P
    none k e = cc

    not_own : (a : ℕ) → undecided S a ≡ true → (k : Hold) → S.entry_pend ≡ Some k → k.top ≡ a → ⊥
    not_own a u k pe top = never u (ap (undecided S) (sym top) ∙ ap (λ (x : Hold). undecided S x.top) (some_is pe prepared) ∙ closed)

pub core_entry_finished : (S : State) (h : Hold) → S.entry_pend ≡ Some h → decided S h.top ≡ true → S.entry ≡ h.new → Core S →
    Core (changed S (FinishEntry h))
core_entry_finished S h prepared done held c = core_entry_ended S h prepared unexcused closed (held ∙ pending_last S h prepared done c) c
  where
    closed : undecided S h.top ≡ false
    closed = ⊎_elim (λ (u : undecided S h.top ≡ true). absurd (never done (open_done (decided S h.top) (S.stage h.top) (S.intent h.top) u)))
        (λ (u : undecided S h.top ≡ false). u) (bool_cases (undecided S h.top))

    unexcused : (a s : ℕ) → S.conf a ≡ true → IsActive S a → Listed S s → IsExcused S a s → ⊥
    unexcused a s ca act l x = never (by l) (ap (λ (k : Hold). has s k.new.content) (some_is prepared x.there) ∙ x.lacks)
      where
        by : Listed S s → has s h.new.content ≡ true
        by (inl i) = subst (λ (e : Packed). has s e.content ≡ true) held i
        by (inr i) = subst (λ (e : Packed). has s e.content ≡ true) (sym (pending_last S h prepared done c)) i

pub core_entry_dropped : (S : State) (h : Hold) → S.entry_pend ≡ Some h → undecided S h.top ≡ false → lists S h.top naming ≡ false →
    Core S → Core (changed S (DropEntry h))
core_entry_dropped S h prepared closed unlisted c = core_entry_ended S h prepared unexcused closed
    (sym (effective_open (decided S) (λ (e : Packed). e) S.entry_pend h S.entry prepared undone) ∙ c.effective.entry) c
  where
    undone : decided S h.top ≡ false
    undone = ⊎_elim (λ (d : decided S h.top ≡ true). absurd (never (c.pending.listed h prepared d) unlisted))
        (λ (d : decided S h.top ≡ false). d) (bool_cases (decided S h.top))

    unexcused : (a s : ℕ) → S.conf a ≡ true → IsActive S a → Listed S s → IsExcused S a s → ⊥
    unexcused a s ca act l x = by act x.whose
      where
        one : h ≡ x.by_entry
        one = some_is prepared x.there

        by : IsActive S a → (x.by_entry.top ≡ a) ⊎ ((decided S x.by_entry.top ≡ true) × (S.root x.by_entry.top ≡ S.root a)) → ⊥
        by (inl u) (inl own) = never u (ap (undecided S) (sym own) ∙ ap (λ (k : Hold). undecided S k.top) (sym one) ∙ closed)
        by (inr l) (inl own) =
            never (latest_decided S.tops a l) (ap (decided S) (sym own) ∙ ap (λ (k : Hold). decided S k.top) (sym one) ∙ undone)
        by act (inr d) = never d.0 (ap (λ (k : Hold). decided S k.top) (sym one) ∙ undone)
