-- A top's stage goes on, its record comes: open outcomes only fall, and what was said of them is handed on.
use Rattle.arj_law_disk.proofs.Terms
use Terms.{◌≡◌, ◌⊎◌, ℕ, List, Bool, true, false, ◌==◌, Option, Some, None, is_some, refl, sym, ◌∙◌, ap, subst, inl, inr, ⊎_elim, Core}
use Terms.{Coordinators, Fresh, Bare, IsActive, Pending, changed, Seal, Intend, Halt, EndBare, State, Hold, last, Stage, Preparing}
use Terms.{Confirming, Gone, naming, is_open, is_sealed, is_gone, is_idle, decided, undecided, lists, listed_by, target, has, put}
use Rattle.arj_law_disk.proofs.machine.Base.{put_cases, put_true, put_other, open_done, open_parts, open_made}
use Rattle.arj_law_disk.specs.machine.Core.{Light, Alone, Covered}

-- the object with other stages, records and marks of bare commits
abbrev pub at : State → (ℕ → Stage) → (ℕ → Option (List ℕ)) → (ℕ → Bool) → State
at S g i b = record S { stage = g; intent = i; bare = b }

-- stages go on
pub record Ages (old new : ℕ → Stage) : Type 0 where
  pub sealed : (a : ℕ) → is_sealed (old a) ≡ true → is_sealed (new a) ≡ true
  pub gone : (a : ℕ) → is_gone (old a) ≡ true → is_gone (new a) ≡ true
  pub idle : (a : ℕ) → is_idle (old a) ≡ false → is_idle (new a) ≡ false
  pub opens : (a : ℕ) → is_open (new a) ≡ true → is_open (old a) ≡ true

pub ages_gone : (t : ℕ) (f : ℕ → Stage) → Ages f (put t Gone f)
ages_gone t f = record {
  sealed = λ a h. put_cases (λ g. is_sealed g ≡ true) t Gone f a (λ e. refl) (λ e. h);
  gone = λ a h. put_cases (λ g. is_gone g ≡ true) t Gone f a (λ e. refl) (λ e. h);
  idle = λ a h. put_cases (λ g. is_idle g ≡ false) t Gone f a (λ e. refl) (λ e. h);
  opens = λ a. put_cases (λ g. is_open g ≡ true → is_open (f a) ≡ true) t Gone f a (λ e h. let n : false ≡ true = h in cc) (λ e h. h);
}

pub ages_seal : (t : ℕ) (f : ℕ → Stage) → f t ≡ Preparing → Ages f (put t Confirming f)
ages_seal t f is = record {
  sealed = λ a h. put_cases (λ g. is_sealed g ≡ true) t Confirming f a (λ e. refl) (λ e. h);
  gone = λ a h. put_cases (λ g. is_gone g ≡ true) t Confirming f a (λ e. let n : false ≡ true = sym (ap is_gone (ap f e ∙ is)) ∙ h in
      cc) (λ e. h);
  idle = λ a h. put_cases (λ g. is_idle g ≡ false) t Confirming f a (λ e. refl) (λ e. h);
  opens = λ a. put_cases (λ g. is_open g ≡ true → is_open (f a) ≡ true) t Confirming f a (λ e h. ap is_open (ap f e ∙ is)) (λ e h. h);
}

abbrev pub Falls : State → State → Type 0
Falls V S = (a : ℕ) → undecided V a ≡ true → undecided S a ≡ true

pub active_falls : (S : State) (g : ℕ → Stage) (i : ℕ → Option (List ℕ)) (b : ℕ → Bool) → Falls (at S g i b) S → (t : ℕ) →
    IsActive (at S g i b) t → IsActive S t
active_falls S g i b falls t (inl u) = inl (falls t u)
active_falls S g i b falls t (inr l) = inr l

pub light_falls : (S : State) (g : ℕ → Stage) (i : ℕ → Option (List ℕ)) (b : ℕ → Bool) → Falls (at S g i b) S → Light S → Light (at S g i b)
light_falls S g i b falls c = record { plain = c.plain; none = c.none; other = c.other; late = λ t s h l u. c.late t s h l (falls t u) }

pub alone_falls : (S : State) (g : ℕ → Stage) (i : ℕ → Option (List ℕ)) (b : ℕ → Bool) → Falls (at S g i b) S → Alone S → Alone (at S g i b)
alone_falls S g i b falls c = record {
  one = λ t z ct ut cz uz. c.one t z ct (falls t ut) cz (falls z uz);
  next = λ t w ct ut. c.next t w ct (falls t ut);
  loaded = λ t s ct ut. c.loaded t s ct (falls t ut);
}

pub covered_falls : (S : State) (g : ℕ → Stage) (i : ℕ → Option (List ℕ)) (b : ℕ → Bool) → Falls (at S g i b) S → Covered S →
    Covered (at S g i b)
covered_falls S g i b falls c = record {
  stores = λ t s ct a. c.stores t s ct (active_falls S g i b falls t a);
  own = λ t h ct ut. c.own t h ct (falls t ut);
  rest = λ t ct ut. c.rest t ct (falls t ut);
  joins = λ t s ct ut. c.joins t s ct (falls t ut);
  plain = λ t ct ut. c.plain t ct (falls t ut);
}

pub pending_falls : (S : State) (g : ℕ → Stage) (i : ℕ → Option (List ℕ)) (b : ℕ → Bool) → Falls (at S g i b) S →
    ((a : ℕ) → is_sealed (S.stage a) ≡ true → is_sealed (g a) ≡ true)
    → ((a : ℕ) → decided S a ≡ true → lists S a naming ≡ true → listed_by (i a) naming ≡ true) → Pending S → Pending (at S g i b)
pending_falls S g i b falls sealed listed c = record {
  sealed = λ h p. sealed h.top (c.sealed h p);
  open_conf = λ h p u. c.open_conf h p (falls h.top u);
  done_conf = c.done_conf;
  listed = λ h p d. listed h.top d (c.listed h p d);
  new = c.new;
  stores = c.stores;
  held = c.held;
}

-- with the same records, open outcomes fall with open stages
pub stage_falls : (S : State) (g : ℕ → Stage) (b : ℕ → Bool) → ((a : ℕ) → is_open (g a) ≡ true → is_open (S.stage a) ≡ true) →
    Falls (at S g S.intent b) S
stage_falls S g b opens a u = open_made (decided S a) (S.stage a) (S.intent a) (open_done (decided S a) (g a) (S.intent a) u)
    (by (open_parts (decided S a) (g a) (S.intent a) u))
  where
    by : (is_open (g a) ≡ true) ⊎ (is_some (S.intent a) ≡ true) → (is_open (S.stage a) ≡ true) ⊎ (is_some (S.intent a) ≡ true)
    by (inl o) = inl (opens a o)
    by (inr i) = inr i

pub coordinators_age : (S : State) (g : ℕ → Stage) (b : ℕ → Bool) → Ages S.stage g → Coordinators S → Coordinators (at S g S.intent b)
coordinators_age S g b ages c = record {
  conf_sealed = λ t h. ages.sealed t (c.conf_sealed t h);
  light_sealed = λ t h. ages.sealed t (c.light_sealed t h);
  decided_taken = c.decided_taken;
  decided_closed = λ t h. ages.gone t (c.decided_closed t h);
  record_sealed = λ t h. ages.sealed t (c.record_sealed t h);
  record_taken = c.record_taken;
  record_lists = c.record_lists;
  record_names = c.record_names;
  got_target = c.got_target;
}

pub fresh_ages : (S : State) (g : ℕ → Stage) (i : ℕ → Option (List ℕ)) (b : ℕ → Bool) → Ages S.stage g → Fresh S → Fresh (at S g i b)
fresh_ages S g i b ages c = record {
  begun = λ t h. ages.idle t (c.begun t h);
  open_begun = λ t h. c.open_begun t (ages.opens t h);
  conf = c.conf;
  light = c.light;
  got = c.got;
  pend = c.pend;
  went = c.went;
  entry = c.entry;
}

-- a stage goes on
pub core_staged : (S : State) (g : ℕ → Stage) (b : ℕ → Bool) → Ages S.stage g → Bare (at S g S.intent b) → Core S → Core (at S g S.intent b)
core_staged S g b ages bare c =
    let falls = stage_falls S g b ages.opens in
    record {
      journal = c.journal;
      coordinators = coordinators_age S g b ages c.coordinators;
      fresh = fresh_ages S g S.intent b ages c.fresh;
      bare = bare;
      forms = c.forms;
      history = c.history;
      firm = record { kept = λ t s u. c.firm.kept t s (falls t u); done = c.firm.done; listed = c.firm.listed; went = c.firm.went };
      light = light_falls S g S.intent b falls c.light;
      alone = alone_falls S g S.intent b falls c.alone;
      covered = covered_falls S g S.intent b falls c.covered;
      pending = pending_falls S g S.intent b falls ages.sealed (λ a d l. l) c.pending;
      effective = c.effective;
    }

bare_stays : (S : State) (g : ℕ → Stage) → Ages S.stage g → Bare S → Bare (at S g S.intent S.bare)
bare_stays S g ages c =
    record { gone = λ t h. ages.gone t (c.gone t h); no_record = c.no_record; undone = c.undone; untouched = c.untouched; taken = c.taken }

pub core_halted : (S : State) (t : ℕ) → Core S → Core (changed S (Halt t))
core_halted S t c =
    core_staged S (put t Gone S.stage) S.bare (ages_gone t S.stage) (bare_stays S (put t Gone S.stage) (ages_gone t S.stage) c.bare) c

pub core_sealed : (S : State) (t : ℕ) → S.stage t ≡ Preparing → Core S → Core (changed S (Seal t))
core_sealed S t is c = core_staged S (put t Confirming S.stage) S.bare (ages_seal t S.stage is)
    (bare_stays S (put t Confirming S.stage) (ages_seal t S.stage is) c.bare) c

-- a commit without a record
pub core_ended_bare : (S : State) (t : ℕ) → S.stage t ≡ Confirming → ((S.conf t ≡ true) ⊎ (S.light t ≡ true)) → S.intent t ≡ None →
    ((s : ℕ) → target (S.plan t) s ≡ false) → Core S → Core (changed S (EndBare t))
core_ended_bare S t is taken none untouched c = core_staged S (put t Gone S.stage) (put t true S.bare) ages (record {
  gone = λ a h. put_cases (λ g. is_gone g ≡ true) t Gone S.stage a (λ e. refl) (λ e. c.bare.gone a (old a e h));
  no_record = λ a h. by a (λ n. S.intent n ≡ None) none c.bare.no_record h;
  undone = λ a h. by a (λ n. decided S n ≡ false) undone c.bare.undone h;
  untouched = λ a h. by a (λ n. (s : ℕ) → target (S.plan n) s ≡ false) untouched c.bare.untouched h;
  taken = λ a h. by a (λ n. (S.conf n ≡ true) ⊎ (S.light n ≡ true)) taken c.bare.taken h;
}) c
  where
    ages : Ages S.stage (put t Gone S.stage)
    ages = ages_gone t S.stage

    old : (a : ℕ) → (a == t) ≡ false → put t true S.bare a ≡ true → S.bare a ≡ true
    old a e h = sym (put_other t true S.bare a e) ∙ h

    by : (a : ℕ) (P : ℕ → Type 0) → P t → ((n : ℕ) → S.bare n ≡ true → P n) → put t true S.bare a ≡ true → P a
    by a P here there h = ⊎_elim (λ (e : a ≡ t). subst P (sym e) here) (λ (b : S.bare a ≡ true). there a b) (put_true t S.bare a h)

    undone : decided S t ≡ false
    undone = ⊎_elim (λ (d : decided S t ≡ true). let n : false ≡ true = sym (ap is_gone is) ∙ c.coordinators.decided_closed t d in
        cc) (λ (d : decided S t ≡ false). d) (cases (decided S t))
      where
        cases : (b : Bool) → (b ≡ true) ⊎ (b ≡ false)
        cases true = inl refl
        cases false = inr refl

-- a record is renamed into place
pub core_intended : (S : State) (t : ℕ) (nodes : List ℕ) → S.stage t ≡ Confirming → ((S.conf t ≡ true) ⊎ (S.light t ≡ true)) →
    ((s : ℕ) → S.got t s ≡ true → has s nodes ≡ true) → has naming nodes ≡ true
    → Core S → Core (changed S (Intend t nodes))
core_intended S t nodes is taken stores names c = record {
  journal = c.journal;
  coordinators = record {
    conf_sealed = c.coordinators.conf_sealed;
    light_sealed = c.coordinators.light_sealed;
    decided_taken = c.coordinators.decided_taken;
    decided_closed = c.coordinators.decided_closed;
    record_sealed = λ a. put_cases (λ i. is_some i ≡ true → is_sealed (S.stage a) ≡ true) t (Some nodes) S.intent a
        (λ e h. ap is_sealed (ap S.stage e ∙ is)) (λ e h. c.coordinators.record_sealed a h);
    record_taken = λ a. put_cases (λ i. is_some i ≡ true → (S.conf a ≡ true) ⊎ (S.light a ≡ true)) t (Some nodes) S.intent a
        (λ e h. subst (λ n. (S.conf n ≡ true) ⊎ (S.light n ≡ true)) (sym e) taken) (λ e h. c.coordinators.record_taken a h);
    record_lists = λ a ns. put_cases (λ i. i ≡ Some ns → (s : ℕ) → S.got a s ≡ true → has s ns ≡ true) t (Some nodes) S.intent a
        (λ e h s g. subst (λ l. has s l ≡ true) (same h) (stores s (ap (λ n. S.got n s) (sym e) ∙ g)))
        (λ e h s g. c.coordinators.record_lists a ns h s g);
    record_names = λ a ns. put_cases (λ i. i ≡ Some ns → has naming ns ≡ true) t (Some nodes) S.intent a
        (λ e h. subst (λ l. has naming l ≡ true) (same h) names) (λ e h. c.coordinators.record_names a ns h);
    got_target = c.coordinators.got_target;
  };
  fresh = c.fresh;
  bare = record {
    gone = c.bare.gone;
    no_record = λ a b. put_cases (λ i. i ≡ None) t (Some nodes) S.intent a
        (λ e. let n : false ≡ true = sym (ap is_gone (ap S.stage e ∙ is)) ∙ c.bare.gone a b in cc) (λ e. c.bare.no_record a b);
    undone = c.bare.undone;
    untouched = c.bare.untouched;
    taken = c.bare.taken;
  };
  forms = c.forms;
  history = c.history;
  firm = record {
    kept = λ a s u. c.firm.kept a s (falls a u);
    done = c.firm.done;
    listed = λ a s d g. listed a s d (c.firm.listed a s d g);
    went = c.firm.went;
  };
  light = light_falls S S.stage intent S.bare falls c.light;
  alone = alone_falls S S.stage intent S.bare falls c.alone;
  covered = covered_falls S S.stage intent S.bare falls c.covered;
  pending = pending_falls S S.stage intent S.bare falls (λ a h. h) (λ a d l. lists_stay a naming d l) c.pending;
  effective = record { entry = c.effective.entry; store = c.effective.store; late = λ s h l p d. late s h d (c.effective.late s h l p d) };
}
  where
    intent : ℕ → Option (List ℕ)
    intent = put t (Some nodes) S.intent

    same : {l : List ℕ} → ◌≡◌ {A = Option (List ℕ)} (Some nodes) (Some l) → nodes ≡ l
    same e = cc

    closed : (a : ℕ) → decided S a ≡ true → a ≡ t → ⊥
    closed a d e = let n : false ≡ true = sym (ap is_gone (ap S.stage e ∙ is)) ∙ c.coordinators.decided_closed a d in cc

    falls : Falls (at S S.stage intent S.bare) S
    falls a u = open_made (decided S a) (S.stage a) (S.intent a) (open_done (decided S a) (S.stage a) (intent a) u)
        (by (open_parts (decided S a) (S.stage a) (intent a) u))
      where
        by : (is_open (S.stage a) ≡ true) ⊎ (is_some (intent a) ≡ true) → (is_open (S.stage a) ≡ true) ⊎ (is_some (S.intent a) ≡ true)
        by (inl o) = inl o
        by (inr i) = put_cases (λ i. is_some i ≡ true → (is_open (S.stage a) ≡ true) ⊎ (is_some (S.intent a) ≡ true)) t (Some nodes)
            S.intent a (λ e h. inl (ap is_open (ap S.stage e ∙ is))) (λ e h. inr h) i

    lists_stay : (a m : ℕ) → decided S a ≡ true → lists S a m ≡ true → listed_by (intent a) m ≡ true
    lists_stay a m d l = put_cases (λ i. listed_by i m ≡ true) t (Some nodes) S.intent a (λ e. absurd (closed a d e)) (λ e. l)

    listed : (a s : ℕ) → decided S a ≡ true → (lists S a s ≡ true) ⊎ (S.went a s ≡ true) →
        (listed_by (intent a) s ≡ true) ⊎ (S.went a s ≡ true)
    listed a s d (inl l) = inl (lists_stay a s d l)
    listed a s d (inr w) = inr w

    late : (s : ℕ) (h : Hold) → decided S h.top ≡ true → ((lists S h.top s ≡ true) × (S.got h.top s ≡ true)) ⊎ (S.held s ≡ Some (last S)) →
        ((listed_by (intent h.top) s ≡ true) × (S.got h.top s ≡ true)) ⊎ (S.held s ≡ Some (last S))
    late s h d (inl l) = inl (lists_stay h.top s d l.0, l.1)
    late s h d (inr e) = inr e
