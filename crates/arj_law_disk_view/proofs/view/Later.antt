-- What claims rest on stays as the machine goes on, and so do claims.
use Rattle.arj_law_parts.proofs.Words
use Words.{◌≡◌, ◌⊎◌, ℕ, ◌==◌, ◌||◌, List, [], ◌∷◌, ◌++◌, Bool, true, Option, Some, None, refl, sym, ◌∙◌, ap, subst, inl, inr, ⊎_elim}
use Words.{is_some, or_left, or_parts, list_any-append, Uid, End, Line, Head, Asked, Ask, asks, Message, ObjectState, object, Reply}
use Words.{answers, actor, top_of, last_end, uid_number, Post}
use Words.ask
use Words.ending
use Words.message
use Words.loaded
use Words.prepared
use Words.confirmed
use Rattle.arj_law_disk_view.proofs.Terms
use Terms.{World, Effect, Whole, Allowed, run, after, Stage, Preparing, Confirming, Gone, is_gone, is_idle, is_open, is_sealed, open_by}
use Terms.{target, state_for, undecided, IsNew, put, In, open_done, open_made, open_parts, or_right, put_rises, put_other, falls_to, never}
use Terms.{test_is, put_cases, effect_keeps, SaysMarks, IsOf, packed, IsPlanned, ClaimsCommit, ClaimsAbort, Kinds, Claims, ClaimsAsk}
use Terms.{ClaimsReply, ClaimsEnd, ClaimsLast, ClaimsOther, ClaimsAnswered, IsLater, begins, was_begun}
use Terms.machine as Effects
use Terms.mail
use Terms.disk
use Rattle.arj_law_disk.proofs.machine.{Confirming.marked_cases, History.known_more}
use Rattle.arj_law_disk_view.specs.view.Sees.{ClaimsAsked, EffectsAreLater, ClaimsStay}

pub later_same : (W : World) → IsLater W W
later_same W = record {
  begun = λ z b. b;
  plan = λ z b. refl;
  sealed = λ z h. h;
  got = λ z h. refl;
  bare = λ z b. b;
  serial = refl;
  root = refl;
  first = refl;
  past = refl;
  first_entry = refl;
  decided = λ z b. b;
  sent = λ m i. i;
  known = λ g k. k;
  gone = λ z h. h;
  opened = λ z b u. u;
  taken = λ z b m. inl m;
}

pub later_on : (U V W : World) → IsLater U V → IsLater V W → IsLater U W
later_on U V W a b = record {
  begun = λ t h. b.begun t (a.begun t h);
  plan = λ t h. b.plan t (a.begun t h) ∙ a.plan t h;
  sealed = λ t h. b.sealed t (a.sealed t h);
  got = λ t h. b.got t (a.sealed t h) ∙ a.got t h;
  bare = λ t h. b.bare t (a.bare t h);
  serial = b.serial ∙ a.serial;
  root = b.root ∙ a.root;
  first = b.first ∙ a.first;
  past = b.past ∙ a.past;
  first_entry = b.first_entry ∙ a.first_entry;
  decided = λ t h. b.decided t (a.decided t h);
  sent = λ m i. b.sent m (a.sent m i);
  known = λ g k. b.known g (a.known g k);
  gone = λ t h. b.gone t (a.gone t h);
  opened = λ t h u. a.opened t h (b.opened t (a.begun t h) u);
  taken = λ t h m. ⊎_elim (λ old. a.taken t h old) (λ u. inr (a.opened t h u)) (b.taken t (a.begun t h) m);
}

-- who wrote nothing of what was there at first, or is older, is new later too
pub new_later : (W V : World) → IsLater W V → (t : ℕ) → IsNew W.disk t → IsNew V.disk t
new_later W V later t new g i = new g (subst (In g) (λ k. later.first k ∷ later.past k) i)

-- a stage that is put at its end, or past the prepare step, is sealed
seals : (t : ℕ) (g : Stage) (f : ℕ → Stage) → is_sealed g ≡ true → (z : ℕ) → is_sealed (f z) ≡ true → is_sealed (put t g f z) ≡ true
seals t g f is z h = put_cases (λ k. is_sealed k ≡ true) t g f z (λ e. is) (λ e. h)

-- and one that is put at its end is at its end
ends : (t : ℕ) (g : Stage) (f : ℕ → Stage) → is_gone g ≡ true → (z : ℕ) → is_gone (f z) ≡ true → is_gone (put t g f z) ≡ true
ends t g f is z h = put_cases (λ k. is_gone k ≡ true) t g f z (λ e. is) (λ e. h)

-- no outcome is opened by another stage that is open only where the one before was, nor by a record of an open commit
stage_opened : (S : disk.State) (t : ℕ) (g : Stage) → (is_open g ≡ true → is_open (S.stage t) ≡ true) → (z : ℕ) →
    open_by (disk.decided S z) (put t g S.stage z) (S.intent z) ≡ true → undecided S z ≡ true
stage_opened S t g was z = put_cases (λ k. open_by (disk.decided S z) k (S.intent z) ≡ true → undecided S z ≡ true) t g S.stage z
    (λ e u. open_made (disk.decided S z) (S.stage z) (S.intent z) (open_done (disk.decided S z) g (S.intent z) u) (⊎_elim
    (λ o. inl (ap (λ n. is_open (S.stage n)) e ∙ was o)) (λ n. inr n) (open_parts (disk.decided S z) g (S.intent z) u))) (λ other u. u)

intent_opened : (S : disk.State) (t : ℕ) (o : Option (List ℕ)) → (is_some o ≡ true → (is_open (S.stage t) ≡ true)
    ⊎ (is_some (S.intent t) ≡ true)) → (z : ℕ) → open_by (disk.decided S z) (S.stage z) (put t o S.intent z) ≡ true → undecided S z ≡ true
intent_opened S t o was z = put_cases (λ k. open_by (disk.decided S z) (S.stage z) k ≡ true → undecided S z ≡ true) t o S.intent z
    (λ e u. open_made (disk.decided S z) (S.stage z) (S.intent z) (open_done (disk.decided S z) (S.stage z) o u)
    (⊎_elim (λ g. inl g) (λ n. subst (λ k. (is_open (S.stage k) ≡ true) ⊎ (is_some (S.intent k) ≡ true)) (sym e) (was n))
    (open_parts (disk.decided S z) (S.stage z) o u))) (λ other u. u)

decision_opened : (S : disk.State) (t z : ℕ) → open_by ((t == z) || disk.decided S z) (put t Gone S.stage z) (S.intent z) ≡ true →
    undecided S z ≡ true
decision_opened S t z u = stage_opened S t Gone (λ o. absurd (never o refl)) z
    (open_made (disk.decided S z) (put t Gone S.stage z) (S.intent z)
    (or_parts (t == z) (disk.decided S z) (open_done ((t == z) || disk.decided S z) (put t Gone S.stage z) (S.intent z) u)).1
    (open_parts ((t == z) || disk.decided S z) (put t Gone S.stage z) (S.intent z) u))

-- who is marked was marked, or has an open outcome
newly : {P : Type 0} (S : disk.State) (t z : ℕ) (f : ℕ → Bool) → (f z ≡ true → P) → (f z ≡ true) ⊎ ((z ≡ t) × (undecided S t ≡ true)) →
    P ⊎ (undecided S z ≡ true)
newly S t z f old m = ⊎_elim (λ c. inl (old c)) (λ n. inr (ap (undecided S) n.0 ∙ n.1)) m

effect_later : (W : World) (e : Effect) → Allowed W e → Whole W → IsLater W (after W e)
effect_later W (Effects.Begin t p) x w = record {
  begun = λ z b. put_rises t W.disk.begun z b;
  plan = λ z b. put_other t p W.disk.plan z (falls_to (z == t) (λ on. idle (subst (λ k. W.disk.begun k ≡ true) (test_is z t on) b)));
  sealed = λ z h. put_cases (λ k. is_sealed k ≡ true) t Preparing W.disk.stage z
      (λ e. absurd (cc (sym (ap is_sealed (ap W.disk.stage e ∙ x.idle)) ∙ h))) (λ e. h);
  got = λ z h. refl;
  bare = λ z b. b;
  serial = refl;
  root = refl;
  first = refl;
  past = refl;
  first_entry = refl;
  decided = λ z b. b;
  sent = λ m i. i;
  known = λ g k. k;
  gone = λ z h. put_cases (λ k. is_gone k ≡ true) t Preparing W.disk.stage z
      (λ e. absurd (cc (sym (ap is_gone (ap W.disk.stage e ∙ x.idle)) ∙ h))) (λ e. h);
  opened = λ z b u. subst (λ g. open_by (disk.decided W.disk z) g (W.disk.intent z) ≡ true)
      (put_other t Preparing W.disk.stage z (falls_to (z == t) (λ on. idle (subst (λ k. W.disk.begun k ≡ true) (test_is z t on) b)))) u;
  taken = λ z b m. inl m;
}
  where
    idle : W.disk.begun t ≡ true → ⊥
    idle b = never (ap is_idle x.idle) (w.core.fresh.begun t b)
effect_later W (Effects.Take t s) x w = record {
  begun = λ z b. b;
  plan = λ z b. refl;
  sealed = λ z h. h;
  got = λ z h. put_other t (put s true (W.disk.got t)) W.disk.got z
      (falls_to (z == t) (λ on. absurd (cc (sym (ap is_sealed (ap W.disk.stage (test_is z t on) ∙ x.0)) ∙ h))));
  bare = λ z b. b;
  serial = refl;
  root = refl;
  first = refl;
  past = refl;
  first_entry = refl;
  decided = λ z b. b;
  sent = λ m i. i;
  known = λ g k. k;
  gone = λ z h. h;
  opened = λ z b u. u;
  taken = λ z b m. inl m;
}
effect_later W (Effects.Seal t) x w = record {
  begun = λ z b. b;
  plan = λ z b. refl;
  sealed = seals t Confirming W.disk.stage refl;
  got = λ z h. refl;
  bare = λ z b. b;
  serial = refl;
  root = refl;
  first = refl;
  past = refl;
  first_entry = refl;
  decided = λ z b. b;
  sent = λ m i. i;
  known = λ g k. k;
  gone = λ z h. put_cases (λ k. is_gone k ≡ true) t Confirming W.disk.stage z
      (λ e. absurd (cc (sym (ap is_gone (ap W.disk.stage e ∙ x)) ∙ h))) (λ e. h);
  opened = λ z b u. stage_opened W.disk t Confirming (λ o. ap is_open x) z u;
  taken = λ z b m. inl m;
}
effect_later W (Effects.Intend t nodes) x w = record {
  begun = λ z b. b;
  plan = λ z b. refl;
  sealed = λ z h. h;
  got = λ z h. refl;
  bare = λ z b. b;
  serial = refl;
  root = refl;
  first = refl;
  past = refl;
  first_entry = refl;
  decided = λ z b. b;
  sent = λ m i. i;
  known = λ g k. k;
  gone = λ z h. h;
  opened = λ z b u. intent_opened W.disk t (Some nodes) (λ o. inl (ap is_open (x.sealed))) z u;
  taken = λ z b m. inl m;
}
effect_later W (Effects.Decide t) x w = record {
  begun = λ z b. b;
  plan = λ z b. refl;
  sealed = seals t Gone W.disk.stage refl;
  got = λ z h. refl;
  bare = λ z b. b;
  serial = refl;
  root = refl;
  first = refl;
  past = refl;
  first_entry = refl;
  decided = λ z b. or_right (t == z) (disk.decided W.disk z) b;
  sent = λ m i. i;
  known = λ g k. known_more W.disk t g k;
  gone = ends t Gone W.disk.stage refl;
  opened = λ z b u. decision_opened W.disk t z u;
  taken = λ z b m. inl m;
}
effect_later W (Effects.Remove t nodes) x w = record {
  begun = λ z b. b;
  plan = λ z b. refl;
  sealed = λ z h. h;
  got = λ z h. refl;
  bare = λ z b. b;
  serial = refl;
  root = refl;
  first = refl;
  past = refl;
  first_entry = refl;
  decided = λ z b. b;
  sent = λ m i. i;
  known = λ g k. k;
  gone = λ z h. h;
  opened = λ z b u. intent_opened W.disk t None (λ o. absurd (never o refl)) z u;
  taken = λ z b m. inl m;
}
effect_later W (Effects.EndBare t) x w = record {
  begun = λ z b. b;
  plan = λ z b. refl;
  sealed = seals t Gone W.disk.stage refl;
  got = λ z h. refl;
  bare = λ z b. put_rises t W.disk.bare z b;
  serial = refl;
  root = refl;
  first = refl;
  past = refl;
  first_entry = refl;
  decided = λ z b. b;
  sent = λ m i. i;
  known = λ g k. k;
  gone = ends t Gone W.disk.stage refl;
  opened = λ z b u. stage_opened W.disk t Gone (λ o. absurd (never o refl)) z u;
  taken = λ z b m. inl m;
}
effect_later W (Effects.Halt t) x w = record {
  begun = λ z b. b;
  plan = λ z b. refl;
  sealed = seals t Gone W.disk.stage refl;
  got = λ z h. refl;
  bare = λ z b. b;
  serial = refl;
  root = refl;
  first = refl;
  past = refl;
  first_entry = refl;
  decided = λ z b. b;
  sent = λ m i. i;
  known = λ g k. k;
  gone = ends t Gone W.disk.stage refl;
  opened = λ z b u. stage_opened W.disk t Gone (λ o. absurd (never o refl)) z u;
  taken = λ z b m. inl m;
}
effect_later W (Effects.Keep t s) x w = record {
  begun = λ z b. b;
  plan = λ z b. refl;
  sealed = λ z h. h;
  got = λ z h. refl;
  bare = λ z b. b;
  serial = refl;
  root = refl;
  first = refl;
  past = refl;
  first_entry = refl;
  decided = λ z b. b;
  sent = λ m i. i;
  known = λ g k. k;
  gone = λ z h. h;
  opened = λ z b u. u;
  taken = λ z b m. inl m;
}
effect_later W (Effects.Move s h) x w = record {
  begun = λ z b. b;
  plan = λ z b. refl;
  sealed = λ z h. h;
  got = λ z h. refl;
  bare = λ z b. b;
  serial = refl;
  root = refl;
  first = refl;
  past = refl;
  first_entry = refl;
  decided = λ z b. b;
  sent = λ m i. i;
  known = λ g k. k;
  gone = λ z h. h;
  opened = λ z b u. u;
  taken = λ z b m. inl m;
}
effect_later W (Effects.Finish s h) x w = record {
  begun = λ z b. b;
  plan = λ z b. refl;
  sealed = λ z h. h;
  got = λ z h. refl;
  bare = λ z b. b;
  serial = refl;
  root = refl;
  first = refl;
  past = refl;
  first_entry = refl;
  decided = λ z b. b;
  sent = λ m i. i;
  known = λ g k. k;
  gone = λ z h. h;
  opened = λ z b u. u;
  taken = λ z b m. inl m;
}
effect_later W (Effects.Drop s h) x w = record {
  begun = λ z b. b;
  plan = λ z b. refl;
  sealed = λ z h. h;
  got = λ z h. refl;
  bare = λ z b. b;
  serial = refl;
  root = refl;
  first = refl;
  past = refl;
  first_entry = refl;
  decided = λ z b. b;
  sent = λ m i. i;
  known = λ g k. k;
  gone = λ z h. h;
  opened = λ z b u. u;
  taken = λ z b m. inl m;
}
effect_later W (Effects.Agree t) x w = record {
  begun = λ z b. b;
  plan = λ z b. refl;
  sealed = λ z h. h;
  got = λ z h. refl;
  bare = λ z b. b;
  serial = refl;
  root = refl;
  first = refl;
  past = refl;
  first_entry = refl;
  decided = λ z b. b;
  sent = λ m i. i;
  known = λ g k. k;
  gone = λ z h. h;
  opened = λ z b u. u;
  taken = λ z b m. ⊎_elim (λ c. newly W.disk t z W.disk.conf (λ c. inl c) (marked_cases W.disk t W.disk.conf z c)) (λ l. inl (inr l)) m;
}
effect_later W (Effects.Pass t) x w = record {
  begun = λ z b. b;
  plan = λ z b. refl;
  sealed = λ z h. h;
  got = λ z h. refl;
  bare = λ z b. b;
  serial = refl;
  root = refl;
  first = refl;
  past = refl;
  first_entry = refl;
  decided = λ z b. b;
  sent = λ m i. i;
  known = λ g k. k;
  gone = λ z h. h;
  opened = λ z b u. u;
  taken = λ z b m. ⊎_elim (λ c. inl (inl c)) (λ l. newly W.disk t z W.disk.light (λ c. inr c) (marked_cases W.disk t W.disk.light z l)) m;
}
effect_later W (Effects.Enter t) x w = record {
  begun = λ z b. b;
  plan = λ z b. refl;
  sealed = λ z h. h;
  got = λ z h. refl;
  bare = λ z b. b;
  serial = refl;
  root = refl;
  first = refl;
  past = refl;
  first_entry = refl;
  decided = λ z b. b;
  sent = λ m i. i;
  known = λ g k. k;
  gone = λ z h. h;
  opened = λ z b u. u;
  taken = λ z b m. ⊎_elim (λ c. newly W.disk t z W.disk.conf (λ c. inl c) (marked_cases W.disk t W.disk.conf z c)) (λ l. inl (inr l)) m;
}
effect_later W (Effects.MoveEntry h) x w = record {
  begun = λ z b. b;
  plan = λ z b. refl;
  sealed = λ z h. h;
  got = λ z h. refl;
  bare = λ z b. b;
  serial = refl;
  root = refl;
  first = refl;
  past = refl;
  first_entry = refl;
  decided = λ z b. b;
  sent = λ m i. i;
  known = λ g k. k;
  gone = λ z h. h;
  opened = λ z b u. u;
  taken = λ z b m. inl m;
}
effect_later W (Effects.FinishEntry h) x w = record {
  begun = λ z b. b;
  plan = λ z b. refl;
  sealed = λ z h. h;
  got = λ z h. refl;
  bare = λ z b. b;
  serial = refl;
  root = refl;
  first = refl;
  past = refl;
  first_entry = refl;
  decided = λ z b. b;
  sent = λ m i. i;
  known = λ g k. k;
  gone = λ z h. h;
  opened = λ z b u. u;
  taken = λ z b m. inl m;
}
effect_later W (Effects.DropEntry h) x w = record {
  begun = λ z b. b;
  plan = λ z b. refl;
  sealed = λ z h. h;
  got = λ z h. refl;
  bare = λ z b. b;
  serial = refl;
  root = refl;
  first = refl;
  past = refl;
  first_entry = refl;
  decided = λ z b. b;
  sent = λ m i. i;
  known = λ g k. k;
  gone = λ z h. h;
  opened = λ z b u. u;
  taken = λ z b m. inl m;
}
effect_later W (Effects.Forget r h) x w = record {
  begun = λ z b. b;
  plan = λ z b. refl;
  sealed = λ z h. h;
  got = λ z h. refl;
  bare = λ z b. b;
  serial = refl;
  root = refl;
  first = refl;
  past = refl;
  first_entry = refl;
  decided = λ z b. b;
  sent = λ m i. i;
  known = λ g k. k;
  gone = λ z h. h;
  opened = λ z b u. u;
  taken = λ z b m. inl m;
}
effect_later W (Effects.Send m) x w = record {
  begun = λ z b. b;
  plan = λ z b. refl;
  sealed = λ z h. h;
  got = λ z h. refl;
  bare = λ z b. b;
  serial = refl;
  root = refl;
  first = refl;
  past = refl;
  first_entry = refl;
  decided = λ z b. b;
  sent = λ m i. inr i;
  known = λ g k. k;
  gone = λ z h. h;
  opened = λ z b u. u;
  taken = λ z b m. inl m;
}

pub effects_are_later : EffectsAreLater
effects_are_later W [] f w = later_same W
effects_are_later W (e ∷ es) f w =
    later_on W (after W e) (run (after W e) es) (effect_later W e f.0 w) (effects_are_later (after W e) es f.1 (effect_keeps W e f.0 w))

-- ---- claims

module _ (x : ℕ) (tops : Kinds) (W V : World) (whole : Whole W) (later : IsLater W V) where
  planned_stays : (a : Uid) (s : ℕ) (states : List ObjectState) → IsPlanned x W.disk a s states → IsPlanned x V.disk a s states
  planned_stays a s states p = record {
    begun = later.begun (uid_number a) p.begun;
    named = subst (λ g. (st : ObjectState) → IsOf (object x) states st →
        (target g s ≡ true) × (packed st ≡ state_for g)) (sym (later.plan (uid_number a) p.begun)) p.named;
    there =
        subst (λ g. target g s ≡ true → (st : ObjectState) × IsOf (object x) states st) (sym (later.plan (uid_number a) p.begun)) p.there;
  }

  -- a target of a plan that has begun was one before
  was_target : (t s : ℕ) → W.disk.begun t ≡ true → target (V.disk.plan t) s ≡ true → target (W.disk.plan t) s ≡ true
  was_target t s b on = ap (λ g. target g s) (sym (later.plan t b)) ∙ on

  commit_stays : (a : Uid) (to : ℕ) → ClaimsCommit W a to → ClaimsCommit V a to
  commit_stays a to (inl i) = inl (later.sent (mail.ToldCommit (uid_number a) to) i)
  commit_stays a to (inr b) = inr (later.bare (uid_number a) b)

  abort_stays : (a : Uid) (to : ℕ) → ClaimsAbort W a to → ClaimsAbort V a to
  abort_stays a to (inl i) = inl (later.sent (mail.ToldAbort (uid_number a) to) i)
  abort_stays a to (inr b) = inr (later.bare (uid_number a) b.0, b.1)

  ask_stays : (to : ℕ) (h : Head) (a : Ask) → ClaimsAsk x W to h a → ClaimsAsk x V to h a
  ask_stays to h (ask.Bind y include avoid) c = tt
  ask_stays to h (ask.Load y) c = tt
  ask_stays to h (ask.Activate b st) c = tt
  ask_stays to h (ask.Record y b i g) c = tt
  ask_stays to h (ask.Invoke y b i ends op) c = tt
  ask_stays to h (ask.Vote i ties ends) c = tt
  ask_stays to h (ask.Prepare states) c = record {
    planned = planned_stays (actor h.path) to states c.planned;
    asked = λ on.
        later.sent (mail.Prepare (uid_number (actor h.path)) to) (c.asked (was_target (uid_number (actor h.path)) to c.planned.begun on));
  }
  ask_stays to h (ask.Confirm grants excluded included) c =
      let t : ℕ = uid_number (top_of h.path) in
      let m = whole.mail (mail.Confirm t) c.1.asked in (
        c.0,
        record {
          asked = later.sent (mail.Confirm t) c.1.asked;
          says = subst (λ g. SaysMarks x g (V.disk.got t) grants excluded included) (sym (later.plan t m.0))
              (subst (λ f. SaysMarks x (W.disk.plan t) f grants excluded included) (sym (later.got t m.1)) c.1.says);
        },
      )

  reply_stays : (from : ℕ) (u : Uid) (r : Reply) → ClaimsReply x W from u r → ClaimsReply x V from u r
  reply_stays from u (Reply.Prepared prepared.Yes) c =
      (later.begun (uid_number u) c.0, λ on. later.sent (mail.Prepared (uid_number u) from) (c.1 (was_target (uid_number u) from c.0 on)))
  reply_stays from u (Reply.Prepared (prepared.Old y v)) c = tt
  reply_stays from u (Reply.Prepared (prepared.InDoubt y holder)) c = tt
  reply_stays from u (Reply.Confirmed confirmed.Yes) c = later.sent (mail.Confirmed (uid_number u)) c
  reply_stays from u (Reply.Confirmed (confirmed.Conflict holder m)) c = tt
  reply_stays from u (Reply.Confirmed (confirmed.Changed w)) c = tt
  reply_stays from u (Reply.Confirmed (confirmed.NoStores y)) c = tt
  reply_stays from u (Reply.Confirmed (confirmed.Listed y s)) c = tt
  reply_stays from u (Reply.Loaded (loaded.State st)) c = λ is. later.known (packed st) (c is)
  reply_stays from u (Reply.Loaded (loaded.InDoubt holder)) c = tt
  reply_stays from u (Reply.Bound r) c = tt
  reply_stays from u (Reply.Activated i) c = tt
  reply_stays from u (Reply.Noted r) c = tt
  reply_stays from u (Reply.Invoked r) c = tt
  reply_stays from u (Reply.Voted r) c = tt

  pub end_stays : (to : ℕ) (e : Uid × End) → ClaimsEnd tops W to e → ClaimsEnd tops V to e
  end_stays to (u, ending.Commit) (inl c) = inl (commit_stays u to c)
  end_stays to (u, ending.Commit) (inr n) = inr n
  end_stays to (u, ending.Abort) (inl c) = inl (c.0, abort_stays u to c.1)
  end_stays to (u, ending.Abort) (inr (inl i)) =
      inr (inl (ap (λ f. f (uid_number u)) later.serial ∙ i.0, later.sent (mail.ToldSerial (uid_number u) to) i.1))
  end_stays to (u, ending.Abort) (inr (inr n)) = inr (inr n)

  last_stays : (to : ℕ) (ack : Bool) (o : Option (Uid × End)) → ClaimsLast tops W to ack o → ClaimsLast tops V to ack o
  last_stays to ack None c = tt
  last_stays to ack (Some e) c = (end_stays to e c.0, λ a. later.sent (mail.ToldCommit (uid_number e.0) to) (c.1 a))

  other_stays : (lines more : List Line) (from to : ℕ) (m : Message) → ClaimsOther tops W lines from to m →
      ClaimsOther tops V (lines ++ more) from to m
  other_stays lines more from to (message.Told m) c = last_stays to m.ack (last_end m.ends) c
  other_stays lines more from to (message.Acked m) c = later.sent (mail.Acked (uid_number m.act) from) c
  other_stays lines more from to (message.Query m) c =
      list_any-append (λ (l : Line). begins m.act l.body) lines more ∙ or_left (was_begun m.act lines) (was_begun m.act more) c
  other_stays lines more from to (message.Hello m) c = tt
  other_stays lines more from to (message.Bind m) c = tt
  other_stays lines more from to (message.Bound m) c = tt
  other_stays lines more from to (message.Load m) c = tt
  other_stays lines more from to (message.Loaded m) c = tt
  other_stays lines more from to (message.Activate m) c = tt
  other_stays lines more from to (message.Activated m) c = tt
  other_stays lines more from to (message.RecordMsg m) c = tt
  other_stays lines more from to (message.Recorded m) c = tt
  other_stays lines more from to (message.Invoke m) c = tt
  other_stays lines more from to (message.Invoked m) c = tt
  other_stays lines more from to (message.Vote m) c = tt
  other_stays lines more from to (message.Voted m) c = tt
  other_stays lines more from to (message.Prepare m) c = tt
  other_stays lines more from to (message.Prepared m) c = tt
  other_stays lines more from to (message.Confirm m) c = tt
  other_stays lines more from to (message.Confirmed m) c = tt

  claim_stays : (lines more : List Line) (p : Post) → Claims x tops W lines p → Claims x tops V (lines ++ more) p
  claim_stays lines more p = by (asks p.message)
    where
      answered : (o : Option (Asked × Reply)) → ClaimsAnswered x tops W lines p.from p.to p.message o →
          ClaimsAnswered x tops V (lines ++ more) p.from p.to p.message o
      answered None c = other_stays lines more p.from p.to p.message c
      answered (Some a) c = reply_stays p.from a.0.act a.1 c

      by : (o : Option (Head × Ask)) → ClaimsAsked x tops W lines p.from p.to p.message o →
          ClaimsAsked x tops V (lines ++ more) p.from p.to p.message o
      by None c = answered (answers p.message) c
      by (Some a) c = ask_stays p.to a.0 a.1 c

pub claims_stay : ClaimsStay
claims_stay x tops W V lines more p whole later c = claim_stays x tops W V whole later lines more p c
