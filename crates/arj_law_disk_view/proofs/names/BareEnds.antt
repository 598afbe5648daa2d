-- Effects in which naming's half has no part, and commits that end without a record.
use Rattle.arj_law_parts.proofs.Words
use Words.{◌≡◌, ℕ, Bool, List, [], ◌∷◌, true, false, Option, Some, None, refl, sym, ◌∙◌, ap, subst, inl, inr, ⊎_elim, is_some}
use Words.{if◌then◌else◌}
use Rattle.arj_law_disk_view.proofs.Terms
use Terms.{Core, World, Whole, Allowed, after, AreOnlyOf, Decides, Note, is_only_of, State, Hold, Idle, Confirming, Gone, is_open}
use Terms.{IsExcused, Listed, Packed, decided, effective_by, is_gone, last_entry, open_by, undecided, has, falls_to, never, open_done}
use Terms.{open_made, open_parts, put_cases, some_is, Along}
use Terms.machine
use Terms.mail

pub begun_bare : (t : ℕ) (W : World) → Whole W → W.disk.bare t ≡ true → W.disk.begun t ≡ true
begun_bare t W whole bare = ⊎_elim (whole.core.fresh.conf t) (whole.core.fresh.light t) (whole.core.bare.taken t bare)

-- plain effects end no commit without a record
pub plain_bare : (S : State) (a : machine.Effect) → is_only_of (λ n. false) a ≡ true → (machine.changed S a).bare ≡ S.bare
plain_bare S (machine.Begin t p) is = refl
plain_bare S (machine.Take t s) is = refl
plain_bare S (machine.Seal t) is = refl
plain_bare S (machine.Intend t nodes) is = refl
plain_bare S (machine.Decide t) is = refl
plain_bare S (machine.Remove t nodes) is = refl
plain_bare S (machine.EndBare t) is = absurd (never is refl)
plain_bare S (machine.Halt t) is = refl
plain_bare S (machine.Keep t s) is = refl
plain_bare S (machine.Move s h) is = refl
plain_bare S (machine.Finish s h) is = refl
plain_bare S (machine.Drop s h) is = refl
plain_bare S (machine.Agree t) is = refl
plain_bare S (machine.Pass t) is = refl
plain_bare S (machine.Enter t) is = refl
plain_bare S (machine.MoveEntry h) is = refl
plain_bare S (machine.FinishEntry h) is = refl
plain_bare S (machine.DropEntry h) is = refl
plain_bare S (machine.Forget r h) is = refl
plain_bare S (machine.Send m) is = refl

-- who may not be decided doesn't end without a record
module _ (f : Note → Bool) (z : ℕ) (none : f (Decides z) ≡ false) where
  unended : (S : State) (a : machine.Effect) → is_only_of f a ≡ true → (machine.changed S a).bare z ≡ true → S.bare z ≡ true
  unended S (machine.Begin t p) is on = on
  unended S (machine.Take t s) is on = on
  unended S (machine.Seal t) is on = on
  unended S (machine.Intend t nodes) is on = on
  unended S (machine.Decide t) is on = on
  unended S (machine.Remove t nodes) is on = on
  unended S (machine.EndBare t) is on = put_cases (λ b. b ≡ true →
      S.bare z ≡ true) t true S.bare z (λ same b. absurd (never (ap (λ k. f (Decides k)) same ∙ is) none)) (λ other b. b) on
  unended S (machine.Halt t) is on = on
  unended S (machine.Keep t s) is on = on
  unended S (machine.Move s h) is on = on
  unended S (machine.Finish s h) is on = on
  unended S (machine.Drop s h) is on = on
  unended S (machine.Agree t) is on = on
  unended S (machine.Pass t) is on = on
  unended S (machine.Enter t) is on = on
  unended S (machine.MoveEntry h) is on = on
  unended S (machine.FinishEntry h) is on = on
  unended S (machine.DropEntry h) is on = on
  unended S (machine.Forget r h) is on = on
  unended S (machine.Send m) is on = on

  all_unended : (W : World) (es : List machine.Effect) → AreOnlyOf f es → (machine.run W es).disk.bare z ≡ true → W.disk.bare z ≡ true
  all_unended W [] only on = on
  all_unended W (a ∷ es) only on = unended W.disk a only.0 (all_unended (after W a) es only.1 on)

  pub none_ended : (W V : World) → Along (record { from = W; noted = f }) V → V.disk.bare z ≡ true → W.disk.bare z ≡ true
  none_ended W V a on = all_unended W a.effects a.only (ap (λ (U : World). U.disk.bare z) a.here ∙ on)

-- plain effects open no outcome, and nobody is idle again
pub record StaysShut (S T : State) : Type 0 where
  pub opened : (z : ℕ) → undecided T z ≡ true → undecided S z ≡ true
  pub idle : (z : ℕ) → T.stage z ≡ Idle → S.stage z ≡ Idle

pub opens_none : (W : World) (a : machine.Effect) → Allowed W a → is_only_of (λ n. false) a ≡ true → StaysShut W.disk (after W a).disk
opens_none W (machine.Begin t p) can is = absurd (never is refl)
opens_none W (machine.Take t s) can is = record { opened = λ z u. u; idle = λ z i. i }
opens_none W (machine.Seal t) can is = record {
  opened =
      λ z. put_cases (λ g. open_by (decided W.disk z) g (W.disk.intent z) ≡ true → undecided W.disk z ≡ true) t Confirming W.disk.stage z
      (λ same u. subst (λ g. open_by (decided W.disk z) g (W.disk.intent z) ≡ true) (sym (ap W.disk.stage same ∙ can)) u) (λ other u. u);
  idle = λ z. put_cases (λ g. g ≡ Idle → W.disk.stage z ≡ Idle) t Confirming W.disk.stage z (λ same i. cc i) (λ other i. i);
}
opens_none W (machine.Intend t nodes) can is = record {
  opened =
      λ z. put_cases (λ o. open_by (decided W.disk z) (W.disk.stage z) o ≡ true → undecided W.disk z ≡ true) t (Some nodes) W.disk.intent z
      (λ same u. open_made (decided W.disk z) (W.disk.stage z) (W.disk.intent z) (open_done (decided W.disk z) (W.disk.stage z) (Some nodes)
      u) (inl (ap is_open (ap W.disk.stage same ∙ can.sealed)))) (λ other u. u);
  idle = λ z i. i;
}
opens_none W (machine.Decide t) can is = absurd (never is refl)
opens_none W (machine.Remove t nodes) can is = record {
  opened = λ z. put_cases (λ o. open_by (decided W.disk z) (W.disk.stage z) o ≡ true → undecided W.disk z ≡ true) t None W.disk.intent z
      (λ same u. open_made (decided W.disk z) (W.disk.stage z) (W.disk.intent z) (open_done (decided W.disk z) (W.disk.stage z) None u)
      (⊎_elim (λ o. inl o) (λ n. absurd (never n refl)) (open_parts (decided W.disk z) (W.disk.stage z) None u))) (λ other u. u);
  idle = λ z i. i;
}
opens_none W (machine.EndBare t) can is = absurd (never is refl)
opens_none W (machine.Halt t) can is = record {
  opened = λ z. put_cases (λ g. open_by (decided W.disk z) g (W.disk.intent z) ≡ true → undecided W.disk z ≡ true) t Gone W.disk.stage z
      (λ same u. open_made (decided W.disk z) (W.disk.stage z) (W.disk.intent z) (open_done (decided W.disk z) Gone (W.disk.intent z) u)
      (⊎_elim (λ o. absurd (never o refl)) (λ n. inr n) (open_parts (decided W.disk z) Gone (W.disk.intent z) u))) (λ other u. u);
  idle = λ z. put_cases (λ g. g ≡ Idle → W.disk.stage z ≡ Idle) t Gone W.disk.stage z (λ same i. cc i) (λ other i. i);
}
opens_none W (machine.Keep t s) can is = record { opened = λ z u. u; idle = λ z i. i }
opens_none W (machine.Move s h) can is = record { opened = λ z u. u; idle = λ z i. i }
opens_none W (machine.Finish s h) can is = record { opened = λ z u. u; idle = λ z i. i }
opens_none W (machine.Drop s h) can is = record { opened = λ z u. u; idle = λ z i. i }
opens_none W (machine.Agree t) can is = absurd (never is refl)
opens_none W (machine.Pass t) can is = absurd (never is refl)
opens_none W (machine.Enter t) can is = absurd (never is refl)
opens_none W (machine.MoveEntry h) can is = record { opened = λ z u. u; idle = λ z i. i }
opens_none W (machine.FinishEntry h) can is = record { opened = λ z u. u; idle = λ z i. i }
opens_none W (machine.DropEntry h) can is = record { opened = λ z u. u; idle = λ z i. i }
opens_none W (machine.Forget r h) can is = record { opened = λ z u. u; idle = λ z i. i }
opens_none W (machine.Send m) can is = record { opened = λ z u. u; idle = λ z i. i }

-- a commit that needs no record wrote nothing: some store is listed, and it would have one as a target
module _ (W : World) (t : ℕ) (whole : Whole W) (can : machine.CanEndBare W t) where
  core : Core W.disk
  core = whole.core

  undone : decided W.disk t ≡ false
  undone = falls_to (decided W.disk t) (λ d. never (core.coordinators.decided_closed t d) (ap is_gone can.sealed))

  unsettled : undecided W.disk t ≡ true
  unsettled = (λ i. open_by (undone i) (can.sealed i) (W.disk.intent t))

  no_got : (s : ℕ) → W.disk.got t s ≡ true → ⊥
  no_got s got = never (core.coordinators.got_target t s got) (can.untouched s)

  module _ (conf : W.disk.conf t ≡ true) (writes : is_some (W.disk.plan t).writes ≡ true) where
    -- a listed store is about to leave the list
    leaves : (s : ℕ) → Listed W.disk s → IsExcused W.disk t s
    leaves s listed = ⊎_elim (λ got. absurd (no_got s got)) (λ e. e) (core.covered.stores t s conf (inl unsettled) writes listed)

    not_both : (h : Hold) (n : ℕ) → W.disk.entry_pend ≡ Some h → has n h.new.content ≡ true → IsExcused W.disk t n → ⊥
    not_both h n there has_it f = never has_it (ap (λ (z : Hold). has n z.new.content) (some_is there f.there) ∙ f.lacks)

    in_last : (h : Hold) (n : ℕ) → W.disk.entry_pend ≡ Some h → decided W.disk h.top ≡ true → has n h.new.content ≡ true →
        has n (last_entry W.disk).content ≡ true
    in_last h n there done has_it = ap (λ (p : Packed). has n p.content) (sym core.effective.entry
        ∙ ap (λ o. effective_by (decided W.disk) (λ z. z) o W.disk.entry) there ∙ ap (λ b. if b then h.new else W.disk.entry) done) ∙ has_it

    none_left : ⊥
    none_left =
        let s0 = core.pending.held in
        let e = leaves s0.0 (inl s0.1) in
        let s1 = core.pending.stores e.by_entry e.there in
        ⊎_elim (λ here. not_both e.by_entry s1.0 e.there s1.1 (leaves s1.0 (inl here)))
        (λ got. ⊎_elim (λ own. no_got s1.0 (ap (λ z. W.disk.got z s1.0) (sym own) ∙ got))
        (λ other. not_both e.by_entry s1.0 e.there s1.1 (leaves s1.0 (inr (in_last e.by_entry s1.0 e.there other.0 s1.1)))) e.whose)
        (core.pending.new e.by_entry s1.0 e.there s1.1)

  wrote_none : (o : Option Packed) → (W.disk.plan t).writes ≡ o → W.disk.conf t ≡ true → (let p = W.disk.plan t in p.writes) ≡ None
  wrote_none None is conf = is
  wrote_none (Some w) is conf = absurd (none_left conf (ap is_some is))

pub bare_wrote : (W : World) (t : ℕ) → Whole W → machine.CanEndBare W t → (let p = W.disk.plan t in p.writes) ≡ None
bare_wrote W t whole can = ⊎_elim (λ conf. wrote_none W t whole can (W.disk.plan t).writes refl conf)
    (λ light. whole.core.light.plain t light) ((whole.mail (mail.Confirmed t) can.confirmed).1 (unsettled W t whole can))
