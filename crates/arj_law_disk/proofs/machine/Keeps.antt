-- Every effect keeps what holds at every moment, and so does every front of a list of effects.
use Rattle.arj_law_disk.proofs.Terms
use Terms.{◌≡◌, ◌⊎◌, ℕ, List, [], ◌∷◌, take, true, false, Some, refl, sym, ◌∙◌, ap, subst, inl, inr, ⊎_elim, Core, Effect, World, Whole}
use Terms.{Allowed, MaySend, after, changed, run, Message, Prepare, Prepared, Confirm, Confirmed, ToldCommit, ToldBare, ToldAbort, Acked}
use Terms.{ToldSerial, Meaning, State, Confirming, naming, is_sealed, is_gone, is_open, decided, undecided, hold, In, put}
use Terms.Effects
use Rattle.arj_law_disk.proofs.machine
use machine.{Beginning.core_begun, Deciding.core_decided, Deciding.core_removed, Taking.core_took}
use machine.Base.{put_true, closed_done, open_made, falls_to}
use machine.Confirming.{core_entered, core_agreed, core_passed}
use machine.Entries.{core_entry_moved, core_entry_finished, core_entry_dropped}
use machine.Mail.{Grows, later, grows_same, grows_begun, grows_took, grows_sealed, grows_halted, grows_ended_bare, grows_intended}
use machine.Mail.{grows_decided, grows_removed, grows_kept, grows_moved, grows_finished, grows_dropped, grows_agreed, grows_passed}
use machine.Mail.{grows_entered, grows_entry_moved, grows_entry_finished, grows_entry_dropped}
use machine.Stages.{core_halted, core_sealed, core_intended, core_ended_bare}
use machine.Stores.{core_kept, core_moved, core_finished, core_dropped}
use Rattle.arj_law_disk.specs.machine.Effects.{Follows}
use Rattle.std.proofs.Common.{zero, suc}

-- what may be sent means what it says
may_mean : (W : World) (m : Message) → Whole W → MaySend W m → Meaning W.disk m
may_mean W (Prepare t s) w x = x
may_mean W (Prepared t s) w x = (w.core.fresh.pend s (hold W.disk t) x, w.core.forms.sent s (hold W.disk t) x, λ u. x)
may_mean W (Confirm t) w x = (w.core.fresh.open_begun t (ap is_open x), ap is_sealed x)
may_mean W (Confirmed t) w x = ((w.mail (Confirm t) x.0).0, x.1)
may_mean W (ToldCommit t m) w x = x
may_mean W (ToldBare t m) w x = x
may_mean W (ToldAbort t m) w x = x
may_mean W (Acked t m) w x =
    let d = w.mail (ToldCommit t m) x.0 in (
      d,
      λ g. ⊎_elim (λ (p : W.disk.pend m ≡ Some (hold W.disk t)). absurd (x.1 (hold W.disk t) p refl)) (λ (e : W.disk.went t m ≡ true). e)
          (w.core.firm.done t m d g),
      x.2,
    )
may_mean W (ToldSerial r m) w x = x

-- the core after an effect, and what messages go on to mean
record Kept (S V : State) : Type 0 where
  core : Core V
  grows : Grows S V
  bare : (t : ℕ) → V.bare t ≡ true → is_gone (S.stage t) ≡ true → S.bare t ≡ true

whole_of : (W : World) (V : State) → Kept W.disk V → Whole W → Whole (record { disk = V; sent = W.sent })
whole_of W V k w = record { core = k.core; mail = λ m i. later W.disk V k.grows k.bare m (w.mail m i) }

-- the top of a told abort isn't open, nor that of a commit
closed : (S : State) (t : ℕ) → decided S t ≡ true → undecided S t ≡ false
closed S t d = closed_done (decided S t) (S.stage t) (S.intent t) d

ended_bare : (S : State) (t : ℕ) → S.stage t ≡ Confirming → (a : ℕ) → put t true S.bare a ≡ true → is_gone (S.stage a) ≡ true →
    S.bare a ≡ true
ended_bare S t is a b g = ⊎_elim (λ (e : a ≡ t). let n : false ≡ true = sym (ap is_gone (ap S.stage e ∙ is)) ∙ g in
    cc) (λ (h : S.bare a ≡ true). h) (put_true t S.bare a b)

-- a top with its Yes from the naming node, while it is open
taken_open : (W : World) (t : ℕ) → W.disk.stage t ≡ Confirming → In (Confirmed t) W.sent → Whole W →
    (W.disk.conf t ≡ true) ⊎ (W.disk.light t ≡ true)
taken_open W t is sent w = (w.mail (Confirmed t) sent).1 (open_made (decided W.disk t) (W.disk.stage t) (W.disk.intent t) (falls_to (decided
    W.disk t) (λ d. let n : false ≡ true = sym (ap is_gone is) ∙ w.core.coordinators.decided_closed t d in cc)) (inl (ap is_open is)))

-- whose record may go is decided, since the naming node acknowledged
pub removed_done : (W : World) (t : ℕ) (nodes : List ℕ) → Allowed W (Effects.Remove t nodes) → Whole W → decided W.disk t ≡ true
removed_done W t nodes x w = (w.mail (Acked t naming) (x.acked naming (w.core.coordinators.record_names t nodes x.record_is))).0

kept_by : (W : World) (e : Effect) → Allowed W e → Whole W → Kept W.disk (changed W.disk e)
kept_by W (Effects.Begin t p) x w =
    record { core = core_begun W.disk t p x w.core; grows = grows_begun W.disk t p x w.core; bare = λ a b g. b }
kept_by W (Effects.Take t s) x w = let m = w.mail (Prepared t s) x.1 in
    record { core = core_took W.disk t s x.0 m.1 m.2 w.core; grows = grows_took W.disk t s x.0 w.core; bare = λ a b g. b }
kept_by W (Effects.Seal t) x w = record { core = core_sealed W.disk t x w.core; grows = grows_sealed W.disk t x; bare = λ a b g. b }
kept_by W (Effects.Intend t nodes) x w = record {
  core = core_intended W.disk t nodes x.sealed (taken_open W t x.sealed x.confirmed w) x.stores x.names w.core;
  grows = grows_intended W.disk t nodes x.sealed w.core;
  bare = λ a b g. b;
}
kept_by W (Effects.Decide t) x w = record { core = core_decided W.disk t x.0 x.1 w.core; grows = grows_decided W.disk t; bare = λ a b g. b }
kept_by W (Effects.Remove t nodes) x w = record {
  core = core_removed W.disk t nodes x.record_is (removed_done W t nodes x w) (λ m i. (w.mail (Acked t m) (x.acked m i)).1)
      ((w.mail (Acked t naming) (x.acked naming (w.core.coordinators.record_names t nodes x.record_is))).2 refl) w.core;
  grows = grows_removed W.disk t nodes (removed_done W t nodes x w);
  bare = λ a b g. b;
}
kept_by W (Effects.EndBare t) x w = record {
  core = core_ended_bare W.disk t x.sealed (taken_open W t x.sealed x.confirmed w) x.no_record x.untouched w.core;
  grows = grows_ended_bare W.disk t;
  bare = ended_bare W.disk t x.sealed;
}
kept_by W (Effects.Halt t) x w = record { core = core_halted W.disk t w.core; grows = grows_halted W.disk t; bare = λ a b g. b }
kept_by W (Effects.Keep t s) x w = let m = w.mail (Prepare t s) x.asked in
    record { core = core_kept W.disk t s m.0 m.1 x.free x.below w.core; grows = grows_kept W.disk t s x.free; bare = λ a b g. b }
kept_by W (Effects.Move s h) x w =
    record { core = core_moved W.disk s h x.0 (w.mail (ToldCommit h.top s) x.1) w.core; grows = grows_moved W.disk s h; bare = λ a b g. b }
kept_by W (Effects.Finish s h) x w = let d = w.mail (ToldCommit h.top s) x.1 in record {
  core = core_finished W.disk s h x.0 d x.2 w.core;
  grows = grows_finished W.disk s h x.0 (closed W.disk h.top d);
  bare = λ a b g. b;
}
kept_by W (Effects.Drop s h) x w = let m = w.mail (ToldAbort h.top s) x.1 in
    record { core = core_dropped W.disk s h x.0 m.1 m.2 w.core; grows = grows_dropped W.disk s h x.0 m.1; bare = λ a b g. b }
kept_by W (Effects.Agree t) x w = let m = w.mail (Confirm t) x.asked in record {
  core = core_agreed W.disk t m.0 m.1 x.writes x.same x.unlisted x.clear x.locked w.core;
  grows = grows_agreed W.disk t;
  bare = λ a b g. b;
}
kept_by W (Effects.Pass t) x w = let m = w.mail (Confirm t) x.asked in record {
  core = core_passed W.disk t m.0 m.1 x.plain x.none x.unlisted x.clear x.unconfirmed w.core;
  grows = grows_passed W.disk t;
  bare = λ a b g. b;
}
kept_by W (Effects.Enter t) x w = let m = w.mail (Confirm t) x.asked in record {
  core = core_entered W.disk t m.0 m.1 x.free x.other x.stores x.undone x.unlisted x.locked w.core;
  grows = grows_entered W.disk t x.undone;
  bare = λ a b g. b;
}
kept_by W (Effects.MoveEntry h) x w = record {
  core = core_entry_moved W.disk h x.0 (w.mail (ToldCommit h.top naming) x.1) w.core;
  grows = grows_entry_moved W.disk h;
  bare = λ a b g. b;
}
kept_by W (Effects.FinishEntry h) x w = record {
  core = core_entry_finished W.disk h x.0 (w.mail (ToldCommit h.top naming) x.1) x.2 w.core;
  grows = grows_entry_finished W.disk h;
  bare = λ a b g. b;
}
kept_by W (Effects.DropEntry h) x w = let m = w.mail (ToldAbort h.top naming) x.1 in
    record { core = core_entry_dropped W.disk h x.0 m.1 m.2 w.core; grows = grows_entry_dropped W.disk h; bare = λ a b g. b }
kept_by W (Effects.Forget r h) x w = let m = w.mail (ToldSerial r naming) x.1 in record {
  core = core_entry_dropped W.disk h x.0 (m.0.1 h.top x.2) (m.1 h.top x.2) w.core;
  grows = grows_entry_dropped W.disk h;
  bare = λ a b g. b;
}
kept_by W (Effects.Send m) x w = record { core = w.core; grows = grows_same W.disk; bare = λ a b g. b }

pub effect_keeps : (W : World) (e : Effect) → Allowed W e → Whole W → Whole (after W e)
effect_keeps W (Effects.Send m) x w = record { core = w.core; mail = λ k i. by k i }
  where
    by : (k : Message) → (m ≡ k) ⊎ In k W.sent → Meaning W.disk k
    by k (inl e) = subst (Meaning W.disk) e (may_mean W m w x)
    by k (inr i) = w.mail k i
effect_keeps W (Effects.Begin t p) x w = whole_of W (changed W.disk (Effects.Begin t p)) (kept_by W (Effects.Begin t p) x w) w
effect_keeps W (Effects.Take t s) x w = whole_of W (changed W.disk (Effects.Take t s)) (kept_by W (Effects.Take t s) x w) w
effect_keeps W (Effects.Seal t) x w = whole_of W (changed W.disk (Effects.Seal t)) (kept_by W (Effects.Seal t) x w) w
effect_keeps W (Effects.Intend t nodes) x w =
    whole_of W (changed W.disk (Effects.Intend t nodes)) (kept_by W (Effects.Intend t nodes) x w) w
effect_keeps W (Effects.Decide t) x w = whole_of W (changed W.disk (Effects.Decide t)) (kept_by W (Effects.Decide t) x w) w
effect_keeps W (Effects.Remove t nodes) x w =
    whole_of W (changed W.disk (Effects.Remove t nodes)) (kept_by W (Effects.Remove t nodes) x w) w
effect_keeps W (Effects.EndBare t) x w = whole_of W (changed W.disk (Effects.EndBare t)) (kept_by W (Effects.EndBare t) x w) w
effect_keeps W (Effects.Halt t) x w = whole_of W (changed W.disk (Effects.Halt t)) (kept_by W (Effects.Halt t) x w) w
effect_keeps W (Effects.Keep t s) x w = whole_of W (changed W.disk (Effects.Keep t s)) (kept_by W (Effects.Keep t s) x w) w
effect_keeps W (Effects.Move s h) x w = whole_of W (changed W.disk (Effects.Move s h)) (kept_by W (Effects.Move s h) x w) w
effect_keeps W (Effects.Finish s h) x w = whole_of W (changed W.disk (Effects.Finish s h)) (kept_by W (Effects.Finish s h) x w) w
effect_keeps W (Effects.Drop s h) x w = whole_of W (changed W.disk (Effects.Drop s h)) (kept_by W (Effects.Drop s h) x w) w
effect_keeps W (Effects.Agree t) x w = whole_of W (changed W.disk (Effects.Agree t)) (kept_by W (Effects.Agree t) x w) w
effect_keeps W (Effects.Pass t) x w = whole_of W (changed W.disk (Effects.Pass t)) (kept_by W (Effects.Pass t) x w) w
effect_keeps W (Effects.Enter t) x w = whole_of W (changed W.disk (Effects.Enter t)) (kept_by W (Effects.Enter t) x w) w
effect_keeps W (Effects.MoveEntry h) x w = whole_of W (changed W.disk (Effects.MoveEntry h)) (kept_by W (Effects.MoveEntry h) x w) w
effect_keeps W (Effects.FinishEntry h) x w = whole_of W (changed W.disk (Effects.FinishEntry h)) (kept_by W (Effects.FinishEntry h) x w) w
effect_keeps W (Effects.DropEntry h) x w = whole_of W (changed W.disk (Effects.DropEntry h)) (kept_by W (Effects.DropEntry h) x w) w
effect_keeps W (Effects.Forget r h) x w = whole_of W (changed W.disk (Effects.Forget r h)) (kept_by W (Effects.Forget r h) x w) w

pub run_keeps : (W : World) (es : List Effect) → Follows W es → Whole W → Whole (run W es)
run_keeps W [] f w = w
run_keeps W (e ∷ es) f w = run_keeps (after W e) es f.1 (effect_keeps W e f.0 w)

-- a stop is a front of a list of effects
pub front_follows : (W : World) (n : ℕ) (es : List Effect) → Follows W es → Follows W (take n es)
front_follows W zero es f = tt
front_follows W (suc n) [] f = tt
front_follows W (suc n) (e ∷ es) f = (f.0, front_follows (after W e) n es f.1)
