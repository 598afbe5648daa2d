-- What follows with the naming node's half.
use Rattle.arj_law_disk.proofs.Terms
use Terms.{◌≡◌, ◌⊎◌, ℕ, ◌+◌, Bool, true, false, Option, Some, None, is_some, unwrap_or, refl, sym, ap, subst, inl, inr, ⊎_elim, arith, Core}
use Terms.{Named, Office, State, Packed, is_open, undecided, decided, decided_in, state_for, last, Below, In}
use Rattle.arj_law_disk.proofs.machine
use machine.{Base.never, Base.never_some, Base.open_parts, History.known_below, Listing.plain_target, Results.first_is_whole}
use machine.Booking.{agree_locked, enter_locked, changes_part, enter_free}
use Rattle.arj_law_disk.specs.machine.NamingLaws.{FirstIsNamed, IsBooked, OldNeedsRestart}

pub booked : (A : Office) → Named A → IsBooked A
booked A c = record {
  agrees = λ t may u. agree_locked A c t may.confirm (λ p. may.present) may.writes may.same may.next u;
  enters = λ t may u. enter_locked A c t may.confirm (λ p. may.present) (enter_free A c t may.confirm (λ p. may.present) may.other)
      (changes_part A c t may.confirm (λ p. may.present) may.other) may.stores may.next u;
  prepares = λ t may. enter_free A c t may.confirm (λ p. may.present) may.other;
}

pub old_needs_restart : (A : Office) → Named A → OldNeedsRestart A
old_needs_restart A c t s g u goal next held old present = old (by (S.plan t).writes refl)
  where
    S : State
    S = A.world.disk

    core : Core S
    core = c.whole.core

    low : Below g (last S)
    low = known_below S g core.history (core.history.held s g held)

    above : (w : Packed) → w.version ≡ (last S).version + 1 → Below g (last S) → Below g w
    above w e (inl less) = inl (omega (arith, e, less))
    above w e (inr is) = inl (omega (arith, e, ap (λ (x : Packed). x.version) is))

    by : (o : Option Packed) → (S.plan t).writes ≡ o → Below g (state_for (S.plan t))
    by None e = subst (λ o. Below g (unwrap_or o (S.plan t).loaded)) (sym e)
        (subst (Below g) (sym (c.plans.loaded t s u (plain_target (S.plan t) s e goal) present).0) low)
    by (Some w) e = subst (λ o. Below g (unwrap_or o (S.plan t).loaded)) (sym e) (above w (next w e) low)

pub first_is_named : FirstIsNamed
first_is_named S N f forest n = record {
  whole = first_is_whole S f;
  roots = record {
    serial = forest.serial;
    plain = forest.plain;
    idem = forest.idem;
    tops = λ t b. no_way b (f.unbegun t);
    one = λ t z u. absurd (closed t u);
  };
  rows = record {
    apart = λ h k a b p. none_some (n.row h) p;
    alone = λ t h a g. no_way g (n.given t);
    dead = λ t g. no_way g (n.given t);
    given = λ t g. no_way g (n.given t);
    guard = λ h p. none_some f.entry_free p;
    adds = λ h s p. none_some f.entry_free p;
    out = λ h s p. none_some f.entry_free p;
    since = λ h s p. none_some f.entry_free p;
    asked = λ t a. no_way a (n.asked t);
  };
  grants = record {
    past = λ t i h. no_way h (n.had t i);
    row = λ t s h. no_way h (n.had t N.inc);
    root = λ r s h. no_way h (n.had r N.inc);
    conf = λ t x h. no_way h (n.had t N.inc);
    part = λ t x. untaken t x;
    yes = λ t h. no_way h (n.confd t);
    listed = λ t d. no_way d (undone t);
    acked = λ t m. absurd m;
    told = λ t h. no_way h (n.told t);
  };
  lists = record {
    had = λ h k e. none_some (n.kept h) e;
    kept = λ h k e. none_some (n.kept h) e;
    plan = λ t u. absurd (closed t u);
    light = λ t s l. no_way l (f.none_light t);
  };
  answers = λ a m. absurd (subst (In a) n.answers m);
  plans = record {
    writer = λ t w b. no_way b (f.unbegun t);
    asked = λ t s b. no_way b (f.unbegun t);
    loaded = λ t s u. absurd (closed t u);
  };
}
  where
    no_way : {P : Type 0} {b : Bool} → b ≡ true → b ≡ false → P
    no_way y z = absurd (never y z)

    none_some : {P B : Type 0} {o : Option B} {y : B} → o ≡ None → o ≡ Some y → P
    none_some z y = absurd (never_some y z)

    undone : (t : ℕ) → decided S t ≡ false
    undone t = ap (λ ds. decided_in ds t) f.undecided

    closed : (t : ℕ) → undecided S t ≡ true → ⊥
    closed t u = ⊎_elim (λ (o : is_open (S.stage t) ≡ true). never o (ap is_open (f.idle t)))
        (λ (i : is_some (S.intent t) ≡ true). never i (ap is_some (f.no_record t))) (open_parts (decided S t) (S.stage t) (S.intent t) u)

    untaken : {P : Type 0} (t : ℕ) → (S.conf t ≡ true) ⊎ (S.light t ≡ true) → P
    untaken t (inl h) = no_way h (f.none_conf t)
    untaken t (inr h) = no_way h (f.none_light t)
