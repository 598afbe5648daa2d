-- Decided tops take turns, by the invariant of the lock machine.
use Rattle.arj_law_parts.proofs.Words.{◌≡◌, ◌≢◌, ◌<◌, ◌⊎◌, ℕ, true, inl, inr, refl, sym, arith}
use Rattle.arj_law_serial.proofs.Terms
use Terms.{on, root, top, Run, start, Alive, Call, State, Good, Holds, run_keeps, start_holds, by_cases, on_top, top_is, top_of, top_root}
use Terms.{TakeTurns}
use Rattle.arj_law_lock.proofs.machine.Claims.{Counts, Done}
use Rattle.arj_law_lock.specs.machine.{Actions.Act, Actions.In, Actions.is_top, State.Covered}
use Rattle.arj_law_serial.proofs.order.Timely.{Timely, run_timely, start_timely}
use Rattle.arj_law_serial.specs.order.Turns.{IsDecided}

module _ (s : State) (h : Holds s) (timely : Timely s) where
  own_covered : (a : Act) → Covered s (top a) a
  own_covered a = (sym (top_root a), inl refl)

  its_top : (c : Call) → In c s.calls → is_top (top c.act) ≡ true
  its_top c i = top_is c.act (h.calls c i).acts

  good : (c : Call) → In c s.calls → Alive s c.act → IsDecided s (top c.act) → Good s (top c.act)
  good c i alive decided =
      let p = (h.tops (top c.act) (its_top c i)).called decided.0 decided.1 c i alive (own_covered c.act) in
      let low = decided.0 in
      record { alive = decided.1; going = inr (omega (arith, low)); up = inr p.0; present = inr p.1 }

  counts : (c : Call) → In c s.calls → Alive s c.act → IsDecided s (top c.act) → Counts s c (top c.act)
  counts c i alive decided = record {
    alive = alive;
    good = good c i alive decided;
    top = its_top c i;
    unit = top_root c.act;
    member = inr (own_covered c.act);
    counts = good c i alive decided;
  }

  number_cases : (x y : ℕ) → (x ≡ y) ⊎ (x ≢ y)
  number_cases x y = grind arith

  done_before : (c d : Call) → In c s.calls → In d s.calls → c.line < d.line → c.write ≡ true → Alive s c.act → Alive s d.act →
      IsDecided s (top c.act) → IsDecided s (top d.act) → top c.act ≢ top d.act → Done s (top c.act) d.line
  done_before c d i j line write alive_c alive_d dc dd apart = elim (number_cases (root c.act) (root d.act)) [
    | inl e ↦ h.nested c d i j line e (inl write) alive_c alive_d (good d j alive_d dd) (top c.act) (on_top c.act)
        (elim (by_cases (on d.act (top c.act))) [ inl o ↦ absurd (apart (sym (top_of d.act (top c.act) (its_top c i) o))) | inr f ↦ f ])
    | inr f ↦ ((h.pairs c d (top c.act) i j line f (counts c i alive_c dc) alive_d (good d j alive_d dd)).order (inl write)).1 write
  ]

  pub take_turns : TakeTurns s
  take_turns c d i j line write alive_c alive_d dc dd apart =
      let done = done_before c d i j line write alive_c alive_d dc dd apart in
      let ordered = (h.tops (top c.act) (its_top c i)).ordered done.0 in
      let low = dd.0 in
      let before = timely.places d (top d.act) j (on_top d.act) (its_top d j) (omega (arith, low)) dd.1 in
      let less = done.1 in
      record { committed = done.0; done = done.1; called = omega (arith, ordered, less, before) }

pub turns_taken : (v : ℕ) (s : State) → Run (start v) s → TakeTurns s
turns_taken v s run = take_turns s (run_keeps run (start_holds v)) (run_timely run (start_timely v))
