-- A call that is held in a state of the lock machine is held where only ends came to servers.
use Rattle.arj_law_parts.proofs.Words.{◌≡◌, ◌≤◌, ℕ, true, inl, inr, refl, sym, ◌∙◌, ap, subst, arith}
use Rattle.arj_law_serial.proofs.Terms
use Terms.{on, root, mode, Alive, Call, Server, State, Survives, Run, next, stay, step, Closes, Good, Holds, run_keeps, step_keeps, lives}
use Terms.{RootsLow, roots_low}
use Rattle.arj_law_lock.proofs.machine
use machine.{Core.open_good, Core.up_not_past, Lasts.good_on, Lasts.kept_holds, Lasts.member_back, Later.Later, Later.alive_back}
use machine.{Ordered.closes_counts, Ordered.good_top}
use machine.Claims.{Covers, GoesOn, IsPast, IsUp, Member, dropped, gone, over, stands}
use Rattle.arj_law_lock.specs.machine.{Actions.Act, Actions.In, Actions.is_top, Laws.CountsFor}

-- what counts at the end of a run counted in each state before
record WasSo (s t : State) (c : Call) (m : Act) : Type 0 where
  alive : Alive s c.act
  good : Good s m
  member : Member s m c.act
  kept : t.kept (root c.act) ≡ s.kept (root c.act)
  server : (t.binding (t.kept (root c.act))).server ≡ (s.binding (s.kept (root c.act))).server

was_so : {s t : State} → Run s t → Holds s → (c : Call) → In c s.calls → (m : Act) → is_top m ≡ true → root m ≡ root c.act → Alive t c.act →
    Good t m → Member t m c.act → WasSo s t c m
was_so stay h c i m is r alive good member = record { alive = alive; good = good; member = member; kept = refl; server = refl }
was_so {s} {t} (step e guard rest) h c i m is r alive good member = by (was_so rest k.1 c (k.0.calls c i) m is r alive good member)
  where
    u : State
    u = next e s

    k : Later s u × Holds u
    k = step_keeps e s guard h

    by : WasSo u t c m → WasSo s t c m
    by b = record {
      alive = before;
      good = good_on h k.0 c i b.alive m is r its b.good;
      member = its;
      kept = b.kept ∙ k.0.keeps c i b.alive;
      server = b.server ∙ ap (λ j. (u.binding j).server) (k.0.keeps c i b.alive)
          ∙ (k.0.made (s.kept (root c.act)) (kept_holds h c i before).below).0;
    }
      where
        before : Alive s c.act
        before = alive_back k.0 c.act b.alive

        its : Member s m c.act
        its = member_back h k.0 m c.act is (h.calls c i).acts b.member

-- In the state with these servers, to which the machine may go by ends alone: the copies have the bindings that they had.
module _ {s t : State} (run : Run s t) (h : Holds s) (low : RootsLow s) (c : Call) (m : Act) (there : In c s.calls)
    (survives : Survives t c.act) (closes : Closes t m c.act) (zero : (s.action m).stage ≡ 0)
    (servers : ℕ → Server) (to : Run s (record s { server = servers })) (incs : (n : ℕ) →
    (servers n).incarnation ≡ (s.server n).incarnation) (actives : (n : ℕ) → (servers n).active ≡ (s.server n).active) where
  abbrev inner : State
  inner = record s { server = servers }

  at_end : Holds t
  at_end = run_keeps run h

  at_inner : Holds inner
  at_inner = run_keeps to h

  later_call : {u v : State} → Run u v → Holds u → In c u.calls → In c v.calls
  later_call stay g j = j
  later_call (step e guard rest) g j = let k = step_keeps e _ guard g in later_call rest k.1 (k.0.calls c j)

  counts : CountsFor t m c.act
  counts = closes_counts at_end (roots_low run low) c.act m (h.calls c there).acts survives closes

  unit : root m ≡ root c.act
  unit = sym counts.1.0

  was : WasSo s t c m
  was = was_so run h c there m counts.0.0 unit (lives t (roots_low run low) c.act survives)
      (good_top at_end (roots_low run low) c m (later_call run h there) survives counts.0.0 counts.0.1 counts.1) (inr counts.1)

  opened : GoesOn s (root m) × IsUp s (s.kept (root m)) × (s.naming.first ≤ s.kept (root m))
  opened = open_good h m counts.0.0 zero (let p = (kept_holds h c there was.alive).positive in
      let e : s.kept (root m) ≡ s.kept (root c.act) = ap s.kept unit in omega (arith, p, e)) was.good

  goes : GoesOn s (root c.act)
  goes = subst (λ (u : ℕ). GoesOn s u) unit opened.0

  pub inner_held : (x : Act) × (on c.act x ≡ true) × (mode c.write ≤ (servers (t.binding (t.kept (root c.act))).server).rows x)
  inner_held = by ((at_inner.calls c there).covers was.alive)
    where
      past : IsPast inner (s.kept (root c.act)) → IsPast s (s.kept (root c.act))
      past (inl less) = inl (let e = incs (s.binding (s.kept (root c.act))).server in omega (arith, less, e))
      past (inr (same, less)) = inr (
        same ∙ incs (s.binding (s.kept (root c.act))).server,
        (let e = actives (s.binding (s.kept (root c.act))).server in omega (arith, less, e)),
      )

      by : Covers inner c.act (s.kept (root c.act)) (mode c.write) →
          (x : Act) × (on c.act x ≡ true) × (mode c.write ≤ (servers (t.binding (t.kept (root c.act))).server).rows x)
      by (gone p) = absurd (up_not_past s (s.kept (root c.act)) (subst (λ (u : ℕ). IsUp s (s.kept u)) unit opened.1) (past p))
      by (over l) = absurd (let g = goes in omega (arith, g, l))
      by (dropped u o l) = absurd (let g = was.alive u o in omega (arith, g, l))
      by (stands x u o row merged) = (x, o, subst (λ (n : ℕ). mode c.write ≤ (servers n).rows x) (sym was.server) row)
