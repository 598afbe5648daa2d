-- A call gets its ok line.
use Rattle.arj_law_lock.proofs.Terms
use Terms.{◌≡◌, ◌≢◌, ◌≤◌, ◌<◌, ◌+◌, ◌⊎◌, ℕ, List, ◌∷◌, true, false, inl, inr, refl, sym, ◌∙◌, ap, subst, arith, Act, Root, on, root, top}
use Terms.{is_action, In, mode, Action, Call, Answer, Invoked, State, Alive, Passed, Guard, next, same, Answered, stopped}
use Rattle.arj_law_lock.proofs.machine
use machine.{Core.follows, Core.passes}
use machine.ActionSteps.{Moves, alive_before, later_action, naming_action, turns_action, anti_action, low_requests}
use machine.Claims.{GoesOn, Covers, Good, Pending, Conflict, Mean, CallHolds, WaitHolds, Waits, Follows, Counts, Pairs, Nested, Holds}
use machine.Lasts.{top_on, wait_on, binding_on, mean_on, call_on, include_on, pairs_on, nested_on, counts_back}
use machine.Later.{Later, passed_on, done_on, before_on, covers_on, mode_positive, sure_on}
use machine.Paths.{by_cases, differ, top_root, top_is, on_top, act_cases, same_self, on_base}

-- A call gets its ok line.
pub answered : (s : State) (r : Answer) (p : ℕ) → Guard (Answered r p) s → Holds s →
    Later s (next (Answered r p) s) × Holds (next (Answered r p) s)
answered s r p guard h = (
  later,
  record {
    naming = naming_action s a x (p + 1) cs s.net m h fresh never;
    bindings = λ b e. binding_on h later b e;
    servers = h.servers;
    calls = calls;
    includes = λ c i. include_on h later c i;
    tops = λ y is. top_on h later y is (stage_same y) refl refl;
    turns = turns_action s h a x (p + 1) s.net m' (λ is. (refl, refl, refl));
    ended = λ y act three. ended y act three;
    waits = waits;
    anti = anti_action s h a x (p + 1) s.net m' (λ v. (let never : false ≡ true = v in absurd (cc)));
    pairs = pairs;
    nested = nested;
    mail = λ y i. mean_on h later y (h.mail y i);
  },
)
  where
    a : Act
    a = r.request.act

    x : Action
    x = stopped (s.action r.request.act)

    c0 : Call
    c0 = record { act = r.request.act; write = r.request.write; line = p; sees = r.sees; gives = r.gives }

    cs : List Call
    cs = c0 ∷ s.calls

    t : State
    t = next (Answered r p) s

    now : s.now ≤ p
    now = guard.4

    mean : Mean s (Invoked r)
    mean = h.mail (Invoked r) guard.0

    act : is_action r.request.act ≡ true
    act = mean.0.0

    zero : (u : Act) → on r.request.act u ≡ true → (s.action u).stage ≡ 0
    zero = guard.3

    pending : Pending s r.request.act r.request.number
    pending = record {
      last = guard.1;
      waits = guard.2;
      alive = λ u o. (let z = guard.3 u o in omega (arith, z));
      going = (let z = guard.3 (Root (root r.request.act)) (on_base r.request.act) in omega (arith, z));
    }

    wait : WaitHolds s r.request.act
    wait = h.waits r.request.act pending.waits pending.alive pending.going

    m : Moves s a x (p + 1) cs s.net
    m = record {
      now = (let n = now in omega (arith, n));
      stage = omega arith;
      ends = λ e. (e, refl);
      fresh = λ ac e. inl e;
      place = λ l. refl;
      placed = λ l. (let n = now in omega (arith, n, l));
      going = λ is l g. inl l;
      request = omega arith;
      unit = inl refl;
      pend = λ j low e v. (let never : false ≡ true = v in absurd (cc));
    }

    m' : Moves s a x (p + 1) s.calls s.net
    m' = record {
      now = (let n = now in omega (arith, n));
      stage = omega arith;
      ends = λ e. (e, refl);
      fresh = λ ac e. inl e;
      place = λ l. refl;
      placed = λ l. (let n = now in omega (arith, n, l));
      going = λ is l g. inl l;
      request = omega arith;
      unit = inl refl;
      pend = λ j low e v. (let never : false ≡ true = v in absurd (cc));
    }

    stage_same : (u : Act) → (t.action u).stage ≡ (s.action u).stage
    stage_same = act_cases (λ (b : Act) (v : Action). v.stage ≡ (s.action b).stage) s.action a x refl (λ b f. refl)

    top_zero : (s.action (top r.request.act)).stage ≡ 0
    top_zero = zero (top r.request.act) (on_top r.request.act)

    fresh : (c : Call) → In c cs → In c s.calls ⊎ (((t.action (top c.act)).stage ≡ 0) × (s.now ≤ c.line))
    fresh c (inl is) = inr (subst (λ (d : Call). ((t.action (top d.act)).stage ≡ 0) × (s.now ≤ d.line)) (sym is)
        (stage_same (top r.request.act) ∙ top_zero, now))
    fresh c (inr i) = inl i

    never : (c : Call) → s.confirmed (top c.act) ≡ true → In c cs → (t.action (top c.act)).stage ≡ 0 → ⊥
    never c conf i z = let l = (h.tops (top c.act) (top_is c.act (acts c i))).asked conf in let e = stage_same (top c.act) in
        omega (arith, l, e, z)
      where
        acts : (c : Call) → In c cs → is_action c.act ≡ true
        acts c (inl is) = ap (λ (d : Call). is_action d.act) is ∙ act
        acts c (inr i) = (h.calls c i).acts

    later : Later s t
    later = later_action s a x (p + 1) cs s.net m (λ c i. inr i) fresh never

    ended : (y : Act) → is_action y ≡ true → (t.action y).stage ≡ 3 → (t.action y).done < p + 1
    ended = act_cases (λ (b : Act) (v : Action). is_action b ≡ true → v.stage ≡ 3 →
        v.done < p + 1) s.action a x (λ ac e. (let l = h.ended r.request.act ac e in let n = now in omega (arith, l, n)))
        (λ b f ac e. (let l = h.ended b ac e in let n = now in omega (arith, l, n)))

    calls : (c : Call) → In c cs → CallHolds t c
    calls c (inl is) = subst (λ (d : Call). CallHolds t d) (sym is) (record {
      acts = act;
      before = omega arith;
      sure = λ alive. sure_on later (top r.request.act) (top_is r.request.act act) (let e = stage_same (top r.request.act) in
          let z = top_zero in omega (arith, e, z)) refl (h.naming.kept_below (root (top r.request.act)))
          (λ three. absurd (let z = top_zero in omega (arith, z, three))) wait.sure;
      covers = λ alive. covers_on later (s.kept (root r.request.act)) named (h.bindings (s.kept (root r.request.act)) named).below
          r.request.act (mode r.request.write) (mode_positive later r.request.write) alive (λ three. absurd (let z = top_zero in
          omega (arith, z, three))) (subst (λ (j : ℕ). Covers s r.request.act j (mode r.request.write)) binding (mean.2 pending).0);
    })
      where
        binding : r.request.binding ≡ s.kept (root r.request.act)
        binding = mean.0.3 pending

        named : (s.binding (s.kept (root r.request.act))).named ≡ true
        named = subst (λ (j : ℕ). (s.binding j).named ≡ true) binding mean.0.2
    calls c (inr i) = call_on h later c i

    waits : (b : Act) → Waits t b
    waits b w alive goes =
        wait_on h later b (low_requests s h a x (p + 1) s.net m' (omega arith) b) (λ u o ac z w' alive'. stage_same u ∙ z) new w alive goes
      where
        waits_before : (c : Act) → (t.action c).waits ≡ true → (same c a ≡ false) × ((s.action c).waits ≡ true)
        waits_before = act_cases (λ (c : Act) (v : Action). v.waits ≡ true → (same c a ≡ false) × ((s.action c).waits ≡ true)) s.action a x
            (λ v. (let never : false ≡ true = v in absurd (cc))) (λ c f v. (f, v))

        new : (c : Call) → In c cs → In c s.calls ⊎ (on c.act b ≡ false)
        new c (inr i) = inl i
        new c (inl is) = inr (subst (λ (d : Call). on d.act b ≡ false) (sym is) (elim (by_cases (on r.request.act b)) [
          | inl o ↦ (let q = waits_before b w in differ (subst (λ (y : Act). same y a ≡ true) (h.anti r.request.act b guard.2 pending.alive
              q.1 (alive_before s a x (p + 1) cs s.net m b alive) o) (same_self r.request.act)) q.0)
          | inr f ↦ f
        ]))

    good_before : Good t (top r.request.act) → Good s (top r.request.act)
    good_before g = record { alive = (let z = top_zero in omega (arith, z)); going = inl pending_top; up = g.up; present = g.present }
      where
        pending_top : GoesOn s (root (top r.request.act))
        pending_top = subst (λ (u : ℕ). GoesOn s u) (sym (top_root r.request.act)) pending.going

    old_line : (c : Call) → In c s.calls → c.line < p
    old_line c i = let l = (h.calls c i).before in let n = now in omega (arith, l, n)

    pairs : Pairs t
    pairs c d y (inl ic) (inl id) line = absurd (let e : c.line ≡ p = ap (λ (z : Call). z.line) ic in
        let f : d.line ≡ p = ap (λ (z : Call). z.line) id in omega (arith, e, f, line))
    pairs c d y (inl ic) (inr id) line =
        absurd (let e : c.line ≡ p = ap (λ (z : Call). z.line) ic in let l = old_line d id in omega (arith, e, l, line))
    pairs c d y (inr ic) (inl id) line = subst (λ (e : Call). root c.act ≢ root e.act → Counts t c y → Alive t e.act → Good t (top e.act) →
        Follows t c e.act e.write e.line y) (sym id) new
      where
        new : root c.act ≢ root r.request.act → Counts t c y → Alive t r.request.act → Good t (top r.request.act) →
            Follows t c r.request.act r.request.write p y
        new apart k alive good = record {
          node = elim f.node [ inl q ↦ inl (before_on later y p q) | inr e ↦ inr e ];
          order = λ conflict. let o = f.order conflict in (before_on later y p o.0, λ write. done_on later (top c.act) p (o.1 write));
        }
          where
            f : Follows s c r.request.act r.request.write p y
            f = follows h r guard.0 pending (good_before good) c y ic (counts_back h later c y ic k) apart p now
    pairs c d y (inr ic) (inr id) line = pairs_on h later c d y ic id line

    nested : Nested t
    nested c d (inl ic) (inl id) line = absurd (let e : c.line ≡ p = ap (λ (z : Call). z.line) ic in
        let f : d.line ≡ p = ap (λ (z : Call). z.line) id in omega (arith, e, f, line))
    nested c d (inl ic) (inr id) line =
        absurd (let e : c.line ≡ p = ap (λ (z : Call). z.line) ic in let l = old_line d id in omega (arith, e, l, line))
    nested c d (inr ic) (inl id) line = subst (λ (e : Call). root c.act ≡ root e.act → Conflict c.write e.write → Alive t c.act →
        Alive t e.act → Good t (top e.act) → Passed t c.act e.act e.line) (sym id)
        (λ kin conflict ca alive good. passed_on later c.act r.request.act p
        (passes h r guard.0 pending (good_before good) c ic (alive_before s a x (p + 1) cs s.net m c.act ca) kin conflict p now))
    nested c d (inr ic) (inr id) line = nested_on h later c d ic id line
