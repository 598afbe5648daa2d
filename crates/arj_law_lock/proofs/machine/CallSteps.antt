-- Coordinators: calls sent and stopped, nested ends, aborts.
use Rattle.arj_law_lock.proofs.Terms
use Terms.{◌≡◌, ◌≤◌, ◌<◌, ◌+◌, ◌⊎◌, ℕ, List, ◌∷◌, Bool, true, false, inl, inr, refl, sym, ◌∙◌, ap, subst, arith, Act, Root, Sub, on, root}
use Terms.{top, is_top, is_action, In, Action, Request, Message, Live, Made, Recorded, Invoke, State, Alive, Guard, next, same, at_act}
use Terms.{Open, SendInvoke, CommitNested, Abort}
use Rattle.arj_law_lock.proofs.machine
use machine.{Lasts.top_on, Lasts.top_gen, Lasts.is_confirmed, Later.Later}
use machine.ActionSteps.{Moves, acted_here, acted_other, alive_before, later_acted, join_action, tops_action, turns_action, waits_action}
use machine.ActionSteps.{anti_action, low_requests}
use machine.Claims.{GoesOn, Anchor, Sure, Mean, TopHolds, Waits, Anti, Done, Turns, Holds, own, unit, sibling}
use machine.Paths.{by_cases, differ, top_root, top_is, on_top, act_cases, same_is, on_self, on_base, on_trans}
use Rattle.arj_law_lock.specs.machine.Steps.{KnowsRecorded, MayUse}

-- Steps of coordinators: calls, ends and commits.

pub top_acts : (a : Act) → is_action a ≡ true → is_action (top a) ≡ true
top_acts (Root u) e = e
top_acts (Sub (Root u) n) e = refl
top_acts (Sub (Sub b k) n) e = top_acts (Sub b k) refl

-- An open action's top is not told of.
pub untold : (s : State) → Holds s → (a : Act) → is_action a ≡ true → Open s a → s.naming.told (top a) ≡ false
untold s h a act opened = elim (by_cases (s.naming.told (top a))) [
  | inl t ↦ elim (h.naming.told (top a) (top_is a act) t) [
    | inl l ↦ absurd (let z = opened (top a) (on_top a) in omega (arith, l, z))
    | inr l ↦ absurd (let z = opened (Root (root (top a))) (on_trans a (top a) (Root (root (top a))) (on_top a) (on_base (top a))) in
        omega (arith, l, z))
  ]
  | inr f ↦ f
]

-- Who may use the kept binding is sure of it.
pub is_sure : (s : State) → Holds s → (a : Act) → is_action a ≡ true → Open s a → KnowsRecorded s (s.kept (root a)) →
    MayUse s (top a) (s.kept (root a)) → Sure s (top a)
is_sure s h a act opened knows may =
    record { named = subst (λ (j : ℕ). (s.binding j).named ≡ true) (sym same_kept) known.0; here = here may }
  where
    k : ℕ
    k = s.kept (root a)

    known : ((s.binding k).named ≡ true) × (k ≤ s.naming.recorded)
    known = elim knows [ inl i ↦ h.mail (Recorded k) i | inr p ↦ (let m = h.mail (Live p.0 k) p.1 in (m.1, m.2)) ]

    same_kept : s.kept (root (top a)) ≡ k
    same_kept = ap s.kept (top_root a)

    exact : (1 ≤ s.naming.rows (top a)) × ((s.naming.recorded < k) ⊎ ((s.naming.recorded ≡ k) ⊎ (k < s.kept (root (top a))))) →
        (s.naming.recorded ≡ s.kept (root (top a))) × Anchor s 1 (top a)
    exact p = (by p.1, own (p.0, λ two. absurd (omega (arith, two))))
      where
        by : (s.naming.recorded < k) ⊎ ((s.naming.recorded ≡ k) ⊎ (k < s.kept (root (top a)))) → s.naming.recorded ≡ s.kept (root (top a))
        by (inl l) = absurd (let q = known.1 in omega (arith, l, q))
        by (inr (inl e)) = e ∙ sym same_kept
        by (inr (inr l)) = absurd (let e = same_kept in omega (arith, l, e))

    here : MayUse s (top a) k → s.naming.first ≤ s.kept (root (top a)) → GoesOn s (root (top a)) →
        (s.naming.recorded ≡ s.kept (root (top a))) × Anchor s 1 (top a)
    here (inl i) present goes =
        exact ((h.mail (Live (top a) k) i).3 (let e = same_kept in omega (arith, present, e)) (untold s h a act opened))
    here (inr (inl i)) present goes =
        exact ((h.mail (Made (top a) k) i).4 (let e = same_kept in omega (arith, present, e)) (untold s h a act opened))
    here (inr (inr (c, i, alive, (r, three)))) present goes = (p.0 ∙ e, by p.1)
      where
        e : s.kept (root (top c.act)) ≡ s.kept (root (top a))
        e = ap s.kept (top_root c.act ∙ r)

        p : (s.naming.recorded ≡ s.kept (root (top c.act))) × Anchor s 1 (top c.act)
        p = ((h.calls c i).sure alive).here (let q = e in
            omega (arith, present, q)) (subst (λ (u : ℕ). GoesOn s u) (sym (top_root c.act ∙ r)) goes)

        by : Anchor s 1 (top c.act) → Anchor s 1 (top a)
        by (own q) =
            sibling (top c.act) (top_is c.act (h.calls c i).acts) (top_root c.act ∙ r) three (is_confirmed h c i alive three (let q' = e in
            let f : s.kept (root (top c.act)) ≡ s.kept (root c.act) = ap s.kept (top_root c.act) in omega (arith, present, q', f))) q
        by (unit l) = unit (subst (λ (u : ℕ). 1 ≤ s.naming.rows (Root u)) (top_root c.act ∙ r) l)
        by (sibling z it rz tz cz q) = sibling z it (rz ∙ top_root c.act ∙ r) tz cz q

pub send_invoke : (s : State) (a : Act) (k : ℕ) (w : Bool) → Guard (SendInvoke a k w) s → Holds s →
    Later s (next (SendInvoke a k w) s) × Holds (next (SendInvoke a k w) s)
send_invoke s a k w guard h = (
  later,
  join_action s h a x s.now ms m (tops_action s h a x s.now ms m (inl refl)) (turns_action s h a x s.now ms m (λ is. (refl, refl, refl)))
      (λ act three. h.ended a act three) waits anti mail,
)
  where
    x : Action
    x = record (s.action a) { request = k; waits = true; since = s.now }

    q : Request
    q = record { act = a; number = k; binding = s.kept (root a); write = w }

    ms : List Message
    ms = Invoke q ∷ s.net

    t : State
    t = next (SendInvoke a k w) s

    rise : (s.action a).request < k
    rise = guard.2

    m : Moves s a x s.now s.calls ms
    m = record {
      now = omega arith;
      stage = omega arith;
      ends = λ e. (e, refl);
      fresh = λ act e. inl e;
      place = λ l. refl;
      placed = λ l. l;
      going = λ is l g. inl l;
      request = (let r = rise in omega (arith, r));
      unit = inl refl;
      pend = λ j low e v. absurd (let r = rise in omega (arith, r, low, e));
    }

    later : Later s t
    later = later_acted s h a x s.now ms m

    sure : Sure s (top a)
    sure = is_sure s h a guard.0 guard.1 guard.4 guard.5

    stage_same : (u : Act) → (t.action u).stage ≡ (s.action u).stage
    stage_same = act_cases (λ (b : Act) (v : Action). v.stage ≡ (s.action b).stage) s.action a x refl (λ b f. refl)

    waits : (b : Act) → Waits t b
    waits b = elim (by_cases (same b a)) [
      | inl e ↦ subst (λ (c : Act). Waits t c) (sym (same_is b a e)) here
      | inr f ↦ waits_action s h a x s.now ms m (λ c o act zero v alive. zero) b (let e = acted_other s a x s.now s.calls ms b f in
          let e' : (t.action b).request ≡ (s.action b).request = ap (λ (y : Action). y.request) e in omega (arith, e'))
    ]
      where
        here : Waits t a
        here v alive goes = record {
          acts = guard.0;
          sure = record {
            named = sure.named;
            here = λ present going. let p = sure.here present (let e = stage_same (Root (root (top a))) in omega (arith, e, going)) in
                (p.0, anchor p.1);
          };
          path = λ u o act. stage_same u ∙ guard.1 u o;
          since =
              (let e : (t.action a).since ≡ s.now = ap (λ (y : Action). y.since) (acted_here s a x s.now s.calls ms) in omega (arith, e));
          alone = λ c i line. absurd (let e : (t.action a).since ≡ s.now = ap (λ (y : Action). y.since)
              (acted_here s a x s.now s.calls ms) in let l = (h.calls c i).before in omega (arith, e, l, line));
        }
          where
            anchor : Anchor s 1 (top a) → Anchor t 1 (top a)
            anchor (own p) = own p
            anchor (unit l) = unit l
            anchor (sibling z it r three c p) = sibling z it r (stage_same z ∙ three) c p

    back : (b : Act) → Alive t b → Alive s b
    back = alive_before s a x s.now s.calls ms m

    anti : Anti t
    anti b c wb ab wc ac o = by (by_cases (same b a)) (by_cases (same c a))
      where
        old : (y : Act) → same y a ≡ false → (t.action y).waits ≡ true → (s.action y).waits ≡ true
        old y f v = sym (ap (λ (z : Action). z.waits) (acted_other s a x s.now s.calls ms y f)) ∙ v

        by : (same b a ≡ true) ⊎ (same b a ≡ false) → (same c a ≡ true) ⊎ (same c a ≡ false) → b ≡ c
        by (inl e) (inl f) = same_is b a e ∙ sym (same_is c a f)
        by (inl e) (inr f) = differ (subst (λ (y : Act). on y c ≡ true) (same_is b a e) o) (guard.3 c (old c f wc) (back c ac)).0
        by (inr e) (inl f) = differ (subst (λ (y : Act). on b y ≡ true) (same_is c a f) o) (guard.3 b (old b e wb) (back b ab)).1
        by (inr e) (inr f) = h.anti b c (old b e wb) (back b ab) (old c f wc) (back c ac) o

    mail : (y : Message) → In y ms → In y s.net ⊎ Mean t y
    mail y (inl is) = inr (subst (λ (z : Message). Mean t z) (sym is) (
      guard.0,
      (let e : (t.action a).request ≡ k = ap (λ (z : Action). z.request) (acted_here s a x s.now s.calls ms) in omega (arith, e)),
      subst (λ (j : ℕ). (s.binding j).named ≡ true) (ap s.kept (top_root a)) sure.named,
      λ pending. refl,
    ))
    mail y (inr i) = inl i

-- A call ends without a line of its own.
pub stop_call : (s : State) (a : Act) (doomed : Bool) → Holds s →
    Later s (record s { action = at_act s.action a (record (s.action a) { waits = false; doomed = doomed }) })
    × Holds (record s { action = at_act s.action a (record (s.action a) { waits = false; doomed = doomed }) })
stop_call s a doomed h = (
  later_acted s h a x s.now s.net m,
  join_action s h a x s.now s.net m (tops_action s h a x s.now s.net m (inl refl))
      (turns_action s h a x s.now s.net m (λ is. (refl, refl, refl))) (λ act three. h.ended a act three)
      (λ b. waits_action s h a x s.now s.net m (λ c o act zero v alive. zero) b (low_requests s h a x s.now s.net m (omega arith) b))
      (anti_action s h a x s.now s.net m (λ v. (let never : false ≡ true = v in absurd (cc)))) (λ y i. inl i),
)
  where
    x : Action
    x = record (s.action a) { waits = false; doomed = doomed }

    m : Moves s a x s.now s.calls s.net
    m = record {
      now = omega arith;
      stage = omega arith;
      ends = λ e. (e, refl);
      fresh = λ act e. inl e;
      place = λ l. refl;
      placed = λ l. l;
      going = λ is l g. inl l;
      request = omega arith;
      unit = inl refl;
      pend = λ j low e v. (let never : false ≡ true = v in absurd (cc));
    }

pub commit_nested : (s : State) (a : Act) (p : ℕ) → Guard (CommitNested a p) s → Holds s →
    Later s (next (CommitNested a p) s) × Holds (next (CommitNested a p) s)
commit_nested s a p guard h = (
  later_acted s h a x (p + 1) s.net m,
  join_action s h a x (p + 1) s.net m (tops_action s h a x (p + 1) s.net m (inr guard.1))
      (turns_action s h a x (p + 1) s.net m (λ is. differ is guard.1)) (λ act three. omega arith)
      (λ b. waits_action s h a x (p + 1) s.net m
      (λ c o act zero v alive. absurd (guard.4.waits c o (waits_before c v) (alive_before s a x (p + 1) s.calls s.net m c alive))) b
      (low_requests s h a x (p + 1) s.net m (omega arith) b)) (anti_action s h a x (p + 1) s.net m (λ v. v)) (λ y i. inl i),
)
  where
    x : Action
    x = record (s.action a) { stage = 3; done = p }

    zero : (s.action a).stage ≡ 0
    zero = guard.2 a (on_self a)

    now : s.now ≤ p
    now = guard.5

    waits_before : (b : Act) → ((at_act s.action a x) b).waits ≡ true → (s.action b).waits ≡ true
    waits_before = act_cases (λ (b : Act) (v : Action). v.waits ≡ true → (s.action b).waits ≡ true) s.action a x (λ w. w) (λ b f w. w)

    m : Moves s a x (p + 1) s.calls s.net
    m = record {
      now = (let n = now in omega (arith, n));
      stage = (let z = zero in omega (arith, z));
      ends = λ e. absurd (let z = zero in omega (arith, z, e));
      fresh = λ act e. inr now;
      place = λ l. refl;
      placed = λ l. (let n = now in omega (arith, n, l));
      going = λ is l g. differ is guard.1;
      request = omega arith;
      unit = inr (inl (guard.0, λ l k f. absurd (omega (arith, k))));
      pend = λ j low e v. (e, v, refl);
    }

pub abort : (s : State) (a : Act) → Guard (Abort a) s → Holds s → Later s (next (Abort a) s) × Holds (next (Abort a) s)
abort s a guard h = (
  later,
  join_action s h a x s.now s.net m tops turns (λ act three. absurd (omega (arith, three))) (λ b. waits_action s h a x s.now s.net m
      (λ c o act zero v alive. absurd (dead c o alive)) b (low_requests s h a x s.now s.net m (omega arith) b))
      (anti_action s h a x s.now s.net m (λ v. v)) (λ y i. inl i),
)
  where
    x : Action
    x = record (s.action a) { stage = 4 }

    low : (s.action a).stage ≤ 1
    low = guard.1

    m : Moves s a x s.now s.calls s.net
    m = record {
      now = omega arith;
      stage = (let l = low in omega (arith, l));
      ends = λ e. absurd (let l = low in omega (arith, l, e));
      fresh = λ act e. absurd (omega (arith, e));
      place = λ l. refl;
      placed = λ l. l;
      going = λ is l g. absurd (omega (arith, g));
      request = omega arith;
      unit = inr (inl (guard.0, λ l k f. absurd (omega (arith, k))));
      pend = λ j l e v. (e, v, refl);
    }

    t : State
    t = next (Abort a) s

    later : Later s t
    later = later_acted s h a x s.now s.net m

    here : (t.action a).stage ≡ 4
    here = ap (λ (y : Action). y.stage) (acted_here s a x s.now s.calls s.net)

    dead : (c : Act) → on c a ≡ true → Alive t c → ⊥
    dead c o alive = let l = alive a o in let e = here in omega (arith, l, e)

    other : (b : Act) → same b a ≡ false → t.action b ≡ s.action b
    other b f = acted_other s a x s.now s.calls s.net b f

    tops : (y : Act) → is_top y ≡ true → TopHolds t y
    tops y is = elim (by_cases (same y a)) [
      | inl e ↦ (let z : (t.action y).stage ≡ 4 = ap (λ (b : Act). (t.action b).stage) (same_is y a e) ∙ here in
          top_gen h later y is refl refl (λ three. absurd (omega (arith, three, z))) (λ two three. absurd (omega (arith, three, z)))
          (λ two three. absurd (omega (arith, three, z))))
      | inr f ↦ top_on h later y is (ap (λ (v : Action). v.stage) (other y f)) refl refl
    ]

    turns : Turns t
    turns y z is it r apart ly lz = by (by_cases (same y a)) (by_cases (same z a))
      where
        by : (same y a ≡ true) ⊎ (same y a ≡ false) → (same z a ≡ true) ⊎ (same z a ≡ false) →
            Done t y (t.action z).place ⊎ Done t z (t.action y).place
        by (inl e) w = absurd (let q : (t.action y).stage ≡ 4 = ap (λ (b : Act). (t.action b).stage) (same_is y a e) ∙ here in
            let l = ly.1 in omega (arith, q, l))
        by (inr f) (inl e) = absurd (let q : (t.action z).stage ≡ 4 = ap (λ (b : Act). (t.action b).stage) (same_is z a e) ∙ here in
            let l = lz.1 in omega (arith, q, l))
        by (inr f) (inr g) = subst (λ (v : Action). (((v.stage ≡ 3) × (v.done < (t.action z).place)) ⊎ Done t z v.place)) (sym (other y f))
            (subst (λ (v : Action). (Done s y v.place ⊎ ((v.stage ≡ 3) × (v.done < (s.action y).place)))) (sym (other z g))
            (h.turns y z is it r apart (subst (λ (v : Action). (1 ≤ v.stage) × (v.stage ≤ 3)) (other y f) ly)
            (subst (λ (v : Action). (1 ≤ v.stage) × (v.stage ≤ 3)) (other z g) lz)))
