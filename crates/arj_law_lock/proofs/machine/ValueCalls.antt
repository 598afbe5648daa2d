-- Values through calls and ends.
use Rattle.arj_law_lock.proofs.Terms
use Terms.{◌≡◌, ◌≢◌, ◌≤◌, ◌+◌, ◌⊎◌, ℕ, List, ◌∷◌, Bool, true, false, inl, inr, refl, sym, ◌∙◌, ap, subst, arith, Act, Root, same, on, root}
use Terms.{top, is_top, is_action, In, Action, Entry, Request, Message, Live, Recorded, Invoke, Refused, Changed, State, Alive, Survives}
use Terms.{at_act, SendInvoke, TurnedDown, Lost, GiveUp, CommitNested, Abort, CommitTop, Decide, Report, EndUnit, Guard, next, stopped}
use Rattle.arj_law_lock.proofs.machine
use machine.{CallSteps.top_acts, Core.up_not_past, Later.Later, Later.alive_back, ValueJoin.used_on, ValueLasts.ValueLater}
use machine.{ValueLasts.fine_back}
use machine.Claims.{server_of, IsUp, IsPast, Asked, Holds}
use machine.Paths.{by_cases, differ, same_is, on_top, top_is, top_of, top_action, act_cases, act_here, act_other, on_self, one_top}
use machine.ValueActions.{Turns', value_action, fine_pending}
use machine.ValueClaims.{Fine, IsWaiting, Used, NoEntry, Says, Values}

-- Values through calls and ends.

alive_open : (s : State) (a : Act) → ((u : Act) → on a u ≡ true → (s.action u).stage ≡ 0) → Alive s a
alive_open s a f u o = let e = f u o in omega (arith, e)

pub value_send_invoke : (s : State) (a : Act) (k : ℕ) (b : Bool) → Guard (SendInvoke a k b) s → Holds s → Values s →
    Later s (next (SendInvoke a k b) s) → Values (next (SendInvoke a k b) s)
value_send_invoke s a k b guard h v later = value_action s a x s.now ms turns h v later
  where
    x : Action
    x = record (s.action a) { request = k; waits = true; since = s.now }

    q0 : Request
    q0 = record { act = a; number = k; binding = s.kept (root a); write = b }

    ms : List Message
    ms = Invoke q0 ∷ s.net

    idle : (s.action a).waits ≡ true → ⊥
    idle w = differ (on_self a) (guard.3 a w (alive_open s a guard.1)).0

    known : s.kept (root a) ≤ s.naming.recorded
    known = elim guard.4 [ inl i ↦ (h.mail (Recorded (s.kept (root a))) i).1 | inr i ↦ (h.mail (Live i.0 (s.kept (root a))) i.1).2 ]

    mail : (m : Message) → In m ms → In m s.net ⊎ Says (next (SendInvoke a k b) s) m
    mail m (inl is) = inr (subst (λ (y : Message). Says (next (SendInvoke a k b) s) y) (sym is)
        (known, inl (sym (ap (λ (y : Action). y.request) (act_here s.action a x)), ap (λ (y : Action). y.waits) (act_here s.action a x))))
    mail m (inr i) = inl i

    turns : Turns' s a x s.now ms
    turns = record {
      doomed_up = λ d. d;
      clean_down = λ l d. (l, d);
      spoil = inl (λ l d. (l, d));
      news = λ c act o aa f. inl (sym (ap (λ (y : Action). y.stage) (act_here s.action a x)) ∙ f a o aa);
      tops = λ is e. inl e;
      wait_back = λ j low e w. absurd (let g = guard.2 in omega (arith, low, e, g));
      waits = λ w. (guard.0, inl (guard.1 a (on_self a)));
      opened = λ w. inr guard.1;
      doom = λ d. v.doomed a d;
      roots = λ r. v.roots a r;
      path = λ c o act zero w alive. zero;
      whole = λ c i is zero one alive. absurd (omega (arith, zero, one));
      still = λ e act is wt fine kept i present up. absurd (idle (subst (λ (y : Act). (s.action y).waits ≡ true) is wt.1));
      spend = λ q i is e wt. absurd (idle (subst (λ (y : Act). (s.action y).waits ≡ true) is wt));
      mail = mail;
    }

-- what a stopped call leaves of values
pub stopped_later : (s : State) (a : Act) → ValueLater s (record s { action = at_act s.action a (stopped (s.action a)) })
stopped_later s a = record {
  initial = refl;
  request = λ n e b. omega arith;
  clean = λ b c u o. act_cases (λ (y : Act) (z : Action). (z.stage ≤ 3) × (z.doomed ≡ false) →
      ((s.action y).stage ≤ 3) × ((s.action y).doomed ≡ false)) s.action a (stopped (s.action a)) (λ q. q) (λ y f q. q) u (c u o);
  doomed = act_cases (λ (y : Act) (z : Action). (s.action y).doomed ≡ true →
      z.doomed ≡ true) s.action a (stopped (s.action a)) (λ q. q) (λ y f q. q);
  spoils = λ b c. inl (λ u o. act_cases (λ (y : Act) (z : Action). ((s.action y).stage ≤ 3) × ((s.action y).doomed ≡ false) →
      (z.stage ≤ 3) × (z.doomed ≡ false)) s.action a (stopped (s.action a)) (λ q. q) (λ y f q. q) u (c u o));
  news = λ b act f. inl (λ u o ac. act_cases (λ (y : Act) (z : Action). z.stage ≡ 3 →
      (s.action y).stage ≡ 3) s.action a (stopped (s.action a)) (λ q. q) (λ y g q. q) u (f u o ac));
  tops = act_cases (λ (y : Act) (z : Action). is_top y ≡ true → z.stage ≡ 3 →
      ((s.action y).stage ≡ 3) ⊎ ((s.action y).stage ≡ 2)) s.action a (stopped (s.action a)) (λ is q. inl q) (λ y f is q. inl q);
  wait_back = act_cases (λ (y : Act) (z : Action). (j : ℕ) → j ≤ (s.action y).request → j ≡ z.request → z.waits ≡ true →
      (j ≡ (s.action y).request) × ((s.action y).waits ≡ true)) s.action a (stopped (s.action a))
      (λ j low e w. (let never : false ≡ true = w in absurd (cc))) (λ y f j low e w. (e, w));
}

-- a call stops waiting, and each request of it is used or spoilt
stop_waiting : (s : State) (a : Act) → Holds s → Values s → Later s (record s { action = at_act s.action a (stopped (s.action a)) })
    → ((e : Entry) → e.by ≡ a → IsWaiting s e → Fine s e.by → s.kept (root e.by) ≡ s.naming.recorded →
    In e (server_of s s.naming.recorded).log → IsUp s s.naming.recorded → ⊥)
    → ((q : Request) → In (Invoke q) s.net → q.act ≡ a → q.number ≡ (s.action q.act).request → (s.action q.act).waits ≡ true →
    Fine s q.act → Used s q)
    → Values (record s { action = at_act s.action a (stopped (s.action a)) })
stop_waiting s a h v later none' used = value_action s a x s.now s.net turns h v later
  where
    x : Action
    x = stopped (s.action a)

    w : ValueLater s (record s { action = at_act s.action a x })
    w = stopped_later s a

    t : State
    t = record s { action = at_act s.action a x }

    doomed : (b : Act) → (t.action b).doomed ≡ true → (is_action b ≡ true) × (((t.action b).stage ≡ 0) ⊎ ((t.action b).stage ≡ 4))
    doomed = act_cases (λ (b : Act) (y : Action). y.doomed ≡ true →
        (is_action b ≡ true) × ((y.stage ≡ 0) ⊎ (y.stage ≡ 4))) s.action a x (λ d. v.doomed a d) (λ b f d. v.doomed b d)

    roots : (b : Act) → is_action b ≡ false → (t.action b).stage ≤ 3
    roots = act_cases (λ (b : Act) (y : Action). is_action b ≡ false → y.stage ≤ 3) s.action a x (λ r. v.roots a r) (λ b f r. v.roots b r)

    turns : Turns' s a x s.now s.net
    turns = record {
      doomed_up = λ d. d;
      clean_down = λ l d. (l, d);
      spoil = inl (λ l d. (l, d));
      news = λ c act o aa f. inl (sym (ap (λ (y : Action). y.stage) (act_here s.action a x)) ∙ f a o aa);
      tops = λ is e. inl e;
      wait_back = λ j low e w. (let never : false ≡ true = w in absurd (cc));
      waits = λ w. (let never : false ≡ true = w in absurd (cc));
      opened = λ w. (let never : false ≡ true = w in absurd (cc));
      doom = λ d. v.doomed a d;
      roots = λ r. v.roots a r;
      path = λ c o act zero w alive. zero;
      whole = λ c i is zero one alive. absurd (omega (arith, zero, one));
      still = λ e act is wt fine kept i present up. absurd (none' e is wt (fine_back h v later w e.by act fine) kept i up);
      spend = λ q i is e wt. inr (λ fine. used_on h v later w doomed roots q (h.mail (Invoke q) i)
          (used q i is e wt (fine_back h v later w q.act (h.mail (Invoke q) i).0 fine)));
      mail = λ m i. inl i;
    }

pub value_turned_down : (s : State) (q : Request) → Guard (TurnedDown q) s → Holds s → Values s → Later s (next (TurnedDown q) s) →
    Values (next (TurnedDown q) s)
value_turned_down s q guard h v later = stop_waiting s q.act h v later entry used
  where
    says : Asked s q × NoEntry s q
    says = v.says (Refused q) guard.0

    binding : Fine s q.act → (s.action q.act).waits ≡ true → q.binding ≡ s.kept (root q.act)
    binding fine w = says.0.3 (fine_pending s v q.act q.number says.0.0 guard.1 w fine)

    entry : (e : Entry) → e.by ≡ q.act → IsWaiting s e → Fine s e.by → s.kept (root e.by) ≡ s.naming.recorded →
        In e (server_of s s.naming.recorded).log → IsUp s s.naming.recorded → ⊥
    entry e is wt fine kept i up = by (subst (λ (b : ℕ). IsPast s b ⊎ ((q.number ≤ (server_of s b).request q.act)
        × ((e : Entry) → In e (server_of s b).log → e.by ≡ q.act → e.request ≢ q.number))) b says.1)
      where
        fine' : Fine s q.act
        fine' = subst (λ (y : Act). Fine s y) is fine

        b : q.binding ≡ s.naming.recorded
        b = binding fine' (subst (λ (y : Act). (s.action y).waits ≡ true) is wt.1)
            ∙ subst (λ (y : Act). s.kept (root y) ≡ s.naming.recorded) is kept

        by : IsPast s s.naming.recorded ⊎ ((q.number ≤ (server_of s s.naming.recorded).request q.act)
            × ((e : Entry) → In e (server_of s s.naming.recorded).log → e.by ≡ q.act → e.request ≢ q.number)) → ⊥
        by (inl past) = up_not_past s s.naming.recorded up past
        by (inr (l, f)) = f e i is (wt.0 ∙ ap (λ (y : Act). (s.action y).request) is ∙ sym guard.1)

    used : (r : Request) → In (Invoke r) s.net → r.act ≡ q.act → r.number ≡ (s.action r.act).request → (s.action r.act).waits ≡ true →
        Fine s r.act → Used s r
    used r i is e wt fine = by says.1
      where
        fine' : Fine s q.act
        fine' = subst (λ (y : Act). Fine s y) is fine

        wt' : (s.action q.act).waits ≡ true
        wt' = subst (λ (y : Act). (s.action y).waits ≡ true) is wt

        b : q.binding ≡ r.binding
        b = binding fine' wt' ∙ ap (λ (y : Act). s.kept (root y)) (sym is)
            ∙ sym ((h.mail (Invoke r) i).3 (fine_pending s v r.act r.number (h.mail (Invoke r) i).0 e wt fine))

        n : r.number ≡ q.number
        n = e ∙ ap (λ (y : Act). (s.action y).request) is ∙ sym guard.1

        by : NoEntry s q → Used s r
        by (inl past) = inl (subst (λ (j : ℕ). IsPast s j) b past)
        by (inr p) = inr (subst (λ (j : ℕ). r.number ≤ (server_of s j).request r.act) b
            (subst (λ (y : Act). r.number ≤ (server_of s q.binding).request y) (sym is) (let l = p.0 in let k = n in omega (arith, l, k))))

pub value_lost : (s : State) (a : Act) → Guard (Lost a) s → Holds s → Values s → Later s (next (Lost a) s) → Values (next (Lost a) s)
value_lost s a guard h v later = stop_waiting s a h v later
    (λ e is wt fine kept i up.
    up_not_past s s.naming.recorded up (subst (λ (b : ℕ). IsPast s b) (ap (λ (y : Act). s.kept (root y)) (sym is) ∙ kept) past))
    (λ q i is e wt fine. inl (subst (λ (b : ℕ). IsPast s b) (ap (λ (y : Act). s.kept (root y)) (sym is)
    ∙ sym ((h.mail (Invoke q) i).3 (fine_pending s v q.act q.number (h.mail (Invoke q) i).0 e wt fine))) past))
  where
    past : IsPast s (s.kept (root a))
    past = (v.says (Changed (s.kept (root a))) guard).1

pub value_give_up : (s : State) (a : Act) → Guard (GiveUp a) s → Holds s → Values s → Later s (next (GiveUp a) s) →
    Values (next (GiveUp a) s)
value_give_up s a guard h v later = value_action s a x s.now s.net turns h v later
  where
    x : Action
    x = record (s.action a) { waits = false; doomed = true }

    spoilt : (b : Act) → b ≡ a → Fine (next (GiveUp a) s) b → ⊥
    spoilt b is fine = (let never : true ≡ false = sym (ap (λ (y : Action). y.doomed) (act_here s.action a x))
        ∙ (fine.0 a (subst (λ (y : Act). on y a ≡ true) (sym is) (on_self a))).1 in cc)

    turns : Turns' s a x s.now s.net
    turns = record {
      doomed_up = λ d. refl;
      clean_down = λ l d. (let never : true ≡ false = d in absurd (cc));
      spoil = inr ((λ three. elim (v.waits a guard).1 [ inl z ↦ omega (arith, z, three) | inr z ↦ omega (arith, z, three) ]), inr refl);
      news = λ c act o aa f. inl (sym (ap (λ (y : Action). y.stage) (act_here s.action a x)) ∙ f a o aa);
      tops = λ is e. inl e;
      wait_back = λ j low e w. (let never : false ≡ true = w in absurd (cc));
      waits = λ w. (let never : false ≡ true = w in absurd (cc));
      opened = λ w. (let never : false ≡ true = w in absurd (cc));
      doom = λ d. v.waits a guard;
      roots = λ r. v.roots a r;
      path = λ c o act zero w alive. zero;
      whole = λ c i is zero one alive. absurd (omega (arith, zero, one));
      still = λ e act is wt fine kept i present up. absurd (spoilt e.by is fine);
      spend = λ q i is e wt. inr (λ fine. absurd (spoilt q.act is fine));
      mail = λ m i. inl i;
    }

pub value_commit_nested : (s : State) (a : Act) (p : ℕ) → Guard (CommitNested a p) s → Holds s → Values s →
    Later s (next (CommitNested a p) s) → Values (next (CommitNested a p) s)
value_commit_nested s a p guard h v later = value_action s a x (p + 1) s.net turns h v later
  where
    x : Action
    x = record (s.action a) { stage = 3; done = p }

    zero : (s.action a).stage ≡ 0
    zero = guard.2 a (on_self a)

    idle : (s.action a).waits ≡ true → ⊥
    idle w = guard.4.waits a (on_self a) w (alive_open s a guard.2)

    waits_before : (b : Act) → ((at_act s.action a x) b).waits ≡ true → (s.action b).waits ≡ true
    waits_before = act_cases (λ (b : Act) (z : Action). z.waits ≡ true → (s.action b).waits ≡ true) s.action a x (λ w. w) (λ b f w. w)

    no_news : (c : Act) → is_action c ≡ true → on c a ≡ true → Survives (next (CommitNested a p) s) c → ⊥
    no_news c act o f =
        let e : top c ≡ top a = one_top c a guard.0 o in
        let three = f (top c) (on_top c) (top_acts c act) in
        let apart : same (top a) a ≡ false = elim (by_cases (same (top a) a))
        [ inl t ↦ differ (subst (λ (y : Act). is_top y ≡ true) (same_is (top a) a t) (top_is a guard.0)) guard.1 | inr g ↦ g ] in
        let q : ((at_act s.action a x) (top c)).stage ≡ (s.action (top a)).stage = ap (λ (y : Act). ((at_act s.action a x) y).stage) e
        ∙ ap (λ (y : Action). y.stage) (act_other s.action a x (top a) apart) in
        let z = guard.2 (top a) (on_top a) in
        omega (arith, three, q, z)

    turns : Turns' s a x (p + 1) s.net
    turns = record {
      doomed_up = λ d. d;
      clean_down = λ l d. ((let z = zero in omega (arith, z)), d);
      spoil = inl (λ l d. (omega arith, d));
      news = λ c act o aa f. absurd (no_news c act o f);
      tops = λ is e. differ is guard.1;
      wait_back = λ j low e w. (e, w);
      waits = λ w. absurd (idle w);
      opened = λ w. inl w;
      doom = λ d. differ d guard.3;
      roots = λ r. differ guard.0 r;
      path = λ b o act z w alive. absurd (guard.4.waits b o (waits_before b w) (alive_back later b alive));
      whole = λ c i is z one alive. differ (subst (λ (y : Act). is_top y ≡ true) is (top_is c.act (h.calls c i).acts)) guard.1;
      still = λ e act is wt fine kept i present up. absurd (idle (subst (λ (y : Act). (s.action y).waits ≡ true) is wt.1));
      spend = λ q i is e wt. absurd (idle (subst (λ (y : Act). (s.action y).waits ≡ true) is wt));
      mail = λ m i. inl i;
    }

pub value_abort : (s : State) (a : Act) → Guard (Abort a) s → Holds s → Values s → Later s (next (Abort a) s) → Values (next (Abort a) s)
value_abort s a guard h v later = value_action s a x s.now s.net turns h v later
  where
    x : Action
    x = record (s.action a) { stage = 4 }

    here : ((at_act s.action a x) a).stage ≡ 4
    here = ap (λ (y : Action). y.stage) (act_here s.action a x)

    dead : (b : Act) → on b a ≡ true → Alive (next (Abort a) s) b → ⊥
    dead b o alive = let l = alive a o in let q = here in omega (arith, l, q)

    kept_same : (q : Request) → q.act ≡ a → q.number ≡ (s.action q.act).request → (s.action q.act).waits ≡ true →
        (q.number ≡ ((at_act s.action a x) a).request) × (((at_act s.action a x) a).waits ≡ true)
    kept_same q is e w = (
      e ∙ ap (λ (y : Act). (s.action y).request) is ∙ sym (ap (λ (y : Action). y.request) (act_here s.action a x)),
      ap (λ (y : Action). y.waits) (act_here s.action a x) ∙ sym (ap (λ (y : Act). (s.action y).waits) is) ∙ w,
    )

    turns : Turns' s a x s.now s.net
    turns = record {
      doomed_up = λ d. d;
      clean_down = λ l d. absurd (omega (arith, l));
      spoil = inr ((let l = guard.1 in omega (arith, l)), inl (omega arith));
      news = λ c act o aa f. absurd (let e = f a o aa in let q = here in omega (arith, e, q));
      tops = λ is e. absurd (omega (arith, e));
      wait_back = λ j low e w. (e, w);
      waits = λ w. (guard.0, inr refl);
      opened = λ w. inl w;
      doom = λ d. (guard.0, inr refl);
      roots = λ r. differ guard.0 r;
      path = λ b o act z w alive. absurd (dead b o alive);
      whole = λ c i is z one alive. absurd (dead c.act (subst (λ (y : Act). on c.act y ≡ true) is (on_top c.act)) alive);
      still =
          λ e act is wt fine kept i present up. subst (λ (y : Act). (e.request ≡ (s.action y).request) × ((s.action y).waits ≡ true)) is wt;
      spend = λ q i is e wt. inl (subst (λ (y : Act). y ≡ a → (q.number ≡ ((at_act s.action a x) y).request)
          × (((at_act s.action a x) y).waits ≡ true)) (sym is) (λ r. kept_same q is e wt) is);
      mail = λ m i. inl i;
    }

pub value_commit_top : (s : State) (a : Act) (p : ℕ) → Guard (CommitTop a p) s → Holds s → Values s → Later s (next (CommitTop a p) s) →
    Values (next (CommitTop a p) s)
value_commit_top s a p guard h v later = value_action s a x (p + 1) s.net turns h v later
  where
    x : Action
    x = record (s.action a) { stage = 1; place = p }

    zero : (s.action a).stage ≡ 0
    zero = guard.1 a (on_self a)

    idle : (s.action a).waits ≡ true → ⊥
    idle w = guard.3.waits a (on_self a) w (alive_open s a guard.1)

    waits_before : (b : Act) → ((at_act s.action a x) b).waits ≡ true → (s.action b).waits ≡ true
    waits_before = act_cases (λ (b : Act) (z : Action). z.waits ≡ true → (s.action b).waits ≡ true) s.action a x (λ w. w) (λ b f w. w)

    turns : Turns' s a x (p + 1) s.net
    turns = record {
      doomed_up = λ d. d;
      clean_down = λ l d. ((let z = zero in omega (arith, z)), d);
      spoil = inl (λ l d. (omega arith, d));
      news = λ c act o aa f. absurd (let e = f a o aa in
          let q : ((at_act s.action a x) a).stage ≡ 1 = ap (λ (y : Action). y.stage) (act_here s.action a x) in omega (arith, e, q));
      tops = λ is e. absurd (omega (arith, e));
      wait_back = λ j low e w. (e, w);
      waits = λ w. absurd (idle w);
      opened = λ w. inl w;
      doom = λ d. differ d guard.2;
      roots = λ r. differ (top_action a guard.0) r;
      path = λ b o act z w alive. absurd (guard.3.waits b o (waits_before b w) (alive_back later b alive));
      whole =
          λ c i is z one alive. guard.3.calls c i (subst (λ (y : Act). on c.act y ≡ true) is (on_top c.act)) (alive_back later c.act alive);
      still = λ e act is wt fine kept i present up. absurd (idle (subst (λ (y : Act). (s.action y).waits ≡ true) is wt.1));
      spend = λ q i is e wt. absurd (idle (subst (λ (y : Act). (s.action y).waits ≡ true) is wt));
      mail = λ m i. inl i;
    }

pub value_decide : (s : State) (a : Act) → Guard (Decide a) s → Holds s → Values s → Later s (next (Decide a) s) →
    Values (next (Decide a) s)
value_decide s a guard h v later = value_action s a x s.now s.net turns h v later
  where
    x : Action
    x = record (s.action a) { stage = 2 }

    at_stage : (s.action a).stage ≡ 1
    at_stage = guard.1

    idle : ((s.action a).stage ≡ 0) ⊎ ((s.action a).stage ≡ 4) → ⊥
    idle (inl z) = let e = at_stage in omega (arith, e, z)
    idle (inr z) = let e = at_stage in omega (arith, e, z)

    turns : Turns' s a x s.now s.net
    turns = record {
      doomed_up = λ d. d;
      clean_down = λ l d. ((let z = at_stage in omega (arith, z)), d);
      spoil = inl (λ l d. (omega arith, d));
      news = λ c act o aa f. absurd (let e = f a o aa in
          let q : ((at_act s.action a x) a).stage ≡ 2 = ap (λ (y : Action). y.stage) (act_here s.action a x) in omega (arith, e, q));
      tops = λ is e. absurd (omega (arith, e));
      wait_back = λ j low e w. (e, w);
      waits = λ w. absurd (idle (v.waits a w).1);
      opened = λ w. inl w;
      doom = λ d. absurd (idle (v.doomed a d).1);
      roots = λ r. differ (top_action a guard.0) r;
      path = λ b o act z w alive. absurd (let e = at_stage in omega (arith, e, z));
      whole = λ c i is z one alive. absurd (let e = at_stage in omega (arith, e, z));
      still = λ e act is wt fine kept i present up. absurd (idle (v.waits a (subst (λ (y : Act). (s.action y).waits ≡ true) is wt.1)).1);
      spend = λ q i is e wt. absurd (idle (v.waits a (subst (λ (y : Act). (s.action y).waits ≡ true) is wt)).1);
      mail = λ m i. inl i;
    }

pub value_report : (s : State) (a : Act) (p : ℕ) → Guard (Report a p) s → Holds s → Values s → Later s (next (Report a p) s) →
    Values (next (Report a p) s)
value_report s a p guard h v later = value_action s a x (p + 1) s.net turns h v later
  where
    x : Action
    x = record (s.action a) { stage = 3; done = p }

    at_stage : (s.action a).stage ≡ 2
    at_stage = guard.1

    idle : ((s.action a).stage ≡ 0) ⊎ ((s.action a).stage ≡ 4) → ⊥
    idle (inl z) = let e = at_stage in omega (arith, e, z)
    idle (inr z) = let e = at_stage in omega (arith, e, z)

    turns : Turns' s a x (p + 1) s.net
    turns = record {
      doomed_up = λ d. d;
      clean_down = λ l d. ((let z = at_stage in omega (arith, z)), d);
      spoil = inl (λ l d. (omega arith, d));
      news = λ c act o aa f. inr (ap (λ (y : Act). (s.action y).stage) (top_of c a guard.0 o) ∙ guard.1);
      tops = λ is e. inr guard.1;
      wait_back = λ j low e w. (e, w);
      waits = λ w. absurd (idle (v.waits a w).1);
      opened = λ w. inl w;
      doom = λ d. absurd (idle (v.doomed a d).1);
      roots = λ r. differ (top_action a guard.0) r;
      path = λ b o act z w alive. absurd (let e = at_stage in omega (arith, e, z));
      whole = λ c i is z one alive. absurd (let e = at_stage in omega (arith, e, z));
      still = λ e act is wt fine kept i present up. absurd (idle (v.waits a (subst (λ (y : Act). (s.action y).waits ≡ true) is wt.1)).1);
      spend = λ q i is e wt. absurd (idle (v.waits a (subst (λ (y : Act). (s.action y).waits ≡ true) is wt)).1);
      mail = λ m i. inl i;
    }

pub value_end_unit : (s : State) (u : ℕ) → Guard (EndUnit u) s → Holds s → Values s → Later s (next (EndUnit u) s) →
    Values (next (EndUnit u) s)
value_end_unit s u guard h v later = value_action s (Root u) x s.now s.net turns h v later
  where
    x : Action
    x = record (s.action (Root u)) { stage = 3 }

    turns : Turns' s (Root u) x s.now s.net
    turns = record {
      doomed_up = λ d. d;
      clean_down = λ l d. ((let z = guard.0 in omega (arith, z)), d);
      spoil = inl (λ l d. (omega arith, d));
      news = λ c act o aa f. (let never : false ≡ true = aa in absurd (cc));
      tops = λ is. (let never : false ≡ true = is in absurd (cc));
      wait_back = λ j low e w. (e, w);
      waits = λ w. differ {b = false} (v.waits (Root u) w).0 refl;
      opened = λ w. inl w;
      doom = λ d. differ {b = false} (v.doomed (Root u) d).0 refl;
      roots = λ r. omega arith;
      path = λ b o act z w alive. (let never : false ≡ true = act in absurd (cc));
      whole = λ c i is z one alive. differ {b = false} (subst (λ (y : Act). is_top y ≡ true) is (top_is c.act (h.calls c i).acts)) refl;
      still = λ e act is wt fine kept i present up. differ {b = false} (subst (λ (y : Act). is_action y ≡ true) is act) refl;
      spend = λ q i is e wt. differ {b = false} (subst (λ (y : Act). is_action y ≡ true) is (h.mail (Invoke q) i).0) refl;
      mail = λ m i. inl i;
    }
