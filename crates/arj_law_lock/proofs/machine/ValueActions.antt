-- What a step of one coordinator has to show of values.
use Rattle.arj_law_lock.proofs.Terms
use Terms.{◌≡◌, ◌≢◌, ◌≤◌, ◌⊎◌, ℕ, List, true, false, inl, inr, refl, sym, ◌∙◌, ap, subst, arith, Act, same, on, root, top, is_top}
use Terms.{is_action, In, Action, Entry, Call, Request, Message, Invoke, State, Alive, Merged, Survives, at_act}
use Rattle.arj_law_lock.proofs.machine
use machine.{CallSteps.top_acts, Later.Later, Later.alive_back, Later.merged_on, ValueLasts.ValueLater, ValueLasts.clean_alive}
use machine.Claims.{server_of, IsUp, GoesOn, Pending, Holds}
use machine.Paths.{by_cases, differ, same_is, on_top, act_cases, act_here, act_other}
use machine.ValueClaims.{Clean, Fine, IsWaiting, Spent, Says, Values}
use machine.ValueJoin.{still_self, join_still, whole_on}

-- Values where one action changes at its coordinator.

module _ (s : State) (a : Act) (x : Action) (p : ℕ) (ms : List Message) where
  abbrev acted' : State
  acted' = record s { action = at_act s.action a x; now = p; net = ms }

  -- what one has to say of the action
  pub record Turns' : Type 0 where
    pub doomed_up : (s.action a).doomed ≡ true → x.doomed ≡ true
    pub clean_down : x.stage ≤ 3 → x.doomed ≡ false → ((s.action a).stage ≤ 3) × ((s.action a).doomed ≡ false)
    pub spoil : ((s.action a).stage ≤ 3 → (s.action a).doomed ≡ false → (x.stage ≤ 3) × (x.doomed ≡ false))
        ⊎ (((s.action a).stage ≢ 3) × ((4 ≤ x.stage) ⊎ (x.doomed ≡ true)))
    pub news : (b : Act) → is_action b ≡ true → on b a ≡ true → is_action a ≡ true → Survives acted' b →
        ((s.action a).stage ≡ 3) ⊎ ((s.action (top b)).stage ≡ 2)
    pub tops : is_top a ≡ true → x.stage ≡ 3 → ((s.action a).stage ≡ 3) ⊎ ((s.action a).stage ≡ 2)
    pub wait_back : (k : ℕ) → k ≤ (s.action a).request → k ≡ x.request → x.waits ≡ true →
        (k ≡ (s.action a).request) × ((s.action a).waits ≡ true)
    pub waits : x.waits ≡ true → (is_action a ≡ true) × ((x.stage ≡ 0) ⊎ (x.stage ≡ 4))
    pub opened : x.waits ≡ true → ((s.action a).waits ≡ true) ⊎ ((u : Act) → on a u ≡ true → (s.action u).stage ≡ 0)
    pub doom : x.doomed ≡ true → (is_action a ≡ true) × ((x.stage ≡ 0) ⊎ (x.stage ≡ 4))
    pub roots : is_action a ≡ false → x.stage ≤ 3
    pub path : (b : Act) → on b a ≡ true → is_action a ≡ true → (s.action a).stage ≡ 0 → (acted'.action b).waits ≡ true → Alive acted' b →
        x.stage ≡ 0
    pub whole : (c : Call) → In c s.calls → top c.act ≡ a → (s.action a).stage ≡ 0 → 1 ≤ x.stage → Alive acted' c.act → Merged s c.act a
    pub still : (e : Entry) → is_action e.by ≡ true → e.by ≡ a → IsWaiting s e → Fine acted' e.by → s.kept (root e.by) ≡ s.naming.recorded →
        In e (server_of s s.naming.recorded).log → s.naming.first ≤ s.naming.recorded → IsUp s s.naming.recorded →
        (e.request ≡ x.request) × (x.waits ≡ true)
    pub spend : (q : Request) → In (Invoke q) s.net → q.act ≡ a → q.number ≡ (s.action q.act).request → (s.action q.act).waits ≡ true →
        Spent acted' q
    pub mail : (m : Message) → In m ms → In m s.net ⊎ Says acted' m

  module _ (k : Turns') where
    later_turn : Later s acted' → ValueLater s acted'
    later_turn later = record {
      initial = refl;
      request = λ n e b. omega arith;
      clean = clean;
      doomed = act_cases (λ (b : Act) (v : Action). (s.action b).doomed ≡ true → v.doomed ≡ true) s.action a x k.doomed_up (λ b f d. d);
      spoils = spoils;
      news = news;
      tops = act_cases (λ (b : Act) (v : Action). is_top b ≡ true → v.stage ≡ 3 →
          ((s.action b).stage ≡ 3) ⊎ ((s.action b).stage ≡ 2)) s.action a x k.tops (λ b f is e. inl e);
      wait_back = act_cases (λ (b : Act) (v : Action). (j : ℕ) → j ≤ (s.action b).request → j ≡ v.request → v.waits ≡ true →
          (j ≡ (s.action b).request) × ((s.action b).waits ≡ true)) s.action a x k.wait_back (λ b f j l e w. (e, w));
    }
      where
        clean : (b : Act) → Clean acted' b → Clean s b
        clean b c u o = act_cases (λ (y : Act) (v : Action). (v.stage ≤ 3) × (v.doomed ≡ false) →
            ((s.action y).stage ≤ 3) × ((s.action y).doomed ≡ false)) s.action a x (λ q. k.clean_down q.0 q.1) (λ y f q. q) u (c u o)

        spoils : (b : Act) → Clean s b →
            Clean acted' b ⊎ ((u : Act) × (on b u ≡ true) × ((s.action u).stage ≢ 3) × ((d : Act) → on d u ≡ true → Clean acted' d → ⊥))
        spoils b c = by k.spoil (by_cases (on b a))
          where
            by : ((s.action a).stage ≤ 3 → (s.action a).doomed ≡ false → (x.stage ≤ 3) × (x.doomed ≡ false))
                ⊎ (((s.action a).stage ≢ 3) × ((4 ≤ x.stage) ⊎ (x.doomed ≡ true))) → (on b a ≡ true) ⊎ (on b a ≡ false) →
                Clean acted' b ⊎ ((u : Act) × (on b u ≡ true) × ((s.action u).stage ≢ 3) × ((d : Act) → on d u ≡ true → Clean acted' d → ⊥))
            by (inl f) w = inl (λ u o. act_cases (λ (y : Act) (v : Action). ((s.action y).stage ≤ 3) × ((s.action y).doomed ≡ false) →
                (v.stage ≤ 3) × (v.doomed ≡ false)) s.action a x (λ q. f q.0 q.1) (λ y g q. q) u (c u o))
            by (inr f) (inr g) = inl (λ u o. act_cases (λ (y : Act) (v : Action). on b y ≡ true → ((s.action y).stage ≤ 3) × ((s.action
                y).doomed ≡ false) → (v.stage ≤ 3) × (v.doomed ≡ false)) s.action a x (λ o' q. differ o' g) (λ y g' o' q. q) u o (c u o))
            by (inr f) (inl t') = inr (a, t', f.0, λ d o c'. never d o c' f.1)
              where
                here : (acted'.action a) ≡ x
                here = act_here s.action a x

                never : (d : Act) → on d a ≡ true → Clean acted' d → (4 ≤ x.stage) ⊎ (x.doomed ≡ true) → ⊥
                never d o c' (inl l) = let q = (c' a o).0 in
                    let e : (acted'.action a).stage ≡ x.stage = ap (λ (v : Action). v.stage) here in omega (arith, q, l, e)
                never d o c' (inr t) = differ t (sym (ap (λ (v : Action). v.doomed) here) ∙ (c' a o).1)

        news : (b : Act) → is_action b ≡ true → Survives acted' b → Survives s b ⊎ ((s.action (top b)).stage ≡ 2)
        news b act f = elim (by_cases (on b a)) [
          | inr g ↦ inl (λ u o ac. act_cases (λ (y : Act) (v : Action). on b y ≡ true → v.stage ≡ 3 →
              (s.action y).stage ≡ 3) s.action a x (λ o' e. differ o' g) (λ y h' o' e. e) u o (f u o ac))
          | inl t ↦ elim (by_cases (is_action a)) [
            | inr r ↦ inl (λ u o ac. act_cases (λ (y : Act) (v : Action). is_action y ≡ true → v.stage ≡ 3 →
                (s.action y).stage ≡ 3) s.action a x (λ ac' e. differ ac' r) (λ y h' ac' e. e) u ac (f u o ac))
            | inl aa ↦ elim (k.news b act t aa f) [
              | inl e3 ↦ inl (λ u o ac. act_cases (λ (y : Act) (v : Action). v.stage ≡ 3 →
                  (s.action y).stage ≡ 3) s.action a x (λ e. e3) (λ y h' e. e) u (f u o ac))
              | inr two ↦ inr two
            ]
          ]
        ]

    pub value_action : Holds s → Values s → Later s acted' → Values acted'
    value_action h v later =
        join_still h v later w doomed roots refl refl (λ n. still_self (s.server n)) waits path whole still spend k.mail
      where
        w : ValueLater s acted'
        w = later_turn later

        doomed : (b : Act) → (acted'.action b).doomed ≡ true →
            (is_action b ≡ true) × (((acted'.action b).stage ≡ 0) ⊎ ((acted'.action b).stage ≡ 4))
        doomed = act_cases (λ (b : Act) (y : Action). y.doomed ≡ true →
            (is_action b ≡ true) × ((y.stage ≡ 0) ⊎ (y.stage ≡ 4))) s.action a x k.doom (λ b f d. v.doomed b d)

        roots : (b : Act) → is_action b ≡ false → (acted'.action b).stage ≤ 3
        roots = act_cases (λ (b : Act) (y : Action). is_action b ≡ false → y.stage ≤ 3) s.action a x k.roots (λ b f r. v.roots b r)

        waits : (b : Act) → (acted'.action b).waits ≡ true →
            (is_action b ≡ true) × (((acted'.action b).stage ≡ 0) ⊎ ((acted'.action b).stage ≡ 4))
        waits = act_cases (λ (b : Act) (y : Action). y.waits ≡ true →
            (is_action b ≡ true) × ((y.stage ≡ 0) ⊎ (y.stage ≡ 4))) s.action a x k.waits (λ b f d. v.waits b d)

        path : (b : Act) → (acted'.action b).waits ≡ true → Alive acted' b → (u : Act) → on b u ≡ true → is_action u ≡ true →
            (acted'.action u).stage ≡ 0
        path b wt alive u o act = act_cases (λ (y : Act) (z : Action). on b y ≡ true → is_action y ≡ true → (s.action y).stage ≡ 0 →
            z.stage ≡ 0) s.action a x (λ o' ac zero. k.path b o' ac zero wt alive) (λ y f o' ac zero. zero) u o act (old u o act)
          where
            old : (u : Act) → on b u ≡ true → is_action u ≡ true → (s.action u).stage ≡ 0
            old u o act = act_cases (λ (y : Act) (z : Action). y ≡ b → z.waits ≡ true → (s.action u).stage ≡ 0) s.action a x
                (λ is wx. elim (k.opened wx) [
                  | inl ws ↦ v.path b (subst (λ (y : Act). (s.action y).waits ≡ true) is ws) (alive_back later b alive) u o act
                  | inr f ↦ f u (subst (λ (y : Act). on y u ≡ true) (sym is) o)
                ])
                (λ y f is wy. v.path b (subst (λ (y : Act). (s.action y).waits ≡ true) is wy) (alive_back later b alive) u o act) b refl wt

        whole : (c : Call) → In c s.calls → Alive acted' c.act → 1 ≤ (acted'.action (top c.act)).stage → Merged acted' c.act (top c.act)
        whole c i alive = act_cases (λ (y : Act) (z : Action). y ≡ top c.act → 1 ≤ z.stage → Merged acted' c.act (top c.act)) s.action a x
            (λ is one. elim (zero_or (s.action a).stage) [
              | inl zero ↦ subst (λ (y : Act). Merged acted' c.act y) is (merged_on later c.act a (k.whole c i (sym is) zero one alive))
              | inr old ↦ whole_on h v later w doomed roots c i alive (subst (λ (y : Act). 1 ≤ (s.action y).stage) is old)
            ])
            (λ y f is one. whole_on h v later w doomed roots c i alive (subst (λ (y : Act). 1 ≤ (s.action y).stage) is one)) (top c.act)
            refl
          where
            zero_or : (n : ℕ) → (n ≡ 0) ⊎ (1 ≤ n)
            zero_or n = grind arith

        still : (e : Entry) → is_action e.by ≡ true → IsWaiting s e → Fine acted' e.by → s.kept (root e.by) ≡ s.naming.recorded →
            In e (server_of s s.naming.recorded).log → s.naming.first ≤ s.naming.recorded → IsUp s s.naming.recorded → IsWaiting acted' e
        still e act wt fine kept i present up =
            act_cases (λ (y : Act) (z : Action). y ≡ e.by → (e.request ≡ z.request) × (z.waits ≡ true)) s.action a x
            (λ is. k.still e act (sym is) wt fine kept i present up)
            (λ y f is. subst (λ (y : Act). (e.request ≡ (s.action y).request) × ((s.action y).waits ≡ true)) (sym is) wt) e.by refl

        spend : (q : Request) → In (Invoke q) s.net → q.number ≡ (s.action q.act).request → (s.action q.act).waits ≡ true → Spent acted' q
        spend q i e wt = elim (by_cases (same q.act a)) [
          | inl t ↦ k.spend q i (same_is q.act a t) e wt
          | inr f ↦ inl (subst (λ (z : Action). (q.number ≡ z.request) × (z.waits ≡ true)) (sym (act_other s.action a x q.act f)) (e, wt))
        ]

-- a waiting action that is fine waits in a unit that goes on
pub fine_pending : (s : State) → Values s → (a : Act) (k : ℕ) → is_action a ≡ true → k ≡ (s.action a).request → (s.action a).waits ≡ true →
    Fine s a → Pending s a k
fine_pending s v a k act e w fine = record { last = e; waits = w; alive = clean_alive s a fine.0; going = by fine.1 }
  where
    by : GoesOn s (root a) ⊎ ((s.action (top a)).stage ≡ 3) → GoesOn s (root a)
    by (inl g) = g
    by (inr three) = absurd (let z = v.path a w (clean_alive s a fine.0) (top a) (on_top a) (top_acts a act) in omega (arith, z, three))
