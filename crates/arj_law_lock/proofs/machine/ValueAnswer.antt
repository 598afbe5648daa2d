-- Values where a call gets its line.
use Rattle.arj_law_lock.proofs.Terms
use Terms.{◌≡◌, ◌≢◌, ◌≤◌, ◌⊎◌, ℕ, List, ◌∷◌, true, false, inl, inr, refl, sym, ◌∙◌, ap, subst, arith, Act, Root, same, on, root, top}
use Terms.{is_action, In, mode, Action, Entry, Call, Request, Answer, Invoke, Invoked, State, Alive, Merged, Newest, older, IsLast}
use Terms.{Survives, Guard, next, Answered, stopped}
use Rattle.arj_law_lock.proofs.machine
use machine.{CallSteps.top_acts, ValueCalls.stopped_later, ValueLogs.dec_fine}
use machine.Claims.{server_of, IsUp, IsPast, GoesOn, Good, Pending, Asked, Mean, WaitHolds, Holds, Covers}
use machine.Core.{row_of, rows_kin, covers, open_good, up_not_past}
use machine.Later.{Later, alive_back, merged_on, doubt_on}
use machine.Paths.{by_cases, differ, same_is, same_self, on_top, on_trans, on_base, top_is, top_root, on_self, act_cases, act_other}
use machine.ValueClaims.{Clean, Fine, Ok, Mine, IsWaiting, Matches, both, more, less, NoneWaits, Logged, calm, bad, waiting, CopyHolds}
use machine.ValueClaims.{Used, Spent, Values}
use machine.ValueJoin.{still_self, logs_still, oks, cleans, used_on, says_on, stay_still, fresh_log_still, loaded_on}
use machine.ValueLasts.{ValueLater, logged_on, fine_back, seen_on, matches_on, newest_on, pending_good}

-- Values where a call gets its line.

-- Of two conflicting requests of one unit that are applied and wait there is but one.
one_pending : (s : State) (h : Holds s) (r q : Answer) → In (Invoked r) s.net → (i : In (Invoked q) s.net) →
    Pending s r.request.act r.request.number → (p : Pending s q.request.act q.request.number) → Good s (top q.request.act) →
    root r.request.act ≡ root q.request.act → r.request.write ≡ true → r.request.act ≡ q.request.act
one_pending s h r q j i pr pq good kin write = by (rows_kin h q i pq good r.request.write q.request.write x.0 y.0 (inl write) x.2 y.2)
  where
    a : Act
    a = r.request.act

    mean : Mean s (Invoked r)
    mean = h.mail (Invoked r) j

    binding' : r.request.binding ≡ s.kept (root q.request.act)
    binding' = mean.0.3 pr ∙ ap s.kept kin

    x : (z : Act) × (on r.request.act z ≡ true) × (mode r.request.write ≤ (server_of s (s.kept (root q.request.act))).rows z)
        × Merged s r.request.act z
    x = row_of h q i pq good r.request.act (mode r.request.write) pr.alive pr.going
        (subst (λ (b : ℕ). Covers s r.request.act b (mode r.request.write)) binding' (mean.2 pr).0)

    y : (z : Act) × (on q.request.act z ≡ true) × (mode q.request.write ≤ (server_of s (s.kept (root q.request.act))).rows z)
        × Merged s q.request.act z
    y = row_of h q i pq good q.request.act (mode q.request.write) pq.alive pq.going (covers h q i pq good)

    -- a waiting action's row stands at it or below
    caller : (b z : Act) → is_action b ≡ true → (s.action b).stage ≡ 0 → Merged s b z → on z b ≡ true
    caller b z act zero merged =
        elim (by_cases (on z b)) [ inl t ↦ t | inr f ↦ absurd (let three = merged b (on_self b) f in omega (arith, three, zero)) ]

    wr : WaitHolds s r.request.act
    wr = h.waits r.request.act pr.waits pr.alive pr.going

    wq : WaitHolds s q.request.act
    wq = h.waits q.request.act pq.waits pq.alive pq.going

    xr : on x.0 r.request.act ≡ true
    xr = caller r.request.act x.0 wr.acts (wr.path r.request.act (on_self r.request.act) wr.acts) x.3

    yq : on y.0 q.request.act ≡ true
    yq = caller q.request.act y.0 wq.acts (wq.path q.request.act (on_self q.request.act) wq.acts) y.3

    by : (on x.0 y.0 ≡ true) ⊎ (on y.0 x.0 ≡ true) → r.request.act ≡ q.request.act
    by (inl o) = h.anti r.request.act q.request.act pr.waits pr.alive pq.waits pq.alive
        (on_trans r.request.act x.0 q.request.act x.1 (on_trans x.0 y.0 q.request.act o yq))
    by (inr o) = sym (h.anti q.request.act r.request.act pq.waits pq.alive pr.waits pr.alive
        (on_trans q.request.act y.0 r.request.act y.1 (on_trans y.0 x.0 r.request.act o xr)))

-- A call that doesn't count for the copy, or a read, is put before the others.
module _ (s t : State) (base : ℕ) (c : Call) (skip : c.write ≡ true → Ok t c.act → ⊥) where
  pub logged_less : (es : List Entry) (cs : List Call) → Logged t base es cs → Logged t base es (c ∷ cs)
  logged_less es cs (calm n m) = calm n (less c skip m)
  logged_less (e ∷ es) cs (bad _ f l) = bad e f (logged_less es cs l)
  logged_less (e ∷ es) cs (waiting _ f n m) = waiting e f n (less c skip m)

-- The write that waited gets its line.
module _ (s : State) (base : ℕ) (e0 : Entry) (waits0 : IsWaiting s e0) (fine0 : Fine s e0.by) where
  pub above : (es : List Entry) (cs : List Call) → In e0 es → Logged s base es cs → (T : List Entry → List Call → Type 0)
      → ((e : Entry) (ds : List Entry) → e ≡ e0 → NoneWaits s ds → Matches s base ds cs → T (e ∷ ds) cs)
      → ((e : Entry) (ds : List Entry) → (Fine s e.by → ⊥) → T ds cs → T (e ∷ ds) cs) → T es cs
  above es cs i (calm n m) T here' over' = absurd (n e0 i waits0 fine0)
  above (e ∷ es) cs i (bad _ f l) T here' over' = by (λ j. above es cs j l T here' over') i
    where
      by : (In e0 es → T es cs) → In e0 (e ∷ es) → T (e ∷ es) cs
      by ih (inl is) = absurd (f (subst (λ (x : Entry). Fine s x.by) is fine0))
      by ih (inr j) = over' e es f (ih j)
  above (e ∷ es) cs i (waiting _ f n m) T here' over' = by i
    where
      by : In e0 (e ∷ es) → T (e ∷ es) cs
      by (inl is) = here' e es (sym is) n m
      by (inr j) = absurd (n e0 j waits0 fine0)

module _ (s : State) (r : Answer) (p : ℕ) (guard : Guard (Answered r p) s) (h : Holds s) (v : Values s)
    (later : Later s (next (Answered r p) s)) where
  abbrev c0 : Call
  c0 = record { act = r.request.act; write = r.request.write; line = p; sees = r.sees; gives = r.gives }

  w' : ValueLater s (next (Answered r p) s)
  w' = let k = stopped_later s r.request.act in record {
    initial = refl;
    request = λ n e b. omega arith;
    clean = k.clean;
    doomed = k.doomed;
    spoils = k.spoils;
    news = k.news;
    tops = k.tops;
    wait_back = k.wait_back;
  }

  pending : Pending s r.request.act r.request.number
  pending = record {
    last = guard.1;
    waits = guard.2;
    alive = λ u o. (let z = guard.3 u o in omega (arith, z));
    going = (let z = guard.3 (Root (root r.request.act)) (on_base r.request.act) in omega (arith, z));
  }

  act : is_action r.request.act ≡ true
  act = (h.mail (Invoked r) guard.0).0.0

  asked : Asked s r.request
  asked = (h.mail (Invoked r) guard.0).0

  binding : r.request.binding ≡ s.kept (root r.request.act)
  binding = asked.3 pending

  stages : (u : Act) → ((next (Answered r p) s).action u).stage ≡ (s.action u).stage
  stages = act_cases (λ (b : Act) (y : Action). y.stage ≡ (s.action b).stage) s.action r.request.act (stopped (s.action r.request.act)) refl
      (λ b f. refl)

  dooms : (u : Act) → ((next (Answered r p) s).action u).doomed ≡ (s.action u).doomed
  dooms = act_cases (λ (b : Act) (y : Action). y.doomed ≡ (s.action b).doomed) s.action r.request.act (stopped (s.action r.request.act))
      refl (λ b f. refl)

  waits_before : (b : Act) → ((next (Answered r p) s).action b).waits ≡ true → (same b r.request.act ≡ false) × ((s.action b).waits ≡ true)
  waits_before = act_cases (λ (b : Act) (y : Action). y.waits ≡ true → (same b r.request.act ≡ false) × ((s.action b).waits ≡ true))
      s.action r.request.act (stopped (s.action r.request.act)) (λ x. (let never : false ≡ true = x in absurd (cc))) (λ b f x. (f, x))

  zero : (s.action (top r.request.act)).stage ≡ 0
  zero = guard.3 (top r.request.act) (on_top r.request.act)

  clean_on : (b : Act) → Clean s b → Clean (next (Answered r p) s) b
  clean_on b c u o = let e = stages u in ((let l = (c u o).0 in omega (arith, l, e)), dooms u ∙ (c u o).1)

  doomed' : (b : Act) → ((next (Answered r p) s).action b).doomed ≡ true →
      (is_action b ≡ true) × ((((next (Answered r p) s).action b).stage ≡ 0) ⊎ (((next (Answered r p) s).action b).stage ≡ 4))
  doomed' = act_cases (λ (b : Act) (y : Action). y.doomed ≡ true → (is_action b ≡ true) × ((y.stage ≡ 0) ⊎ (y.stage ≡ 4))) s.action
      r.request.act (stopped (s.action r.request.act)) (λ d. v.doomed r.request.act d) (λ b f d. v.doomed b d)

  roots' : (b : Act) → is_action b ≡ false → ((next (Answered r p) s).action b).stage ≤ 3
  roots' = act_cases (λ (b : Act) (y : Action). is_action b ≡ false →
      y.stage ≤ 3) s.action r.request.act (stopped (s.action r.request.act)) (λ e. v.roots r.request.act e) (λ b f e. v.roots b e)

  -- the new call is of an open top
  not_survives : (b : Act) → b ≡ r.request.act → Survives (next (Answered r p) s) b → ⊥
  not_survives b is f = let three = f (top b) (on_top b) (top_acts b (ap is_action is ∙ act)) in let e = stages (top b) in
      let z : (s.action (top b)).stage ≡ 0 = ap (λ (y : Act). (s.action (top y)).stage) is ∙ zero in omega (arith, three, e, z)

  last_new : (x : ℕ) → IsLast (next (Answered r p) s) x s.calls → IsLast (next (Answered r p) s) x (c0 ∷ s.calls)
  last_new x l = older c0 (λ write f. not_survives r.request.act refl f) l

  -- and doesn't count for another that waits
  sees_new : (q : Answer) → In (Invoked q) s.net → Pending (next (Answered r p) s) q.request.act q.request.number →
      Clean (next (Answered r p) s) q.request.act → s.naming.first ≤ s.kept (root q.request.act) → IsUp s (s.kept (root q.request.act))
      → Newest s.initial (Mine (next (Answered r p) s) q.request.act) q.sees s.calls →
      Newest s.initial (Mine (next (Answered r p) s) q.request.act) q.sees (c0 ∷ s.calls)
  sees_new q i pt clean present up l = older c0 (λ write m. never write m) l
    where
      wb : (same q.request.act r.request.act ≡ false) × ((s.action q.request.act).waits ≡ true)
      wb = waits_before q.request.act pt.waits

      old : Pending s q.request.act q.request.number
      old = (later.pend q.request.act q.request.number (h.mail (Invoked q) i).0.1 pt).0

      never : r.request.write ≡ true → Mine (next (Answered r p) s) q.request.act r.request.act → ⊥
      never write (inl f) = not_survives r.request.act refl f
      never write (inr (e, c)) =
          let kin : root r.request.act ≡ root q.request.act = sym (top_root r.request.act) ∙ ap root e ∙ top_root q.request.act in
          let is = one_pending s h r q guard.0 i pending old (pending_good h v later w' q i old present up) kin write in
          differ (subst (λ (y : Act). same y r.request.act ≡ true) is (same_self r.request.act)) wb.0

  -- what of its own requests was sent is used
  spend : (q : Request) → In (Invoke q) s.net → q.number ≡ (s.action q.act).request → (s.action q.act).waits ≡ true →
      Spent (next (Answered r p) s) q
  spend q i e wt = elim (by_cases (same q.act r.request.act)) [
    | inl t ↦ inr (λ fine. used_on h v later w' doomed' roots' q (h.mail (Invoke q) i) (used (same_is q.act r.request.act t)))
    | inr f ↦ inl (subst (λ (y : Action). (q.number ≡ y.request) × (y.waits ≡ true))
        (sym (act_other s.action r.request.act (stopped (s.action r.request.act)) q.act f)) (e, wt))
  ]
    where
      used : q.act ≡ r.request.act → Used s q
      used is = by (v.says (Invoked r) guard.0).0
        where
          pq : Pending s q.act q.number
          pq = record {
            last = e;
            waits = wt;
            alive = subst (λ (y : Act). Alive s y) (sym is) pending.alive;
            going = subst (λ (y : Act). GoesOn s (root y)) (sym is) pending.going;
          }

          b : r.request.binding ≡ q.binding
          b = binding ∙ ap (λ (y : Act). s.kept (root y)) (sym is) ∙ sym ((h.mail (Invoke q) i).3 pq)

          k : q.number ≡ r.request.number
          k = e ∙ ap (λ (y : Act). (s.action y).request) is ∙ sym guard.1

          by : Used s r.request → Used s q
          by (inl past) = inl (subst (λ (j : ℕ). IsPast s j) b past)
          by (inr l) = inr (subst (λ (j : ℕ). q.number ≤ (server_of s j).request q.act) b
              (subst (λ (y : Act). q.number ≤ (server_of s r.request.binding).request y) (sym is) (let z = k in omega (arith, l, z))))

  -- the log with the new call
  copy_new : s.naming.first ≤ s.naming.recorded → IsUp s s.naming.recorded →
      Logged (next (Answered r p) s) (server_of s s.naming.recorded).base (server_of s s.naming.recorded).log (c0 ∷ s.calls)
  copy_new present up =
      by (by_cases r.request.write) (dec_fine s r.request.act) (number_cases (s.kept (root r.request.act)) s.naming.recorded)
    where
      number_cases : (x y : ℕ) → (x ≡ y) ⊎ (x ≢ y)
      number_cases x y = grind arith

      base : ℕ
      base = (server_of s s.naming.recorded).base

      es : List Entry
      es = (server_of s s.naming.recorded).log

      n : ℕ
      n = (s.binding s.naming.recorded).server

      entries : (e : Entry) → In e es → (is_action e.by ≡ true) × (e.request ≤ (s.action e.by).request)
      entries e i = let o = v.logs n e i in (o.acts, o.asked)

      before : Logged s base es s.calls
      before = v.copy present up

      oks' : (b : Act) → is_action b ≡ true → Survives (next (Answered r p) s) b → Ok (next (Answered r p) s) b
      oks' = oks h v later w' doomed' roots'

      -- others still wait; an entry of this request would have to be the one that gets its line
      others : ((e : Entry) → In e es → IsWaiting s e → Fine s e.by → s.kept (root e.by) ≡ s.naming.recorded → e.by ≡ r.request.act → ⊥) →
          Logged (next (Answered r p) s) base es s.calls
      others none' =
          logged_on h v later w' refl present oks' base es entries (λ e i wt fine kept. elim (by_cases (same e.by r.request.act)) [
            | inl t ↦ absurd (none' e i wt (fine_back h v later w' e.by (entries e i).0 fine) kept (same_is e.by r.request.act t))
            | inr f ↦ subst (λ (y : Action). (e.request ≡ y.request) × (y.waits ≡ true))
                (sym (act_other s.action r.request.act (stopped (s.action r.request.act)) e.by f)) wt
          ]) before

      by : (r.request.write ≡ true) ⊎ (r.request.write ≡ false) → Fine s r.request.act ⊎ (Fine s r.request.act → ⊥) →
          (s.kept (root r.request.act) ≡ s.naming.recorded) ⊎ (s.kept (root r.request.act) ≢ s.naming.recorded) →
          Logged (next (Answered r p) s) base es (c0 ∷ s.calls)
      by wr (inr f) k = logged_less s (next (Answered r p) s) base c0 (λ write ok. f (fine_back h v later w' r.request.act act ok.0)) es
          s.calls (others (λ e i wt fine kept is. f (subst (λ (y : Act). Fine s y) is fine)))
      by wr (inl fine) (inr apart) = logged_less s (next (Answered r p) s) base c0 (λ write ok. elim ok.1
          [ inl three ↦ (let e = stages (top r.request.act) in let z = zero in omega (arith, three, e, z)) | inr k ↦ apart k ]) es s.calls
          (others (λ e i wt f kept is. apart (subst (λ (y : Act). s.kept (root y) ≡ s.naming.recorded) is kept)))
      by (inr read) (inl fine) (inl kept) =
          logged_less s (next (Answered r p) s) base c0 (λ write ok. differ write read) es s.calls (others none')
        where
          here' : r.request.binding ≡ s.naming.recorded
          here' = binding ∙ kept

          none' : (e : Entry) → In e es → IsWaiting s e → Fine s e.by → s.kept (root e.by) ≡ s.naming.recorded → e.by ≡ r.request.act → ⊥
          none' e i wt f k is =
              elim (subst (λ (b : ℕ). IsPast s b ⊎ ((r.request.number ≤ (server_of s b).request r.request.act) × ((d : Entry) → In d
              (server_of s b).log → d.by ≡ r.request.act → d.request ≢ r.request.number))) here' ((v.says (Invoked r) guard.0).3 read)) [
                | inl past ↦ up_not_past s s.naming.recorded up past
                | inr q ↦ q.1 e i is (wt.0 ∙ ap (λ (y : Act). (s.action y).request) is ∙ sym guard.1)
              ]
      by (inl write) (inl fine) (inl kept) =
          written (subst (λ (b : ℕ). IsPast s b ⊎ ((e : Entry) × In e (server_of s b).log × (e.by ≡ r.request.act)
          × (e.request ≡ r.request.number) × (e.gives ≡ r.gives))) (binding ∙ kept) ((v.says (Invoked r) guard.0).1 write pending))
        where
          written : IsPast s s.naming.recorded ⊎ ((e : Entry) × In e es × (e.by ≡ r.request.act) × (e.request ≡ r.request.number)
              × (e.gives ≡ r.gives)) → Logged (next (Answered r p) s) base es (c0 ∷ s.calls)
          written (inl past) = absurd (up_not_past s s.naming.recorded up past)
          written (inr (e0, i0, is, number, gives)) = T.0
            where
              waits0 : IsWaiting s e0
              waits0 = (
                number ∙ guard.1 ∙ ap (λ (y : Act). (s.action y).request) (sym is),
                subst (λ (y : Act). (s.action y).waits ≡ true) (sym is) guard.2,
              )

              fine0 : Fine s e0.by
              fine0 = subst (λ (y : Act). Fine s y) (sym is) fine

              Goal : List Entry → List Call → Type 0
              Goal ds cs = ((e : Entry) → In e ds → is_action e.by ≡ true) → ((c : Call) → In c cs → In c s.calls) →
                  NoneWaits (next (Answered r p) s) ds × Matches (next (Answered r p) s) base ds (c0 ∷ cs)

              waits_back : (e : Entry) → is_action e.by ≡ true → IsWaiting (next (Answered r p) s) e →
                  IsWaiting s e × (same e.by r.request.act ≡ false)
              waits_back e act' wt = let q = waits_before e.by wt.1 in (
                (
                  subst (λ (y : Action). e.request ≡ y.request)
                      (act_other s.action r.request.act (stopped (s.action r.request.act)) e.by q.0) wt.0,
                  q.1,
                ),
                q.0,
              )

              base_case : (e : Entry) (ds : List Entry) → e ≡ e0 → NoneWaits s ds → Matches s base ds s.calls → Goal (e ∷ ds) s.calls
              base_case e ds e-is none' m acts sub = (
                λ d k wt f. elim k [
                  | inl d-is ↦ differ (subst (λ (y : Act). same y r.request.act ≡ true) (sym (ap (λ (z : Entry). z.by) (d-is ∙ e-is) ∙ is))
                      (same_self r.request.act)) (waits_back d (acts d (inl d-is)) wt).1
                  | inr j ↦ none' d j (waits_back d (acts d (inr j)) wt).0 (fine_back h v later w' d.by (acts d (inr j)) f)
                ],
                both e c0 (ap (λ (z : Entry). z.by) e-is ∙ is) (ap (λ (z : Entry). z.gives) e-is ∙ gives) write (λ f. kept)
                    (matches_on h v later w' refl present oks' base ds s.calls (λ c k. k) (λ d k. acts d (inr k)) m),
              )

              step_case : (e : Entry) (ds : List Entry) → (Fine s e.by → ⊥) → Goal ds s.calls → Goal (e ∷ ds) s.calls
              step_case e ds f goal acts sub =
                  let q = goal (λ d k. acts d (inr k)) sub in (
                    λ d k wt g. elim k [
                      | inl d-is ↦ f (subst (λ (z : Entry). Fine s z.by) d-is (fine_back h v later w' d.by (acts d (inl d-is)) g))
                      | inr j ↦ q.0 d j wt g
                    ],
                    more e (λ g. f (fine_back h v later w' e.by (acts e (inl refl)) g)) q.1,
                  )

              made : NoneWaits (next (Answered r p) s) es × Matches (next (Answered r p) s) base es (c0 ∷ s.calls)
              made = above s base e0 waits0 fine0 es s.calls i0 before Goal base_case step_case (λ e k. (entries e k).0) (λ c k. k)

              T : Logged (next (Answered r p) s) base es (c0 ∷ s.calls) × Unit {0}
              T = (calm made.0 made.1, tt)

  pub value_answered : Values (next (Answered r p) s)
  value_answered = record {
    waits = act_cases (λ (b : Act) (y : Action). y.waits ≡ true → (is_action b ≡ true) × ((y.stage ≡ 0) ⊎ (y.stage ≡ 4))) s.action
        r.request.act (stopped (s.action r.request.act)) (λ x. (let never : false ≡ true = x in absurd (cc))) (λ b f x. v.waits b x);
    path = λ b wt alive u o ac. stages u ∙ v.path b (waits_before b wt).1 (alive_back later b alive) u o ac;
    doomed = doomed';
    roots = roots';
    whole = whole;
    logs = λ k. logs_still h v later w' doomed' roots' k (still_self (s.server k));
    fresh = fresh;
    copy = copy_new;
    seen = (
      (λ c i. let l = (h.calls c i).before in let k = guard.4 in omega (arith, l, k)),
      sees,
      seen_on h v later w' s.calls (λ c i. i) (cleans h v later w' doomed' roots') v.seen,
    );
    says = λ m i. says_on h v later w' doomed' roots' spend (stay_still h v later w' doomed' roots' (λ k. still_self (s.server k)))
        (fresh_log_still h v later w' doomed' roots' (λ k. still_self (s.server k))) last_new sees_new m i (v.says m i);
  }
    where
      t : State
      t = next (Answered r p) s

      whole : (c : Call) → In c (c0 ∷ s.calls) → Alive t c.act → 1 ≤ (t.action (top c.act)).stage → Merged t c.act (top c.act)
      whole c (inl is) alive one = absurd (let e = stages (top c.act) in
          let z : (s.action (top c.act)).stage ≡ 0 = ap (λ (d : Call). (s.action (top d.act)).stage) is ∙ zero in omega (arith, one, e, z))
      whole c (inr i) alive one = merged_on later c.act (top c.act)
          (v.whole c i (alive_back later c.act alive) (let e = stages (top c.act) in omega (arith, one, e)))

      fresh : (k : ℕ) → 1 ≤ (s.server k).active → CopyHolds t k
      fresh k one = record {
        below = o.below;
        kept = o.kept;
        maker = o.maker;
        doubtless = doubt_on later (s.server k).active o.below o.doubtless;
        base = λ current. last_new (s.server k).base
            (loaded_on h v later w' doomed' roots' (s.server k).active (s.server k).base o.below o.kept o.maker o.doubtless o.base current);
        log = λ current. o.log (later.current (s.server k).active o.below current);
      }
        where
          o : CopyHolds s k
          o = v.fresh k one

      sees : Clean t r.request.act → Good t (top r.request.act) → Newest s.initial (Mine t r.request.act) r.sees s.calls
      sees clean good = newest_on s.initial s.initial (Mine s r.request.act) (Mine t r.request.act) r.sees s.calls refl
          (λ c i write m. forward c m) (λ c i write m. backward c m)
          ((v.says (Invoked r) guard.0).2 pending (w'.clean r.request.act clean) present up)
        where
          forward : (c : Call) → Mine s r.request.act c.act → Mine t r.request.act c.act
          forward c (inl f) = inl (λ u o ac. stages u ∙ f u o ac)
          forward c (inr (e, x)) = inr (e, clean_on c.act x)

          backward : (c : Call) → Mine t r.request.act c.act → Mine s r.request.act c.act
          backward c (inl f) = inl (λ u o ac. sym (stages u) ∙ f u o ac)
          backward c (inr (e, x)) = inr (e, w'.clean c.act x)

          named : (s.binding (s.kept (root r.request.act))).named ≡ true
          named = subst (λ (b : ℕ). (s.binding b).named ≡ true) binding asked.2

          good' : Good s (top r.request.act)
          good' = record {
            alive = (let z = zero in omega (arith, z));
            going = inl (subst (λ (u : ℕ). GoesOn s u) (sym (top_root r.request.act)) pending.going);
            up = good.up;
            present = good.present;
          }

          opened : GoesOn s (root (top r.request.act)) × IsUp s (s.kept (root (top r.request.act)))
              × (s.naming.first ≤ s.kept (root (top r.request.act)))
          opened = open_good h (top r.request.act) (top_is r.request.act act) zero (let q = (h.bindings (s.kept (root r.request.act))
              named).positive in let e : s.kept (root (top r.request.act)) ≡ s.kept (root r.request.act) = ap s.kept
              (top_root r.request.act) in omega (arith, q, e)) good'

          present : s.naming.first ≤ s.kept (root r.request.act)
          present = subst (λ (u : ℕ). s.naming.first ≤ s.kept u) (top_root r.request.act) opened.2

          up : IsUp s (s.kept (root r.request.act))
          up = subst (λ (u : ℕ). IsUp s (s.kept u)) (top_root r.request.act) opened.1
