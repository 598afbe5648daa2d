-- What stands in the log of a copy was called: each write there is that of a call, or its request still waits at that copy, unless its
-- action is spoilt or its unit is over. So a write that a top held where a server voted for it is a call's, whatever naming has forgotten.
use Rattle.arj_law_lock.proofs.Terms
use Terms.{arith, ℕ, ◌≡◌, ◌≤◌, ◌<◌, ◌⊎◌, List, [], ◌∷◌, Bool, true, false, cond, map, filter, inl, inr, refl, sym, ◌∙◌, ap, subst}
use Terms.{Act, Root, Sub, same, on, root, top, is_action, at, at_act, In, Action, Call, Entry, Invoke, Invoked, Refused, Changed}
use Terms.{Vote, Answer, Request, Server, State, Alive, Merged, Event, CrashNaming, BindLive, BindNew, Grant, Record, ConfirmTop}
use Terms.{PassEntry, DropEntry, CrashServer, ActivateCopy, Apply, Refuse, Change, PassRow, PassTop, DropRows, VoteTop, Keep, Name, Load}
use Terms.{SendInvoke, Answered, TurnedDown, Lost, GiveUp, CommitNested, Abort, CommitTop, SendVote, SendConfirm, Decide, Report, EndUnit}
use Terms.{Included, Guard, Run, applied, handed, next, start, stay, step, stopped}
use Rattle.arj_law_lock.proofs.machine
use machine.{CallSteps.top_acts, Core.up_not_past, Order.start_holds, Order.step_keeps, ValueLasts.clean_alive}
use machine.{ValueRun.run_values, ValueRun.start_values, ValueRun.step_values}
use machine.Claims.{Asked, GoesOn, Holds, IsUp, Mean, Sure}
use machine.Later.{Later, goes_back, merged_on}
use machine.Paths.{above_top, act_cases, at_cases, by_cases, differ, on_root, on_self, on_top, same_is, top_of, top_root}
use machine.ValueClaims.{Clean, IsWaiting, NoEntry, Used, Values}
use Rattle.arj_law_lock.proofs.logs.LoggedSteps.{touched}
use Rattle.arj_law_lock.specs.machine.Steps.{IsAt}

-- ---- what is kept

-- a call of its action writes
abbrev pub IsCalled : State → Entry → Type 0
IsCalled s e = (c : Call) × In c s.calls × (c.act ≡ e.by) × (c.write ≡ true)

-- its request waits, and this is the copy of the binding that the unit keeps
abbrev pub WaitsHere : State → ℕ → Entry → Type 0
WaitsHere s n e = IsWaiting s e × IsAt s n (s.kept (root e.by))

-- each write in a log was called, or waits
abbrev pub AreCalls : State → Type 0
AreCalls s = (n : ℕ) (e : Entry) → In e (s.server n).log → Clean s e.by → GoesOn s (root e.by) → IsCalled s e ⊎ WaitsHere s n e

-- ---- a step

-- it was in the log of this server before, whose copy is the same
abbrev WasThere : Server → Server → Entry → Type 0
WasThere v w e = (f : Entry) × In f v.log × (e.by ≡ f.by) × (e.request ≡ f.request) × (w.incarnation ≡ v.incarnation)
    × (w.active ≡ v.active)

-- so it is of each write at a server, or it is a new one, which waits
abbrev AreOld : State → State → Type 0
AreOld s t = (n : ℕ) (e : Entry) → In e (t.server n).log → WasThere (s.server n) (t.server n) e
    ⊎ (Clean s e.by → GoesOn s (root e.by) → WaitsHere t n e)

-- a write that waited waits, or was called
abbrev Stay : State → State → Type 0
Stay s t = (n : ℕ) (f : Entry) → In f (s.server n).log → WaitsHere s n f → Clean t f.by → GoesOn t (root f.by) →
    IsWaiting t f ⊎ IsCalled t f

module _ (s : State) (e : Event) (guard : Guard e s) (h : Holds s) (v : Values s) (later : Later s (next e s)) where
  abbrev t : State
  t = next e s

  -- who isn't spoilt wasn't
  back : (a : Act) → Clean t a → Clean s a
  back a clean u o = (
    (let l = later.stage u in let k = (clean u o).0 in omega (arith, l, k)),
    elim (by_cases (s.action u).doomed) [
      | inl d ↦ differ (let z = touched (Sub (Root 0) 0) refl s h v e guard in z.doomed u d) (clean u o).1
      | inr f ↦ f
    ],
  )

  -- the copy stays where the request waits
  at_same : (n : ℕ) (f : Entry) → WaitsHere s n f → IsWaiting t f → Clean t f.by → GoesOn t (root f.by) →
      (t.server n).incarnation ≡ (s.server n).incarnation → (t.server n).active ≡ (s.server n).active → IsAt t n (t.kept (root f.by))
  at_same n f here wait clean goes inc active =
      subst (IsAt t n) (sym same_kept) (
        (later.made b below).0 ∙ here.1.0,
        inc ∙ here.1.1 ∙ sym (later.named b named).1,
        active ∙ here.1.2,
      )
    where
      b : ℕ
      b = s.kept (root f.by)

      same_kept : t.kept (root f.by) ≡ s.kept (root f.by)
      same_kept = (later.pend f.by f.request (let w = here.0.0 in omega (arith, w))
          (record { last = wait.0; waits = wait.1; alive = clean_alive t f.by clean; going = goes })).2

      named : (s.binding (s.kept (root f.by))).named ≡ true
      named = subst (λ (u : ℕ). (s.binding (s.kept u)).named ≡ true) (top_root f.by)
          (let w = h.waits f.by here.0.1 (clean_alive s f.by (back f.by clean)) (goes_back later (root f.by) goes) in
          let sure : Sure s (top f.by) = w.sure in sure.named)

      below : s.kept (root f.by) < s.naming.bound
      below = (h.bindings (s.kept (root f.by)) named).below

  onward : AreOld s t → Stay s t → AreCalls s → AreCalls t
  onward old stays all n e i clean goes = elim (old n e i) [
    | inr new ↦ inr (new (back e.by clean) (goes_back later (root e.by) goes))
    | inl was ↦ from was
  ]
    where
      from : WasThere (s.server n) (t.server n) e → IsCalled t e ⊎ WaitsHere t n e
      from (f, j, by, request, inc, active) = elim (all n f j (back f.by its_clean) (goes_back later (root f.by) its_goes)) [
        | inl c ↦ inl (c.0, later.calls c.0 c.1, c.2 ∙ sym by, c.3)
        | inr here ↦ elim (stays n f j here its_clean its_goes) [
          | inl wait ↦ inr (
            (
              request ∙ wait.0 ∙ ap (λ (a : Act). (t.action a).request) (sym by),
              ap (λ (a : Act). (t.action a).waits) by ∙ wait.1,
            ),
            subst (λ (a : Act). IsAt t n (t.kept (root a))) (sym by) (at_same n f here wait its_clean its_goes inc active),
          )
          | inr c ↦ inl (c.0, c.1, c.2 ∙ sym by, c.3)
        ]
      ]
        where
          its_clean : Clean t f.by
          its_clean = subst (Clean t) by clean

          its_goes : GoesOn t (root f.by)
          its_goes = subst (λ (a : Act). GoesOn t (root a)) by goes

-- ---- logs

-- a list of writes after a commit is applied
in_handed : (a : Act) (j : ℕ) (e : Entry) (es : List Entry) → In e (map (handed a j) es) →
    (f : Entry) × In f es × (e.by ≡ f.by) × (e.request ≡ f.request)
in_handed a j e [] i = absurd i
in_handed a j e (f ∷ es) (inl is) = (f, inl refl, ap (λ (z : Entry). z.by) is, ap (λ (z : Entry). z.request) is)
in_handed a j e (f ∷ es) (inr i) = let r = in_handed a j e es i in (r.0, inr r.1, r.2, r.3)

in_filtered : (p : Entry → Bool) (e : Entry) (es : List Entry) → In e (filter p es) → In e es
in_filtered p e [] i = absurd i
in_filtered p e (f ∷ es) i = by (p f) i (in_filtered p e es)
  where
    by : (b : Bool) → In e (cond b (f ∷ filter p es) (filter p es)) → (In e (filter p es) → In e es) → In e (f ∷ es)
    by true (inl is) ih = inl is
    by true (inr j) ih = inr (ih j)
    by false j ih = inr (ih j)

module _ (s : State) where
  -- of no server the log changes
  same_logs : (t : State) → t.server ≡ s.server → AreOld s t
  same_logs t servers n e i = inl (
    e,
    subst (λ (g : ℕ → Server). In e (g n).log) servers i,
    refl,
    refl,
    ap (λ (g : ℕ → Server). (g n).incarnation) servers,
    ap (λ (g : ℕ → Server). (g n).active) servers,
  )

  -- only of this one
  only_at : (k : ℕ) (w : Server) → ((e : Entry) → In e w.log → WasThere (s.server k) w e) → (n : ℕ) (e : Entry) →
      In e (at s.server k w n).log → WasThere (s.server n) (at s.server k w n) e
  only_at k w here = at_cases (λ (n : ℕ) (x : Server). (e : Entry) → In e x.log → WasThere (s.server n) x e) s.server k w here
      (λ n other e i. (e, i, refl, refl, refl, refl))

  -- one action changes, whose request is as it was, and waits as it did
  waits_at : (a : Act) (x : Action) → x.request ≡ (s.action a).request → x.waits ≡ (s.action a).waits → (f : Entry) → IsWaiting s f →
      (f.request ≡ (at_act s.action a x f.by).request) × ((at_act s.action a x f.by).waits ≡ true)
  waits_at a x request waits f wait = act_cases
      (λ (b : Act) (y : Action). (f.request ≡ (s.action b).request) × ((s.action b).waits ≡ true) → (f.request ≡ y.request)
      × (y.waits ≡ true))
      s.action a x (λ w. (w.0 ∙ sym request, waits ∙ w.1)) (λ b other w. w) f.by wait

  -- one action changes, and another one than this waits as it did
  waits_but : (a : Act) (x : Action) (f : Entry) → IsWaiting s f → same f.by a ≡ false →
      (f.request ≡ (at_act s.action a x f.by).request) × ((at_act s.action a x f.by).waits ≡ true)
  waits_but a x f wait other =
      subst (λ (b : Bool). (f.request ≡ (cond b x (s.action f.by)).request) × ((cond b x (s.action f.by)).waits ≡ true)) (sym other) wait

  module _ (h : Holds s) (v : Values s) where
    -- this copy is up, of the binding that is kept
    up_here : (n b : ℕ) → IsAt s n b → IsUp s b
    up_here n b here = subst (λ (w : Server). (w.incarnation ≡ (s.binding b).incarnation) × (w.active ≡ b)) (ap s.server (sym here.0))
        (here.1, here.2)

    -- what waits asks under that
    its_binding : (q : Request) → Asked s q → (f : Entry) → f.by ≡ q.act → f.request ≡ q.number → IsWaiting s f → Clean s f.by →
        GoesOn s (root f.by) → q.binding ≡ s.kept (root f.by)
    its_binding q asked f by number wait clean goes = asked.3 (record {
      last = sym number ∙ wait.0 ∙ ap (λ (a : Act). (s.action a).request) by;
      waits = ap (λ (a : Act). (s.action a).waits) (sym by) ∙ wait.1;
      alive = subst (Alive s) by (clean_alive s f.by clean);
      going = subst (λ (a : Act). GoesOn s (root a)) by goes;
    }) ∙ ap (λ (a : Act). s.kept (root a)) (sym by)

    -- a write that waits here is that of no request without an entry
    not_none : (q : Request) → Asked s q → NoEntry s q → (n : ℕ) (f : Entry) → In f (s.server n).log → f.by ≡ q.act →
        f.request ≡ q.number → WaitsHere s n f → Clean s f.by → GoesOn s (root f.by) → ⊥
    not_none q asked none n f i by number here clean goes = elim none [
      | inl past ↦ up_not_past s q.binding up past
      | inr r ↦ r.1 f (subst (λ (w : Server). In f w.log) (ap s.server (sym at_it.0)) i) by number
    ]
      where
        at_it : IsAt s n q.binding
        at_it = subst (IsAt s n) (sym (its_binding q asked f by number here.0 clean goes)) here.1

        up : IsUp s q.binding
        up = up_here n q.binding at_it

    -- a request that is applied waits, where its action isn't spoilt
    applied_waits : (n : ℕ) (q : Request) (g : ℕ) → Guard (Apply n q g) s → Clean s q.act → GoesOn s (root q.act) →
        (q.number ≡ (s.action q.act).request) × ((s.action q.act).waits ≡ true)
    applied_waits n q g guard clean goes = elim (v.says (Invoke q) guard.0).1 [
      | inl w ↦ w
      | inr f ↦ absurd (used (f (clean, inl goes)))
    ]
      where
        used : Used s q → ⊥
        used (inl past) = up_not_past s q.binding (up_here n q.binding guard.1) past
        used (inr l) = let k : q.number ≤ (s.server n).request q.act = subst (λ (w : Server). q.number ≤ w.request q.act)
            (ap s.server guard.1.0) l in let g = guard.2 in omega (arith, k, g)

-- ---- each step

module _ (s : State) (h : Holds s) (v : Values s) (all : AreCalls s) where
  abbrev Goes : Event → Type 0
  Goes e = Later s (next e s) → AreCalls (next e s)

  -- nothing that waits changes
  still : (t : State) → t.action ≡ s.action → Stay s t
  still t same_actions n f i here clean goes = inl (subst (λ (k : Act → Action). (f.request ≡ (k f.by).request)
      × ((k f.by).waits ≡ true)) (sym same_actions) here.0)

  -- no server changes, nor what waits
  plain : (e : Event) → Guard e s → (next e s).server ≡ s.server → (next e s).action ≡ s.action → Goes e
  plain e guard servers same_actions later = onward s e guard h v later (same_logs s (next e s) servers) (still (next e s) same_actions) all

  applied_step : (n : ℕ) (q : Request) (g : ℕ) → Guard (Apply n q g) s → Goes (Apply n q g)
  applied_step n q g guard later = onward s (Apply n q g) guard h v later old (λ k f i here clean goes. inl here.0) all
    where
      t : State
      t = next (Apply n q g) s

      new_one : Entry
      new_one = record { holder = q.act; by = q.act; request = q.number; gives = g }

      asked : Asked s q
      asked = h.mail (Invoke q) guard.0

      copies : (k : ℕ) → ((t.server k).incarnation ≡ (s.server k).incarnation) × ((t.server k).active ≡ (s.server k).active)
      copies = at_cases (λ (k : ℕ) (w : Server). (w.incarnation ≡ (s.server k).incarnation) × (w.active ≡ (s.server k).active)) s.server n
          (applied (s.server n) q g) (refl, refl) (λ k other. (refl, refl))

      new : Clean s q.act → GoesOn s (root q.act) → WaitsHere t n new_one
      new clean goes =
          let w = applied_waits s h v n q g guard clean goes in
          let b = its_binding s h v q asked new_one refl refl w clean goes in
          (w, subst (IsAt t n) b (guard.1.0, (copies n).0 ∙ guard.1.1, (copies n).1 ∙ guard.1.2))

      old : AreOld s t
      old = at_cases (λ (k : ℕ) (w : Server). (e : Entry) → In e w.log → WasThere (s.server k) w e
          ⊎ (Clean s e.by → GoesOn s (root e.by) → WaitsHere t k e)) s.server n (applied (s.server n) q g) (λ e i. by q.write e i)
          (λ k other e i. inl (e, i, refl, refl, refl, refl))
        where
          by : (b : Bool) (e : Entry) → In e (cond b (new_one ∷ (s.server n).log) (s.server n).log) →
              ((f : Entry) × In f (s.server n).log × (e.by ≡ f.by) × (e.request ≡ f.request)
              × ((s.server n).incarnation ≡ (s.server n).incarnation) × ((s.server n).active ≡ (s.server n).active))
              ⊎ (Clean s e.by → GoesOn s (root e.by) → WaitsHere t n e)
          by true e (inl is) = inr (λ clean goes. subst (WaitsHere t n) (sym is) (new (subst (λ (z : Entry). Clean s z.by) is clean)
              (subst (λ (z : Entry). GoesOn s (root z.by)) is goes)))
          by true e (inr i) = inl (e, i, refl, refl, refl, refl)
          by false e i = inl (e, i, refl, refl, refl, refl)

  answered_step : (r : Answer) (p : ℕ) → Guard (Answered r p) s → Goes (Answered r p)
  answered_step r p guard later = onward s (Answered r p) guard h v later (same_logs s (next (Answered r p) s) refl) stays all
    where
      t : State
      t = next (Answered r p) s

      stays : Stay s t
      stays n f i here clean goes = by (same f.by r.request.act) refl
        where
          clean_s : Clean s f.by
          clean_s = back s (Answered r p) guard h v later f.by clean

          goes_s : GoesOn s (root f.by)
          goes_s = goes_back later (root f.by) goes

          written : f.by ≡ r.request.act → r.request.write ≡ true
          written own = elim (by_cases r.request.write) [
            | inl w ↦ w
            | inr none ↦ absurd (not_none s h v r.request (h.mail (Invoked r) guard.0).0 ((v.says (Invoked r) guard.0).3 none) n f i own
                (here.0.0 ∙ ap (λ (a : Act). (s.action a).request) own ∙ sym guard.1) here clean_s goes_s)
          ]

          by : (b : Bool) → same f.by r.request.act ≡ b → IsWaiting t f ⊎ IsCalled t f
          by true is = let own = same_is f.by r.request.act is in inr (_, inl refl, sym own, written own)
          by false is = inl (waits_but s r.request.act (stopped (s.action r.request.act)) f here.0 is)

  -- what waits isn't refused
  refused_step : (q : Request) → Guard (TurnedDown q) s → Goes (TurnedDown q)
  refused_step q guard later = onward s (TurnedDown q) guard h v later (same_logs s (next (TurnedDown q) s) refl) stays all
    where
      t : State
      t = next (TurnedDown q) s

      stays : Stay s t
      stays n f i here clean goes = by (same f.by q.act) refl
        where
          by : (b : Bool) → same f.by q.act ≡ b → IsWaiting t f ⊎ IsCalled t f
          by true is = let own = same_is f.by q.act is in
              absurd (not_none s h v q (v.says (Refused q) guard.0).0 (v.says (Refused q) guard.0).1 n f i own
              (here.0.0 ∙ ap (λ (a : Act). (s.action a).request) own ∙ sym guard.1) here
              (back s (TurnedDown q) guard h v later f.by clean) (goes_back later (root f.by) goes))
          by false is = inl (waits_but s q.act (stopped (s.action q.act)) f here.0 is)

  -- nor is its copy gone
  lost_step : (a : Act) → Guard (Lost a) s → Goes (Lost a)
  lost_step a guard later = onward s (Lost a) guard h v later (same_logs s (next (Lost a) s) refl) stays all
    where
      t : State
      t = next (Lost a) s

      stays : Stay s t
      stays n f i here clean goes = by (same f.by a) refl
        where
          by : (b : Bool) → same f.by a ≡ b → IsWaiting t f ⊎ IsCalled t f
          by true is = absurd (up_not_past s (s.kept (root a)) (up_here s h v n (s.kept (root a))
              (subst (λ (b : Act). IsAt s n (s.kept (root b))) (same_is f.by a is) here.1)) (v.says (Changed (s.kept (root a))) guard).1)
          by false is = inl (waits_but s a (stopped (s.action a)) f here.0 is)

  -- what is given up is spoilt
  given_up_step : (a : Act) → Guard (GiveUp a) s → Goes (GiveUp a)
  given_up_step a guard later = onward s (GiveUp a) guard h v later (same_logs s (next (GiveUp a) s) refl) stays all
    where
      t : State
      t = next (GiveUp a) s

      spoilt : Action
      spoilt = record (s.action a) { waits = false; doomed = true }

      stays : Stay s t
      stays n f i here clean goes = by (same f.by a) refl
        where
          by : (b : Bool) → same f.by a ≡ b → IsWaiting t f ⊎ IsCalled t f
          by true is = differ (ap (λ (x : Action). x.doomed) (λ j. cond (is j) (record (s.action a) { waits = false; doomed = true })
              (s.action f.by))) (clean f.by (on_self f.by)).1
          by false is = inl (waits_but s a spoilt f here.0 is)

  -- who waits sends nothing more
  sent_step : (a : Act) (k : ℕ) (w : Bool) → Guard (SendInvoke a k w) s → Goes (SendInvoke a k w)
  sent_step a k w guard later = onward s (SendInvoke a k w) guard h v later (same_logs s (next (SendInvoke a k w) s) refl) stays all
    where
      t : State
      t = next (SendInvoke a k w) s

      stays : Stay s t
      stays n f i here clean goes = by (same f.by a) refl
        where
          by : (b : Bool) → same f.by a ≡ b → IsWaiting t f ⊎ IsCalled t f
          by true is = differ (subst (λ (b : Act). on a b ≡ true) (sym (same_is f.by a is)) (on_self a))
              (guard.3 f.by here.0.1 (clean_alive s f.by (back s (SendInvoke a k w) guard h v later f.by clean))).0
          by false is = inl (waits_but s a (record (s.action a) { request = k; waits = true; since = s.now }) f here.0 is)

  -- one action changes, but for what it waits for
  action_step : (e : Event) → Guard e s → (a : Act) (x : Action) → x.request ≡ (s.action a).request → x.waits ≡ (s.action a).waits →
      (next e s).server ≡ s.server → (next e s).action ≡ at_act s.action a x → Goes e
  action_step e guard a x request waits servers same_actions later = onward s e guard h v later (same_logs s (next e s) servers)
      (λ n f i here clean goes. inl (subst (λ (k : Act → Action). (f.request ≡ (k f.by).request) × ((k f.by).waits ≡ true))
      (sym same_actions) (waits_at s a x request waits f here.0))) all

  -- one server changes
  server_step : (e : Event) → Guard e s → (n : ℕ) (w : Server) → ((d : Entry) → In d w.log → WasThere (s.server n) w d) →
      (next e s).server ≡ at s.server n w → (next e s).action ≡ s.action → Goes e
  server_step e guard n w here servers same_actions later = onward s e guard h v later (λ k d i. inl (subst (λ (g : ℕ → Server).
      In d (g k).log → WasThere (s.server k) (g k) d) (sym servers) (only_at s n w here k d) i)) (still (next e s) same_actions) all

  pub called_step : (e : Event) → Guard e s → Goes e
  called_step (CrashNaming g) guard = plain (CrashNaming g) guard refl refl
  called_step (BindLive m) guard = plain (BindLive m) guard refl refl
  called_step (BindNew m b n) guard = plain (BindNew m b n) guard refl refl
  called_step (Grant m) guard = plain (Grant m) guard refl refl
  called_step (Record b) guard = plain (Record b) guard refl refl
  called_step (ConfirmTop m q) guard = plain (ConfirmTop m q) guard refl refl
  called_step (PassEntry u n) guard = plain (PassEntry u n) guard refl refl
  called_step (DropEntry a) guard = plain (DropEntry a) guard refl refl
  called_step (CrashServer n i) guard = server_step (CrashServer n i) guard n _ (λ d j. absurd j) refl refl
  called_step (ActivateCopy n b w) guard = server_step (ActivateCopy n b w) guard n _ (λ d j. absurd j) refl refl
  called_step (Apply n q g) guard = applied_step n q g guard
  called_step (Refuse n q) guard = server_step (Refuse n q) guard n _ (λ d j. (d, j, refl, refl, refl, refl)) refl refl
  called_step (Change n q) guard = plain (Change n q) guard refl refl
  called_step (PassRow n a j) guard = server_step (PassRow n a j) guard n _ (λ d i. let r = in_handed a j d (s.server n).log i in
      (r.0, r.1, r.2, r.3, refl, refl)) refl refl
  called_step (PassTop n u j) guard = server_step (PassTop n u j) guard n _
      (λ d i. (d, in_filtered _ d (s.server n).log i, refl, refl, refl, refl)) refl refl
  called_step (DropRows n a) guard = server_step (DropRows n a) guard n _
      (λ d i. (d, in_filtered _ d (s.server n).log i, refl, refl, refl, refl)) refl refl
  called_step (VoteTop n m b i) guard = server_step (VoteTop n m b i) guard n _ (λ d j. (d, j, refl, refl, refl, refl)) refl refl
  called_step (Keep m b) guard = plain (Keep m b) guard refl refl
  called_step (Name b i) guard = plain (Name b i) guard refl refl
  called_step (Load b w) guard = plain (Load b w) guard refl refl
  called_step (SendInvoke a k w) guard = sent_step a k w guard
  called_step (Answered r p) guard = answered_step r p guard
  called_step (TurnedDown q) guard = refused_step q guard
  called_step (Lost a) guard = lost_step a guard
  called_step (GiveUp a) guard = given_up_step a guard
  called_step (CommitNested a p) guard = action_step (CommitNested a p) guard a _ refl refl refl refl
  called_step (Abort a) guard = action_step (Abort a) guard a _ refl refl refl refl
  called_step (CommitTop m p) guard = action_step (CommitTop m p) guard m _ refl refl refl refl
  called_step (SendVote m i) guard = plain (SendVote m i) guard refl refl
  called_step (SendConfirm m q) guard = plain (SendConfirm m q) guard refl refl
  called_step (Decide m) guard = action_step (Decide m) guard m _ refl refl refl refl
  called_step (Report m p) guard = action_step (Report m p) guard m _ refl refl refl refl
  called_step (EndUnit u) guard = action_step (EndUnit u) guard (Root u) _ refl refl refl refl
  called_step (Included a g p) guard = plain (Included a g p) guard refl refl

-- ---- runs

run_called : {s t : State} → Run s t → Holds s → Values s → AreCalls s → AreCalls t
run_called stay h v all = all
run_called {s} (step e guard more) h v all =
    let k = step_keeps e s guard h in
    run_called more k.1 (step_values e s guard h v k.0) (called_step s h v all e guard k.0)

-- every run has it
pub are_calls : (first : ℕ) (s : State) → Run (start first) s → AreCalls s
are_calls first s run = run_called run (start_holds first) (start_values first) (λ n e i. absurd i)

-- calls stay, and what is committed
run_on : {s t : State} → Run s t → Holds s → Values s → ((c : Call) → In c s.calls → In c t.calls) × ((a b : Act) → Merged s a b →
    Merged t a b)
run_on stay h v = (λ c i. i, λ a b m. m)
run_on {s} (step e guard more) h v =
    let k = step_keeps e s guard h in
    let r = run_on more k.1 (step_values e s guard h v k.0) in
    (λ c i. r.0 c (let later = k.0 in later.calls c i), λ a b m. r.1 a b (merged_on k.0 a b m))

run_stage : {s t : State} → Run s t → Holds s → (a : Act) → (s.action a).stage ≤ (t.action a).stage
run_stage stay h a = omega arith
run_stage {s} (step e guard more) h a = let k = step_keeps e s guard h in let later = k.0 in let one = later.stage a in
    let two = run_stage more k.1 a in omega (arith, one, two)

-- ---- votes

-- A server voted for a top whose commit isn't decided by a later state. A write that the top held there is a call of it by then, with
-- all actions between them committed.
module _ (first : ℕ) (s t : State) (n : ℕ) (m : Act) (b i : ℕ) (reached : Run (start first) s) (guard : Guard (VoteTop n m b i) s)
    (run : Run (next (VoteTop n m b i) s) t) (one : (t.action m).stage ≡ 1) where
  both : Holds s × Values s
  both = run_values reached (start_holds first) (start_values first)

  abbrev h : Holds s
  h = both.0

  abbrev v : Values s
  v = both.1

  mean : Mean s (Vote m b i)
  mean = h.mail (Vote m b i) guard.0

  whole : Run s t
  whole = step (VoteTop n m b i) guard run

  here : (s.action m).stage ≡ 1
  here = let k = run_stage whole h m in let l = mean.4 in let e = one in omega (arith, k, l, e)

  goes : GoesOn s (root m)
  goes = (h.tops m mean.0).goes (let e = here in omega (arith, e)) (let e = here in omega (arith, e))

  undoomed : (u : Act) → ((s.action u).stage ≡ 1) ⊎ ((s.action u).stage ≡ 3) → (s.action u).doomed ≡ false
  undoomed u k = elim (by_cases (s.action u).doomed) [
    | inr f ↦ f
    | inl d ↦ absurd (elim (v.doomed u d).1 [
      | inl z ↦ elim k [ inl e ↦ omega (arith, z, e) | inr e ↦ omega (arith, z, e) ]
      | inr z ↦ elim k [ inl e ↦ omega (arith, z, e) | inr e ↦ omega (arith, z, e) ]
    ])
  ]

  clean_below : (a : Act) → Merged s a m → Clean s a
  clean_below a merged u p = elim (by_cases (on m u)) [
    | inr off ↦ (let e = merged u p off in (omega (arith, e), undoomed u (inr e)))
    | inl above ↦ elim (above_top m u mean.0 above) [
      | inl own ↦ subst (λ (y : Act). ((s.action y).stage ≤ 3) × ((s.action y).doomed ≡ false)) (sym own)
          ((let e = here in omega (arith, e)), undoomed m (inl here))
      | inr up ↦ root_clean u (ap is_action up)
    ]
  ]
    where
      root_clean : (u : Act) → is_action u ≡ false → ((s.action u).stage ≤ 3) × ((s.action u).doomed ≡ false)
      root_clean u f = (v.roots u f, elim (by_cases (s.action u).doomed) [ inl d ↦ differ (v.doomed u d).0 f | inr g ↦ g ])

  pub held_called : (e : Entry) → In e (s.server n).log → e.holder ≡ m →
      (c : Call) × In c t.calls × (c.write ≡ true) × (top c.act ≡ m) × Merged t c.act m
  held_called e j holder = elim (are_calls first s reached n e j clean (subst (λ (u : ℕ). GoesOn s u) (sym (on_root e.by m on_m)) goes)) [
    | inl c ↦ (
      c.0,
      (run_on whole h v).0 c.0 c.1,
      c.3,
      ap top c.2 ∙ its_top,
      (run_on whole h v).1 (let d = c.0 in d.act) m (subst (λ (a : Act). Merged s a m) (sym c.2) merged),
    )
    | inr w ↦ absurd (waits w.0)
  ]
    where
      on_m : on e.by m ≡ true
      on_m = subst (λ (y : Act). on e.by y ≡ true) holder (v.logs n e j).path

      merged : Merged s e.by m
      merged = subst (λ (y : Act). Merged s e.by y) holder (v.logs n e j).merged

      its_top : top e.by ≡ m
      its_top = top_of e.by m mean.0 on_m

      clean : Clean s e.by
      clean = clean_below e.by merged

      waits : IsWaiting s e → ⊥
      waits w =
          let zero = v.path e.by w.1 (clean_alive s e.by clean) (top e.by) (on_top e.by) (top_acts e.by (v.waits e.by w.1).0) in
          let q : (s.action (top e.by)).stage ≡ (s.action m).stage = ap (λ (y : Act). (s.action y).stage) its_top in
          let k = here in
          omega (arith, zero, q, k)
