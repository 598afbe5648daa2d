-- What lies under a top's writes in a copy's log stays what it was, from the call of its commit on.
use Rattle.arj_law_lock.proofs.Terms
use Terms.{arith, ◌≡◌, ◌≤◌, ◌<◌, ◌⊎◌, ℕ, List, [], ◌∷◌, Bool, true, false, cond, not, inl, inr, refl, sym, ◌∙◌, ap, subst, Act, Root, Sub}
use Terms.{same, on, root, top, is_top, is_action, at, In, Entry, Invoke, Merged, Request, Server, State, Event, CrashNaming, BindLive}
use Terms.{BindNew, Grant, Record, ConfirmTop, PassEntry, DropEntry, CrashServer, ActivateCopy, Apply, Refuse, Change, PassRow, PassTop}
use Terms.{DropRows, VoteTop, Keep, Name, Load, SendInvoke, Answered, TurnedDown, Lost, GiveUp, CommitNested, Abort, CommitTop, SendVote}
use Terms.{SendConfirm, Decide, Report, EndUnit, Included, held_value, Guard, Run, handed, next, stay, step}
use Rattle.arj_law_lock.proofs.logs.LoggedSteps.{Touched, handed_on, touched}
use Rattle.arj_law_lock.proofs.machine
use machine.{CallSteps.top_acts, Later.Later, Order.start_holds, Order.step_keeps, ValueLasts.clean_alive, ValueRun.start_values}
use machine.{ValueRun.step_values, VoteRun.run_all_votes, VoteRun.start_votes}
use machine.Claims.{GoesOn, Holds, server_of}
use machine.Paths.{above_top, at_cases, by_cases, differ, on_root, on_self, on_top, same_is, top_of}
use machine.ValueClaims.{Clean, Used, Values}
use machine.ValueLogs.{in_filter, in_map, not_true}
use Rattle.arj_law_lock.specs.logs.Under.{BasesStay}

-- without a write of the action's own it holds the copy's value
held_other : (a : Act) (base : ℕ) (es : List Entry) → ((e : Entry) → In e es → same e.holder a ≡ false) → held_value a base es ≡ base
held_other a base [] none = refl
held_other a base (e ∷ es) none =
    (λ i. cond (none e (inl refl) i) e.gives (held_value a base es)) ∙ held_other a base es (λ d j. none d (inr j))

module _ (m : Act) (is : is_top m ≡ true) (s : State) (h : Holds s) (v : Values s) (called : 1 ≤ (s.action m).stage) where
  -- each write of the top that isn't spoilt was there before, and what lies under it is what it was
  abbrev Stays : Server → Server → Type 0
  Stays x y = (d : Entry) → In d y.log → on d.holder m ≡ true → Clean s d.by →
      ((f : Entry) × In f x.log × (on f.holder m ≡ true) × (f.by ≡ d.by)) × (y.base ≡ x.base)

  -- a request of an action of the top that is applied now was sent by one that is spoilt
  spoilt : (n : ℕ) (q : Request) (g : ℕ) → Guard (Apply n q g) s → on q.act m ≡ true → Clean s q.act → ⊥
  spoilt n q g guard o clean = elim (v.says (Invoke q) guard.0).1 [
    | inl w ↦ (let zero = v.path q.act w.1 (clean_alive s q.act clean) (top q.act) (on_top q.act) (top_acts q.act (v.waits q.act w.1).0) in
        let e : (s.action (top q.act)).stage ≡ (s.action m).stage = ap (λ (y : Act). (s.action y).stage) own in
        omega (arith, zero, e, called))
    | inr f ↦ used (f (clean, going (stage_cases (s.action m).stage called (clean m o).0)))
  ]
    where
      own : top q.act ≡ m
      own = top_of q.act m is o

      stage_cases : (x : ℕ) → 1 ≤ x → x ≤ 3 → (x ≤ 2) ⊎ (x ≡ 3)
      stage_cases x = grind arith

      going : ((s.action m).stage ≤ 2) ⊎ ((s.action m).stage ≡ 3) → GoesOn s (root q.act) ⊎ ((s.action (top q.act)).stage ≡ 3)
      going (inl two) = inl (subst (λ (u : ℕ). GoesOn s u) (sym (on_root q.act m o)) ((h.tops m is).goes called two))
      going (inr three) = inr (ap (λ (y : Act). (s.action y).stage) own ∙ three)

      at_server : server_of s q.binding ≡ s.server n
      at_server = ap s.server guard.1.0

      used : Used s q → ⊥
      used (inl p) = past (subst (λ (w : Server). ((s.binding q.binding).incarnation < w.incarnation)
          ⊎ (((s.binding q.binding).incarnation ≡ w.incarnation) × (q.binding < w.active))) at_server p)
        where
          past : ((s.binding q.binding).incarnation < (s.server n).incarnation)
              ⊎ (((s.binding q.binding).incarnation ≡ (s.server n).incarnation) × (q.binding < (s.server n).active)) → ⊥
          past (inl l) = let a = guard.1.1 in omega (arith, l, a)
          past (inr r) = let l = r.1 in let a = guard.1.2 in omega (arith, l, a)
      used (inr l) = let k : q.number ≤ (s.server n).request q.act = subst (λ (w : Server). q.number ≤ w.request q.act) at_server l in
          let z = guard.2 in omega (arith, k, z)

  still : (n : ℕ) → Stays (s.server n) (s.server n)
  still n d i o clean = ((d, i, o, refl), refl)

  -- only this server changes
  only_at : (k : ℕ) (w : Server) → Stays (s.server k) w → (n : ℕ) → Stays (s.server n) (at s.server k w n)
  only_at k w here = at_cases (λ (n : ℕ) (x : Server). Stays (s.server n) x) s.server k w here (λ n other. still n)

  pub stays : (e : Event) → Guard e s → (n : ℕ) → Stays (s.server n) ((next e s).server n)
  stays (CrashNaming g) guard = still
  stays (BindLive a) guard = still
  stays (BindNew a b n) guard = still
  stays (Grant a) guard = still
  stays (Record b) guard = still
  stays (ConfirmTop a q) guard = still
  stays (PassEntry u n) guard = still
  stays (DropEntry a) guard = still
  stays (CrashServer n i) guard = only_at n _ (λ d j. absurd j)
  stays (ActivateCopy n b w) guard = only_at n _ (λ d j. absurd j)
  stays (Apply n q g) guard = only_at n _ (by q.write)
    where
      new : Entry
      new = record { holder = q.act; by = q.act; request = q.number; gives = g }

      by : (w : Bool) → Stays (s.server n) (record (s.server n) {
        log = cond w (record { holder = q.act; by = q.act; request = q.number; gives = g } ∷ (s.server n).log) (s.server n).log;
        rows = (let x = (next (Apply n q g) s).server n in x.rows);
        request = (let x = (next (Apply n q g) s).server n in x.request);
      })
      by true d (inl q-is) o clean =
          absurd (spoilt n q g guard (subst (λ (z : Entry). on z.holder m ≡ true) q-is o) (subst (λ (z : Entry). Clean s z.by) q-is clean))
      by true d (inr j) o clean = ((d, j, o, refl), refl)
      by false d j o clean = ((d, j, o, refl), refl)
  stays (Refuse n q) guard = only_at n _ (λ d j o clean. ((d, j, o, refl), refl))
  stays (Change n q) guard = still
  stays (PassRow n a j) guard = only_at n _ (λ d k o clean. let p = in_map (handed a j) d (s.server n).log k in (
    (p.0, p.1, (handed_on m is a j guard.0 p.0).1 (subst (λ (z : Entry). on z.holder m ≡ true) p.2 o), sym (ap (λ (z : Entry). z.by) p.2)),
    refl,
  ))
  stays (PassTop n u j) guard =
      only_at n _ (λ d k o clean. let p = in_filter (λ (e : Entry). not (on e.holder (Sub (Root u) j))) d (s.server n).log k in (
        (d, p.0, o, refl),
        held_other (Sub (Root u) j) (s.server n).base (s.server n).log (λ e i. elim (by_cases (same e.holder (Sub (Root u) j))) [
          | inr off ↦ off
          | inl own ↦ absurd (two d p.0 (not_true (on d.holder (Sub (Root u) j)) p.1) e i (same_is e.holder (Sub (Root u) j) own))
        ]),
      ))
    where
      two : (d : Entry) → In d (s.server n).log → on d.holder (Sub (Root u) j) ≡ false → (e : Entry) → In e (s.server n).log →
          e.holder ≡ Sub (Root u) j → ⊥
      two d k off e i own =
          let a = v.logs n e i in
          let b = v.logs n d k in
          let low = b.row in
          elim (h.servers n e.holder d.holder a.row (omega (arith, low))) [
            | inl above ↦ elim (above_top (Sub (Root u) j) d.holder refl (subst (λ (z : Act). on z d.holder ≡ true) own above)) [
              | inl it ↦ differ (subst (λ (z : Act). on z (Sub (Root u) j) ≡ true) (sym it) (on_self (Sub (Root u) j))) off
              | inr base ↦ differ b.holder (ap is_action base)
            ]
            | inr below ↦ differ (subst (λ (z : Act). on d.holder z ≡ true) own below) off
          ]
  stays (DropRows n a) guard =
      only_at n _ (λ d k o clean. let p = in_filter (λ (e : Entry). not (on e.holder a)) d (s.server n).log k in ((d, p.0, o, refl), refl))
  stays (VoteTop n a b i) guard = only_at n _ (λ d j o clean. ((d, j, o, refl), refl))
  stays (Keep a b) guard = still
  stays (Name b i) guard = still
  stays (Load b w) guard = still
  stays (SendInvoke a k w) guard = still
  stays (Answered r p) guard = still
  stays (TurnedDown q) guard = still
  stays (Lost a) guard = still
  stays (GiveUp a) guard = still
  stays (CommitNested a p) guard = still
  stays (Abort a) guard = still
  stays (CommitTop a p) guard = still
  stays (SendVote a i) guard = still
  stays (SendConfirm a q) guard = still
  stays (Decide a) guard = still
  stays (Report a p) guard = still
  stays (EndUnit u) guard = still
  stays (Included a g p) guard = still

-- ---- a run

-- this lies under each write of the top that isn't spoilt
abbrev pub LiesUnder : Act → ℕ → ℕ → State → Type 0
LiesUnder m n base s = (e : Entry) → In e (s.server n).log → on e.holder m ≡ true → Clean s e.by → (s.server n).base ≡ base

module _ (m : Act) (is : is_top m ≡ true) (n base : ℕ) where
  under_step : (s : State) (e : Event) → Guard e s → Holds s → Values s → Later s (next e s) → 1 ≤ (s.action m).stage →
      LiesUnder m n base s → LiesUnder m n base (next e s)
  under_step s e guard h v later called under d i o clean =
      let before : Clean s d.by = (λ u p. (
        (let l = later.stage u in let k = (clean u p).0 in omega (arith, l, k)),
        elim (by_cases (s.action u).doomed) [
          | inl doom ↦ differ (let z : Touched m s (next e s) = touched m is s h v e guard in z.doomed u doom) (clean u p).1
          | inr f ↦ f
        ],
      )) in
      let f = stays m is s h v called e guard n d i o before in
      f.1 ∙ under (f.0).0 (f.0).1 (f.0).2 (subst (λ (a : Act). Clean s a) (sym (f.0).3) before)

  pub under_run : {s t : State} → Run s t → Holds s → Values s → 1 ≤ (s.action m).stage → LiesUnder m n base s → LiesUnder m n base t
  under_run stay h v called under = under
  under_run {s} (step e guard more_steps) h v called under =
      let k = step_keeps e s guard h in
      let later = k.0 in
      let up = later.stage m in
      under_run more_steps k.1 (step_values e s guard h v later) (omega (arith, up, called)) (under_step s e guard h v later called under)

-- ---- the law

-- an action that is merged into a top whose commit was called, and that isn't aborted, isn't spoilt
pub merged_clean : (t : State) → Values t → (m : Act) → is_top m ≡ true → (1 ≤ (t.action m).stage) × ((t.action m).stage ≤ 3) → (a : Act) →
    Merged t a m → Clean t a
merged_clean t v m is stages a merged u o = by (by_cases (on m u))
  where
    undoomed : (b : Act) → 1 ≤ (t.action b).stage → (t.action b).stage ≤ 3 → (t.action b).doomed ≡ false
    undoomed b low high = elim (by_cases (t.action b).doomed)
        [ inr f ↦ f | inl d ↦ absurd (elim (v.doomed b d).1 [ inl z ↦ omega (arith, z, low) | inr z ↦ omega (arith, z, high) ]) ]

    by : (on m u ≡ true) ⊎ (on m u ≡ false) → ((t.action u).stage ≤ 3) × ((t.action u).doomed ≡ false)
    by (inl p) = elim (above_top m u is p) [
      | inl it ↦
          subst (λ (b : Act). ((t.action b).stage ≤ 3) × ((t.action b).doomed ≡ false)) (sym it) (stages.1, undoomed m stages.0 stages.1)
      | inr base ↦ (
        v.roots u (ap is_action base),
        elim (by_cases (t.action u).doomed) [ inl d ↦ differ (v.doomed u d).0 (ap is_action base) | inr g ↦ g ],
      )
    ]
    by (inr f) = let e3 = merged u o f in (omega (arith, e3), undoomed u (omega (arith, e3)) (omega (arith, e3)))

-- so it is of who wrote what the top holds
pub held_clean : (t : State) → Values t → (m : Act) → is_top m ≡ true → 1 ≤ (t.action m).stage → (t.action m).stage ≤ 3 →
    (n : ℕ) (e : Entry) → In e (t.server n).log → e.holder ≡ m → Clean t e.by
held_clean t v m is one three n e i own =
    merged_clean t v m is (one, three) e.by (subst (λ (a : Act). Merged t e.by a) own (v.logs n e i).merged)

pub bases_stay : BasesStay
bases_stay first s t n m e reached is called run three i own =
    let z = run_all_votes reached (start_holds first) (start_values first) (start_votes first) in
    let y = run_all_votes run z.0 z.1 z.2 in
    let up : 1 ≤ (t.action m).stage = risen run z.0 called in
    under_run m is n (s.server n).base run z.0 z.1 called (λ d j o clean. refl) e i
    (subst (λ (a : Act). on a m ≡ true) (sym own) (on_self m)) (held_clean t y.1 m is up three n e i own)
  where
    risen : {r q : State} → Run r q → Holds r → 1 ≤ (r.action m).stage → 1 ≤ (q.action m).stage
    risen stay h low = low
    risen {r} (step x guard more_steps) h low = let k = step_keeps x r guard h in let later = k.0 in let l = later.stage m in
        risen more_steps k.1 (omega (arith, l, low))
