-- As naming takes a top's Confirm: what its writes lie over is the last committed value.
use Rattle.arj_law_lock.proofs.Terms
use Terms.{arith, Bool, false, cond, max, ◌≡◌, ◌≤◌, ◌⊎◌, ℕ, true, inl, inr, refl, sym, ◌∙◌, ap, subst, Act, In, is_top, on, root, same, top}
use Terms.{Ballot, Alive, Call, Confirm, Covered, Entry, Merged, Server, State, Vote, Event, CrashNaming, BindLive, BindNew, Grant, Record}
use Terms.{ConfirmTop, PassEntry, DropEntry, CrashServer, ActivateCopy, Apply, Refuse, Change, PassRow, PassTop, DropRows, VoteTop, Keep}
use Terms.{Name, Load, SendInvoke, Answered, TurnedDown, Lost, GiveUp, CommitNested, Abort, CommitTop, SendVote, SendConfirm, Decide}
use Terms.{Report, EndUnit, Included, IsLast, given_by, Guard, Run, next, start, stay, step, MayCount}
use Rattle.arj_law_lock.proofs.logs.{Bases.bases_stay, Bases.held_clean, Bases.merged_clean, Bases.under_run, Homes.IsHome, Homes.homes_of}
use Rattle.arj_law_lock.proofs.logs.{Overs.made_there}
use Rattle.arj_law_lock.proofs.logs.LoggedSteps.{OwnLog, own_call, own_entry}
use Rattle.arj_law_lock.proofs.logs.OwnLogs.{Behind, own_run, own_start, run_behind}
use Rattle.arj_law_lock.proofs.machine
use machine.{Given.given_stands, Order.go_on, Order.run_keeps, Order.start_holds, ValueClaims.Clean, ValueClaims.Values}
use machine.{ValueLasts.clean_alive, ValueRun.start_values, VoteLasts.Votes, VoteRun.run_all_votes, VoteRun.start_votes}
use machine.Claims.{Holds, IsUp, Reached, Sure, server_of}
use machine.Paths.{on_self, same_is, top_of, top_root}
use Rattle.arj_law_lock.specs.logs.Under.{ConfirmsAreOverTheLast}

-- ---- where a vote came from

-- A vote under this binding was given in a run: it had been before, or is in it.
record IsFound (s t : State) (m : Act) (b : ℕ) : Type 0 where
  at : State
  node : ℕ
  inc : ℕ
  before : Run s at
  may : Guard (VoteTop node m b inc) at
  after : Run (next (VoteTop node m b inc) at) t

one_of : (x y b : ℕ) → max x y ≡ b → (x ≡ b) ⊎ (y ≡ b)
one_of x y b = grind arith

yes_step : (e : Event) (s : State) (m : Act) (b : ℕ) → Guard e s → (next e s).yes m ≡ b →
    (s.yes m ≡ b) ⊎ ((n : ℕ) × (i : ℕ) × (e ≡ VoteTop n m b i))
yes_step (VoteTop n a c i) s m b guard is = by (same m a) refl is
  where
    by : (w : Bool) → same m a ≡ w → cond w (max (s.yes a) c) (s.yes m) ≡ b →
        (s.yes m ≡ b) ⊎ ((j : ℕ) × (l : ℕ) × (VoteTop n a c i ≡ VoteTop j m b l))
    by false other e = inl e
    by true it e = let one : m ≡ a = same_is m a it in
        elim (one_of (s.yes a) c b e) [ inl old ↦ inl (ap s.yes one ∙ old) | inr new ↦ inr (n, i, λ j. VoteTop n (sym one j) (new j) i) ]
yes_step (CrashNaming g) s m b guard is = inl is
yes_step (BindLive a) s m b guard is = inl is
yes_step (BindNew a c n) s m b guard is = inl is
yes_step (Grant a) s m b guard is = inl is
yes_step (Record c) s m b guard is = inl is
yes_step (ConfirmTop a q) s m b guard is = inl is
yes_step (PassEntry u n) s m b guard is = inl is
yes_step (DropEntry a) s m b guard is = inl is
yes_step (CrashServer n i) s m b guard is = inl is
yes_step (ActivateCopy n c w) s m b guard is = inl is
yes_step (Apply n q g) s m b guard is = inl is
yes_step (Refuse n q) s m b guard is = inl is
yes_step (Change n q) s m b guard is = inl is
yes_step (PassRow n a j) s m b guard is = inl is
yes_step (PassTop n u j) s m b guard is = inl is
yes_step (DropRows n a) s m b guard is = inl is
yes_step (Keep a c) s m b guard is = inl is
yes_step (Name c i) s m b guard is = inl is
yes_step (Load c w) s m b guard is = inl is
yes_step (SendInvoke a k w) s m b guard is = inl is
yes_step (Answered r p) s m b guard is = inl is
yes_step (TurnedDown q) s m b guard is = inl is
yes_step (Lost a) s m b guard is = inl is
yes_step (GiveUp a) s m b guard is = inl is
yes_step (CommitNested a p) s m b guard is = inl is
yes_step (Abort a) s m b guard is = inl is
yes_step (CommitTop a p) s m b guard is = inl is
yes_step (SendVote a i) s m b guard is = inl is
yes_step (SendConfirm a q) s m b guard is = inl is
yes_step (Decide a) s m b guard is = inl is
yes_step (Report a p) s m b guard is = inl is
yes_step (EndUnit u) s m b guard is = inl is
yes_step (Included a g p) s m b guard is = inl is

found : {s t : State} (m : Act) (b : ℕ) → Run s t → t.yes m ≡ b → (s.yes m ≡ b) ⊎ IsFound s t m b
found m b stay is = inl is
found {s} {t} m b (step e guard more_steps) is = elim (found m b more_steps is) [
  | inr f ↦ inr (record { at = f.at; node = f.node; inc = f.inc; before = step e guard f.before; may = f.may; after = f.after })
  | inl at ↦ elim (yes_step e s m b guard at) [
    | inl old ↦ inl old
    | inr new ↦ inr (record {
      at = s;
      node = new.0;
      inc = new.1;
      before = stay;
      may = subst (λ (y : Event). Guard y s) new.2 guard;
      after = subst (λ (y : Event). Run (next y s) t) new.2 more_steps;
    })
  ]
]

-- ---- as naming takes a Confirm

module _ (first : ℕ) (s t : State) (k : ℕ) (m : Act) (i q : ℕ) (c : Call) (e : Entry) (reached : Run (start first) s)
    (called : 1 ≤ (s.action m).stage) (write : In e (s.server k).log) (held : e.holder ≡ m) (run : Run s t) (one : (t.action m).stage ≡ 1)
    (sent : In (Vote m (s.server k).active i) t.net) (takes : Guard (ConfirmTop m q) t)
    (there : In c t.calls) (its : top c.act ≡ m) (alive : Alive t c.act) where
  b4 : Holds s × Values s × Votes s
  b4 = run_all_votes reached (start_holds first) (start_values first) (start_votes first)

  aft : Holds t × Values t × Votes t
  aft = run_all_votes run b4.0 b4.1 b4.2

  abbrev b : ℕ
  b = (s.server k).active

  is : is_top m ≡ true
  is = let a = aft.0 in (a.mail (Vote m b i) sent).0

  three : (t.action m).stage ≤ 3
  three = omega (arith, one)

  bh : Behind m s t
  bh = run_behind m is run b4.0 b4.1 called three

  cv : Covered t m c.act
  cv = (sym (top_root c.act) ∙ ap root its, inl its)

  kept_is : b ≡ t.kept (root m)
  kept_is =
      (own_run m is (go_on reached run) (start_holds first) (start_values first) (own_start m is first)).asked c there its alive b i sent

  od : In c s.calls
  od = bh.old c there its

  kept_then : s.kept (root m) ≡ b
  kept_then = sym (bh.kept c od its alive) ∙ sym kept_is

  low : q ≤ t.kept (root m)
  low = let a = aft.0 in let z = a.mail (Confirm m q) takes.0 in z.2 c there alive cv

  bound : t.naming.first ≤ b
  bound = let a = takes.1 in let l = low in let x = kept_is in omega (arith, a, l, x)

  stage : (s.action m).stage ≡ 1
  stage = let a = bh.stage in omega (arith, a, called, one)

  home_then : IsHome s k
  home_then = homes_of first s reached k e write

  -- the log of the copy has the top's calls, in each state between
  log_at : (z : State) (n : ℕ) → Run (start first) z → Run z t → 1 ≤ (z.action m).stage → (z.binding b).server ≡ n →
      (z.server n).incarnation ≡ (z.binding b).incarnation → (z.server n).active ≡ b → OwnLog m z (z.server n).log z.calls
  log_at z n from on low_stage server inc act =
      let w = run_all_votes from (start_holds first) (start_values first) (start_votes first) in
      let g = run_behind m is on w.0 w.1 low_stage three in
      let at_home : server_of z b ≡ z.server n = ap z.server server in
      let kept_z : z.kept (root m) ≡ b = sym (g.kept c (g.old c there its) its alive) ∙ sym kept_is in
      let up : IsUp z b = subst (λ (x : Server). (x.incarnation ≡ (z.binding b).incarnation) × (x.active ≡ b)) (sym at_home) (inc, act) in
      let h = own_run m is from (start_holds first) (start_values first) (own_start m is first) in
      subst (λ (x : Server). OwnLog m z x.log z.calls) at_home (subst (λ (x : ℕ). OwnLog m z (server_of z x).log z.calls) kept_z
      (h.log c (g.old c there its) its (g.back c.act alive) (let a = g.stage in omega (arith, a, low_stage, one))
      (subst (λ (x : ℕ). IsUp z x) (sym kept_z) up) (inl (let f = g.first in let x = bound in omega (arith, f, x, kept_z)))))

  log : OwnLog m s (s.server k).log s.calls
  log = log_at s k reached run called home_then.server home_then.incarnation refl

  clean : Clean s e.by
  clean = held_clean s b4.1 m is called (let a = stage in omega (arith, a)) k e write held

  wrote : (d : Call) × In d s.calls × (d.write ≡ true) × (e.by ≡ d.act)
  wrote = own_call m is s (s.server k).base (s.server k).log s.calls log e write (subst (λ (a : Act). on a m ≡ true) (sym held) (on_self m))
      clean

  abbrev d : Call
  d = wrote.0

  who : top d.act ≡ m
  who = sym (ap top wrote.3)
      ∙ top_of e.by m is (subst (λ (a : Act). on e.by a ≡ true) held (let a = b4.1 in let z = a.logs k e write in z.path))

  d_there : In d t.calls
  d_there = bh.calls d wrote.1

  d_alive : Alive t d.act
  d_alive = bh.alive d wrote.1 who (subst (λ (a : Act). Alive s a) wrote.3 (clean_alive s e.by clean))

  yes : t.yes m ≡ t.kept (root m)
  yes = let o = aft.2 in o.mail m q takes.0 c there alive cv

  -- a vote gives what lay there then
  gives : (a : State) (n j : ℕ) → Run (start first) a → Guard (VoteTop n m b j) a → Run (next (VoteTop n m b j) a) t →
      t.vote m ≡ given_by a n m
  gives a n j from may on = let w = run_all_votes from (start_holds first) (start_values first) (start_votes first) in
      given_stands w.0 w.1 w.2 n m b j t d may on one (yes ∙ sym kept_is) (sym kept_is) bound d_there wrote.2 who d_alive

  abbrev Under : ℕ → Type 0
  Under x = (t.vote m).under ≡ x

  at_node : (a : State) (n j : ℕ) → Guard (VoteTop n m b j) a → (y : State) → Run a y → Holds a → (y.binding b).server ≡ k → n ≡ k
  at_node a n j may y on h server =
      sym may.1 ∙ sym (made_there b on h (let z = h.bindings b (h.mail (Vote m b j) may.0).1 in z.below)) ∙ server

  -- it was given before
  earlier : IsFound (start first) s m b → Under (s.server k).base
  earlier f =
      let from = f.before in
      let w = run_all_votes from (start_holds first) (start_values first) (start_votes first) in
      let to_s = step (VoteTop f.node m b f.inc) f.may f.after in
      let node : f.node ≡ k = at_node f.at f.node f.inc f.may s to_s w.0 home_then.server in
      ap (λ (y : Ballot). y.under) (gives f.at f.node f.inc from f.may (go_on f.after run))
      ∙ ap (λ (x : ℕ). (let z = f.at in z.server x).base) node
      ∙ sym (bases_stay first f.at s k m e from is (let z = w.0 in (z.mail (Vote m b f.inc) f.may.0).4) to_s (let a = stage in
      omega (arith, a)) write held)

  -- or later
  behind_it : IsFound s t m b → Under (s.server k).base
  behind_it f =
      let from = go_on reached f.before in
      let w = run_all_votes from (start_holds first) (start_values first) (start_votes first) in
      let on_t = step (VoteTop f.node m b f.inc) f.may f.after in
      let g = run_behind m is on_t w.0 w.1 (let z = w.0 in (z.mail (Vote m b f.inc) f.may.0).4) three in
      let node : f.node ≡ k = sym f.may.1 ∙ made_there b f.before b4.0 (let z = b4.0 in let y = z.bindings b home_then.named in y.below)
      ∙ home_then.server in
      let inc = up_inc f w.0 in
      let l = log_at f.at f.node from on_t (let z = w.0 in (z.mail (Vote m b f.inc) f.may.0).4) f.may.1 inc f.may.3 in
      let d_at : In d (let z = f.at in z.calls) = g.old d d_there who in
      let r = own_entry m is f.at (let z = f.at in z.server f.node).base (let z = f.at in z.server f.node).log (let z = f.at in
      z.calls) l d d_at wrote.2 who (clean_at f w.1 g d_at) in
      ap (λ (y : Ballot). y.under) (gives f.at f.node f.inc from f.may f.after)
      ∙ ap (λ (x : ℕ). (let z = f.at in z.server x).base) node
      ∙ under_run m is k (s.server k).base f.before b4.0 b4.1 called (λ y j o cl. refl) r.0 (subst (λ (x : ℕ). In r.0 (let z = f.at in
      z.server x).log) node r.1) r.2 (subst (λ (a : Act). Clean f.at a) (sym r.3) (clean_at f w.1 g d_at))
    where
      up_inc : (f : IsFound s t m b) → Holds f.at →
          (let z = f.at in z.server f.node).incarnation ≡ (let z = f.at in z.binding b).incarnation
      up_inc f h = by (subst (λ (x : Server). Reached x (let z = f.at in z.binding b).incarnation b) (ap (let z = f.at in z.server) f.may.1)
          (let z = h.bindings b (h.mail (Vote m b f.inc) f.may.0).1 in z.reached))
        where
          by : Reached (let z = f.at in z.server f.node) (let z = f.at in z.binding b).incarnation b →
              (let z = f.at in z.server f.node).incarnation ≡ (let z = f.at in z.binding b).incarnation
          by (inl l) = absurd (let x = f.may.2 in let y = (h.mail (Vote m b f.inc) f.may.0).3 in omega (arith, l, x, y))
          by (inr (x, l)) = sym x

      clean_at : (f : IsFound s t m b) → Values f.at → Behind m f.at t → In d (let z = f.at in z.calls) → Clean f.at d.act
      clean_at f v g j = merged_clean f.at v m is (
        (let z = run_keeps (go_on reached f.before) (start_holds first) in (z.mail (Vote m b f.inc) f.may.0).4),
        (let a = g.stage in omega (arith, a, one)),
      ) d.act (subst (λ (a : Act). Merged f.at d.act a) who
          (v.whole d j (g.back d.act d_alive) (subst (λ (a : Act). 1 ≤ (let z = f.at in z.action a).stage) (sym who)
          (let z = run_keeps (go_on reached f.before) (start_holds first) in (z.mail (Vote m b f.inc) f.may.0).4))))

  under : Under (s.server k).base
  under = elim (found m b run (yes ∙ sym kept_is)) [
    | inr f ↦ behind_it f
    | inl at_s ↦ elim (found m b reached at_s) [
      | inr f ↦ earlier f
      | inl zero ↦ absurd (let a = b4.0 in let z = a.bindings b home_then.named in let p = z.positive in omega (arith, p, zero))
    ]
  ]

  last : IsLast t (s.server k).base t.calls
  last = subst (λ (x : ℕ). IsLast t x t.calls) under ((let o = aft.2 in let z = o.tops m is in z.under) d
      (record {
        called = omega (arith, one);
        alive = three;
        call = d_there;
        write = wrote.2;
        stands = (who, d_alive);
        yes = yes;
        present = inl (let x = bound in let y = kept_is in omega (arith, x, y));
      }) (omega (arith, one)))

  counts : MayCount t b
  counts = inl (
    (let a = aft.0 in let z = a.calls c there in let sure : Sure t m = subst (λ (y : Act). Sure t y) its (z.sure alive) in
        (sure.here (let x = bound in let y = kept_is in omega (arith, x, y)) (let w = a.tops m is in
        w.goes (omega (arith, one)) (omega (arith, one)))).0) ∙ sym kept_is,
    bound,
  )

pub confirms_are_over_the_last : ConfirmsAreOverTheLast
confirms_are_over_the_last first s t k m i q c e reached called write held run one sent takes there its alive = (
  last first s t k m i q c e reached called write held run one sent takes there its alive,
  counts first s t k m i q c e reached called write held run one sent takes there its alive,
)
