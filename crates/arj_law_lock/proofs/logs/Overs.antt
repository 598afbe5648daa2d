-- What a top's writes lie over, against the votes for it.
use Rattle.arj_law_lock.proofs.Terms
use Terms.{arith, ◌≡◌, ◌≤◌, ◌<◌, ◌⊎◌, ℕ, List, [], ◌∷◌, true, inl, inr, refl, sym, ◌∙◌, ap, subst, Act, In, is_top, on, root, top, Alive}
use Terms.{Call, Entry, Server, State, Vote, Run, start, stay, step, MayCount}
use Rattle.arj_law_lock.proofs.logs.{Bases.bases_stay, Bases.held_clean, Homes.IsHome, Homes.homes_of, OwnLogs.Behind, OwnLogs.own_run}
use Rattle.arj_law_lock.proofs.logs.{OwnLogs.own_start, OwnLogs.run_behind}
use Rattle.arj_law_lock.proofs.machine
use machine.{CallSteps.top_acts, Order.go_on, Order.start_holds, Order.step_keeps, Paths.on_top, Paths.top_of, Paths.top_root}
use machine.{ValueLasts.clean_alive, ValueRun.start_values, VoteLasts.Votes, VoteRun.run_all_votes, VoteRun.start_votes}
use machine.Claims.{GoesOn, Holds, IsUp, server_of}
use machine.ValueClaims.{Clean, Fine, Logged, Matches, Values, bad, both, calm, less, more, waiting}
use Rattle.arj_law_lock.specs.logs.Under.{WritesHaveCalls, WritesLieOverVotes}

-- ---- a write in a copy

-- a binding that was made stays at its server
pub made_there : (b : ℕ) {s t : State} → Run s t → Holds s → b < s.naming.bound → (t.binding b).server ≡ (s.binding b).server
made_there b stay h made = refl
made_there b {s} (step e guard more_steps) h made =
    let k = step_keeps e s guard h in
    let later = k.0 in
    let up = later.bound in
    made_there b more_steps k.1 (omega (arith, made, up)) ∙ (later.made b made).0

-- a write that counts, in the copy of the recorded binding, is of a unit that keeps that
log_kept : (s : State) (base : ℕ) (es : List Entry) (cs : List Call) → Matches s base es cs → (e : Entry) → In e es → Fine s e.by →
    s.kept (root e.by) ≡ s.naming.recorded
log_kept s base [] cs k e i fine = absurd i
log_kept s base (d ∷ es) (c ∷ cs) (both _ _ by gives w kept n) e (inl is) fine = ap (λ (x : Entry). s.kept (root x.by)) is
    ∙ ap (λ (a : Act). s.kept (root a)) by ∙ kept (subst (λ (a : Act). Fine s a) (ap (λ (x : Entry). x.by) is ∙ by) fine)
log_kept s base (d ∷ es) (c ∷ cs) (both _ _ by gives w kept n) e (inr i) fine = log_kept s base es cs n e i fine
log_kept s base (d ∷ es) cs (more _ f n) e (inl is) fine = absurd (f (subst (λ (x : Entry). Fine s x.by) is fine))
log_kept s base (d ∷ es) cs (more _ f n) e (inr i) fine = log_kept s base es cs n e i fine
log_kept s base es (c ∷ cs) (less _ f n) e i fine = log_kept s base es cs n e i fine

logged_kept : (s : State) (base : ℕ) (es : List Entry) (cs : List Call) → Logged s base es cs → (e : Entry) → In e es → Fine s e.by →
    s.kept (root e.by) ≡ s.naming.recorded
logged_kept s base es cs (calm n k) e i fine = log_kept s base es cs k e i fine
logged_kept s base (d ∷ es) cs (bad _ f l) e (inl is) fine = absurd (f (subst (λ (x : Entry). Fine s x.by) is fine))
logged_kept s base (d ∷ es) cs (bad _ f l) e (inr i) fine = logged_kept s base es cs l e i fine
logged_kept s base (d ∷ es) cs (waiting _ f n k) e (inl is) fine =
    ap (λ (x : Entry). s.kept (root x.by)) is ∙ (f (subst (λ (x : Entry). Fine s x.by) is fine)).1
logged_kept s base (d ∷ es) cs (waiting _ f n k) e (inr i) fine = log_kept s base es cs k e i fine

-- and it has its call, unless it waits for its line
log_called : (s : State) (base : ℕ) (es : List Entry) (cs : List Call) → Matches s base es cs → (e : Entry) → In e es → Fine s e.by →
    (c : Call) × In c cs × (c.write ≡ true) × (e.by ≡ c.act)
log_called s base [] cs k e i fine = absurd i
log_called s base (d ∷ es) (c ∷ cs) (both _ _ by gives w kept n) e (inl is) fine = (c, inl refl, w, ap (λ (x : Entry). x.by) is ∙ by)
log_called s base (d ∷ es) (c ∷ cs) (both _ _ by gives w kept n) e (inr i) fine = let r = log_called s base es cs n e i fine in
    (r.0, inr r.1, r.2, r.3)
log_called s base (d ∷ es) cs (more _ f n) e (inl is) fine = absurd (f (subst (λ (x : Entry). Fine s x.by) is fine))
log_called s base (d ∷ es) cs (more _ f n) e (inr i) fine = log_called s base es cs n e i fine
log_called s base es (c ∷ cs) (less _ f n) e i fine = let r = log_called s base es cs n e i fine in (r.0, inr r.1, r.2, r.3)

logged_called : (s : State) (base : ℕ) (es : List Entry) (cs : List Call) → Logged s base es cs → (e : Entry) → In e es → Fine s e.by →
    ((s.action e.by).waits ≡ true → ⊥) → (c : Call) × In c cs × (c.write ≡ true) × (e.by ≡ c.act)
logged_called s base es cs (calm n k) e i fine still = log_called s base es cs k e i fine
logged_called s base (d ∷ es) cs (bad _ f l) e (inl is) fine still = absurd (f (subst (λ (x : Entry). Fine s x.by) is fine))
logged_called s base (d ∷ es) cs (bad _ f l) e (inr i) fine still = logged_called s base es cs l e i fine still
logged_called s base (d ∷ es) cs (waiting _ f n k) e (inl is) fine still =
    absurd (still (subst (λ (x : Entry). (s.action x.by).waits ≡ true) (sym is) (f (subst (λ (x : Entry). Fine s x.by) is fine)).0.1))
logged_called s base (d ∷ es) cs (waiting _ f n k) e (inr i) fine still = log_called s base es cs k e i fine

module _ (first : ℕ) (t : State) (k : ℕ) (m : Act) (e : Entry) (reached : Run (start first) t) (is : is_top m ≡ true)
    (called : 1 ≤ (t.action m).stage) (three : (t.action m).stage ≤ 3) (write : In e (t.server k).log) (held : e.holder ≡ m)
    (counts : MayCount t (t.server k).active) where
  now : Holds t × Values t × Votes t
  now = run_all_votes reached (start_holds first) (start_values first) (start_votes first)

  home : IsHome t k
  home = homes_of first t reached k e write

  spoils_not : Clean t e.by
  spoils_not = held_clean t now.1 m is called three k e write held

  its_top : top e.by ≡ m
  its_top = top_of e.by m is (subst (λ (a : Act). on e.by a ≡ true) held (let a = now.1 in let z = a.logs k e write in z.path))

  its_root : root e.by ≡ root m
  its_root = sym (top_root e.by) ∙ ap root its_top

  fine : Fine t e.by
  fine = (spoils_not, by (cases (t.action m).stage called three))
    where
      cases : (x : ℕ) → 1 ≤ x → x ≤ 3 → (x ≤ 2) ⊎ (x ≡ 3)
      cases x = grind arith

      by : ((t.action m).stage ≤ 2) ⊎ ((t.action m).stage ≡ 3) → GoesOn t (root e.by) ⊎ ((t.action (top e.by)).stage ≡ 3)
      by (inl two) = inl (subst (λ (u : ℕ). GoesOn t u) (sym its_root) ((let a = now.0 in let z = a.tops m is in z.goes) called two))
      by (inr full) = inr (ap (λ (y : Act). (t.action y).stage) its_top ∙ full)

  -- the copy is that of the recorded binding
  recorded : (t.naming.recorded ≡ (t.server k).active) × (t.naming.first ≤ (t.server k).active)
  recorded = by counts
    where
      by : MayCount t (t.server k).active → (t.naming.recorded ≡ (t.server k).active) × (t.naming.first ≤ (t.server k).active)
      by (inr current) = absurd ((let a = now.1 in let z = a.fresh k (let l = current.present in
          let f = (let y = now.0 in let w = y.naming in w.first_above) in omega (arith, l, f)) in z.log) current e write)
      by (inl it) = it

  at_home : server_of t (t.server k).active ≡ t.server k
  at_home = ap t.server home.server

  logged : Logged t (server_of t t.naming.recorded).base (server_of t t.naming.recorded).log t.calls
  logged =
      let up : IsUp t (t.server k).active = subst (λ (w : Server). (w.incarnation ≡ (t.binding (t.server k).active).incarnation)
      × (w.active ≡ (t.server k).active)) (sym at_home) (home.incarnation, refl) in
      (let a = now.1 in a.copy) (let r = recorded in let x = r.0 in let y = r.1 in
      omega (arith, x, y)) (subst (λ (x : ℕ). IsUp t x) (sym recorded.0) up)

  there_too : In e (server_of t t.naming.recorded).log
  there_too = subst (λ (w : Server). In e w.log) (sym at_home ∙ ap (server_of t) (sym recorded.0)) write

  active : t.kept (root m) ≡ (t.server k).active
  active = ap t.kept (sym its_root)
      ∙ logged_kept t (server_of t t.naming.recorded).base (server_of t t.naming.recorded).log t.calls logged e there_too fine ∙ recorded.0

  its_call : (c : Call) × In c t.calls × (c.write ≡ true) × (top c.act ≡ m) × Alive t c.act
  its_call =
      let r = logged_called t (server_of t t.naming.recorded).base (server_of t t.naming.recorded).log t.calls logged e there_too fine
      waits_not in
      (r.0, r.1, r.2, sym (ap top r.3) ∙ its_top, subst (λ (a : Act). Alive t a) r.3 (clean_alive t e.by spoils_not))
    where
      waits_not : (t.action e.by).waits ≡ true → ⊥
      waits_not w =
          let a = now.1 in
          let zero = a.path e.by w (clean_alive t e.by spoils_not) (top e.by) (on_top e.by)
          (top_acts e.by (let z = a.logs k e write in z.acts)) in
          let same : (t.action (top e.by)).stage ≡ (t.action m).stage = ap (λ (y : Act). (t.action y).stage) its_top in
          omega (arith, zero, same, called)

pub writes_have_calls : WritesHaveCalls
writes_have_calls first t k m e reached is called three write held counts = its_call first t k m e reached is called three write held counts

-- ---- over what it lay before

module _ (first : ℕ) (s r t : State) (k n : ℕ) (m : Act) (i : ℕ) (c : Call) (d e : Entry) (reached : Run (start first) s)
    (called : 1 ≤ (s.action m).stage) (old : In d (s.server k).log) (old_held : d.holder ≡ m) (run : Run s r) (one : (r.action m).stage ≡ 1)
    (sent : In (Vote m (s.server k).active i) r.net)
    (there : In c r.calls) (its : top c.act ≡ m) (alive : Alive r c.act) (later : Run r t) (three : (t.action m).stage ≤ 3)
    (write : In e (t.server n).log) (held : e.holder ≡ m) (counts : MayCount t (t.server n).active) where
  before : Holds s × Values s × Votes s
  before = run_all_votes reached (start_holds first) (start_values first) (start_votes first)

  then : Holds r × Values r × Votes r
  then = run_all_votes run before.0 before.1 before.2

  is : is_top m ≡ true
  is = let a = then.0 in (a.mail (Vote m (s.server k).active i) sent).0

  gone : Behind m r t
  gone = run_behind m is later then.0 then.1 (omega (arith, one)) three

  called_now : 1 ≤ (t.action m).stage
  called_now = let a = gone.stage in omega (arith, a, one)

  abbrev whole_run : Run (start first) t
  whole_run = go_on reached (go_on run later)

  asked : (s.server k).active ≡ r.kept (root m)
  asked = (own_run m is (go_on reached run) (start_holds first) (start_values first) (own_start m is first)).asked c there its alive
      (s.server k).active i sent

  same_binding : (s.server k).active ≡ (t.server n).active
  same_binding = asked ∙ sym (gone.kept c there its (gone.alive c there its alive))
      ∙ active first t n m e whole_run is called_now three write held counts

  home_then : IsHome s k
  home_then = homes_of first s reached k d old

  same_node : n ≡ k
  same_node = sym (let z = home first t n m e whole_run is called_now three write held counts in z.server)
      ∙ ap (λ (x : ℕ). (t.binding x).server) (sym same_binding) ∙ made_there (s.server k).active (go_on run later) before.0
      (let a = before.0 in let z = a.bindings (s.server k).active home_then.named in z.below) ∙ home_then.server

  same_base : (t.server n).base ≡ (s.server k).base
  same_base = bases_stay first s t n m e reached is called (go_on run later) three write held ∙ ap (λ (x : ℕ). (s.server x).base) same_node

pub writes_lie_over_votes : WritesLieOverVotes
writes_lie_over_votes first s r t k n m i c d e reached called old old_held run one sent there its alive later three write held counts = (
  same_base first s r t k n m i c d e reached called old old_held run one sent there its alive later three write held counts,
  same_binding first s r t k n m i c d e reached called old old_held run one sent there its alive later three write held counts,
)
