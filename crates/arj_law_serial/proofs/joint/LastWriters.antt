-- As naming may take a top's Confirm: who wrote the last committed value in the lock machine is the newest of those that the disk machine
-- decided and that wrote the object.
use Rattle.arj_law_parts.proofs.Words
use Words.{◌≡◌, ◌≢◌, ◌⊎◌, ◌≤◌, ◌<◌, ◌+◌, ℕ, Bool, true, false, List, [], ◌∷◌, Option, Some, None, refl, sym, ◌∙◌, ap, subst, inl, inr}
use Words.{⊎_elim, arith, unwrap_or, is_on, Value, in_to, Line, Uid, uid_number, Node, number_tells, Seen}
use Words.list
use Rattle.arj_law_serial.proofs.Terms
use Terms.{Act, acts, Marks, Top, tops, Values, Action, Core, Whole, World, Done, Packed, Plan, decided, last, last_in, never, in_decided}
use Terms.{IsLate}
use Terms.{IsPlain, effects_are_later, book, is_decided, is_top, new_book, IsIdle, AreAlike, AreRight, sane_lines, sane_new, Stands}
use Terms.{stands_lines, stands_new, is_book, its_acts, top, Guard, Run, next, stay, step, Alive, Call, State, ConfirmTop, Decide, IsLast}
use Terms.{Newest, Survives, newest, none, older, Holds, go_on, start_holds, lives, act_here, on_top, same_is, top_action, top_is}
use Terms.{roots_low, start_low, Seen as Sorted, start_values, survives_of, Votes, run_all_votes, start_votes, IsSeenIn, BeginsAs, Fixed}
use Terms.{view_of, case_of, SeesDown, SeesMemory, AreApart, TakeTurns, HasWriters, ArePlannedSo, IsPlannedSo, AreTurns, IsCalledFirst}
use Terms.{IsOrdered, IsTurn, IsWriter}
use Terms.words
use Terms.machine as lock
use Terms.state as machine
use Rattle.arj_law_disk_view.specs.deciding_lines.Said.{IsTied}
use Rattle.arj_law_lock.proofs.machine.{Paths.act_other, ValueClaims.Values as ValuesHold}
use Rattle.arj_law_serial.proofs.joint
use joint.{BasedRaise.done_there, Called.act_with, Called.writers_are_called_first, Joining.planned_later, Surviving.HasWritten}
use joint.{Surviving.call_found, Turns.IdleThere, Writing.VotedIn, Writing.planned_voted}
use joint.{DecidedTops.its, DecidedTops.machine_decided, DecidedTops.not_idle, DecidedTops.not_plain, Starting.stands_for}
use Rattle.arj_law_serial.proofs.order
use order.{Begun.begun_have_places, Taking.turns_taken, Ties.Tie, Ties.tie_of, Timely.run_initial}
use order.Order.{IsTopOf, place_in, top_for, top_item, top_plain, same_number}
use Rattle.arj_law_serial.specs.order.Turns.{AreInTurn}
use Rattle.arj_law_serial.specs.order.Tied as tied_law

abbrev pub Idle : List Line → Uid → Type 0
Idle ls u = IsIdle (book ls) u

-- ---- lists

-- two calls of one line are one
one_line : (s : State) (cs : List Call) → Sorted s cs → (c d : Call) → lock.In c cs → lock.In d cs → c.line ≡ d.line → c ≡ d
one_line s [] x c d i j e = absurd i
one_line s (x ∷ cs) (sorted, sees, tail) c d (inl i) (inl j) e = i ∙ sym j
one_line s (x ∷ cs) (sorted, sees, tail) c d (inl i) (inr j) e =
    absurd (let l = sorted d j in let k : c.line ≡ x.line = ap (λ (y : Call). y.line) i in omega (arith, l, k, e))
one_line s (x ∷ cs) (sorted, sees, tail) c d (inr i) (inl j) e =
    absurd (let l = sorted c i in let k : d.line ≡ x.line = ap (λ (y : Call). y.line) j in omega (arith, l, k, e))
one_line s (x ∷ cs) (sorted, sees, tail) c d (inr i) (inr j) e = one_line s cs tail c d i j e

-- the newest write that counts, among calls that fall
record IsNewest (Counts : lock.Act → Type 0) (v : ℕ) (cs : List Call) : Type 0 where
  call : Call
  there : lock.In call cs
  write : call.write ≡ true
  counts : Counts call.act
  gives : call.gives ≡ v
  behind : (e : Call) → lock.In e cs → e.write ≡ true → Counts e.act → e.line ≤ call.line

-- or there is none
abbrev HasNone : ℕ → (lock.Act → Type 0) → ℕ → List Call → Type 0
HasNone first Counts v cs = (first ≡ v) × ((e : Call) → lock.In e cs → e.write ≡ true → Counts e.act → ⊥)

newest_of : (s : State) (first : ℕ) (Counts : lock.Act → Type 0) (v : ℕ) (cs : List Call) → Sorted s cs → Newest first Counts v cs →
    HasNone first Counts v cs ⊎ IsNewest Counts v cs
newest_of s first Counts v [] sorted (none is) = inl (is, λ e i. absurd i)
newest_of s first Counts v (c ∷ cs) sorted (newest d write counts gives) = inr (record {
  call = c;
  there = inl refl;
  write = write;
  counts = counts;
  gives = gives;
  behind = λ e i w k. ⊎_elim (λ (is : e ≡ c). (let l = ap (λ (y : Call). y.line) is in omega (arith, l)))
      (λ (j : lock.In e cs). (let l = sorted.0 e j in omega (arith, l))) i;
})
newest_of s first Counts v (c ∷ cs) sorted (older d not_it rest) = ⊎_elim
    (λ (n : HasNone first Counts v cs). inl (
      n.0,
      λ e i w k. ⊎_elim (λ (is : e ≡ c). not_it (subst (λ (y : Call). y.write ≡ true) is w) (subst (λ (y : Call). Counts y.act) is k))
          (λ j. n.1 e j w k) i,
    ))
    (λ (n : IsNewest Counts v cs). inr (record {
      call = n.call;
      there = inr n.there;
      write = n.write;
      counts = n.counts;
      gives = n.gives;
      behind = λ e i w k. ⊎_elim (λ (is : e ≡ c).
          absurd (not_it (subst (λ (y : Call). y.write ≡ true) is w) (subst (λ (y : Call). Counts y.act) is k))) (λ j. n.behind e j w k) i;
    }))
    (newest_of s first Counts v cs sorted.2 rest)

-- The newest decided top that wrote: each other one that did was decided before it.
record IsNewestDone (lines : List Line) (first : Packed) (ds : List Done) : Type 0 where
  done : Done
  there : words.In done ds
  state : Packed
  wrote : (let p = done.plan in p.writes) ≡ Some state
  last : last_in first ds ≡ state
  others : (e : Done) → words.In e ds → (g : Packed) → (let p = e.plan in p.writes) ≡ Some g →
      (e ≡ done) ⊎ IsTurn (IdleThere Idle) lines e.top done.top

-- or nobody wrote
abbrev NobodyWrote : Packed → List Done → Type 0
NobodyWrote first ds = (last_in first ds ≡ first) × ((e : Done) → words.In e ds → (g : Packed) → (let p = e.plan in p.writes) ≡ Some g → ⊥)

newest_done : (lines : List Line) (first : Packed) (ds : List Done) → AreTurns (IdleThere Idle) lines ds →
    NobodyWrote first ds ⊎ IsNewestDone lines first ds
newest_done lines first [] turns = inl (refl, λ e i. absurd i)
newest_done lines first (d ∷ ds) turns = by (let p = d.plan in p.writes) refl (newest_done lines first ds turns.1)
  where
    by : (o : Option Packed) → (let p = d.plan in p.writes) ≡ o → NobodyWrote first ds ⊎ IsNewestDone lines first ds →
        NobodyWrote first (d ∷ ds) ⊎ IsNewestDone lines first (d ∷ ds)
    by (Some g) is rest = inr (record {
      done = d;
      there = inl refl;
      state = g;
      wrote = is;
      last = ap (λ (o : Option Packed). unwrap_or o (last_in first ds)) is;
      others = λ e i h w. ⊎_elim (λ (same : d ≡ e). inl (sym same)) (λ (j : words.In e ds). inr (turns.0 e j)) i;
    })
    by None is (inl n) = inl (
      ap (λ (o : Option Packed). unwrap_or o (last_in first ds)) is ∙ n.0,
      λ e i g w. ⊎_elim (λ (same : d ≡ e). let both : ◌≡◌ {A = Option Packed} None (Some g) = sym is
          ∙ ap (λ (z : Done). let p = z.plan in p.writes) same ∙ w in cc both) (λ (j : words.In e ds). n.1 e j g w) i,
    )
    by None is (inr n) = inr (record {
      done = n.done;
      there = inr n.there;
      state = n.state;
      wrote = n.wrote;
      last = ap (λ (o : Option Packed). unwrap_or o (last_in first ds)) is ∙ n.last;
      others = λ e i h w. ⊎_elim
          (λ (same : d ≡ e). absurd (let both : ◌≡◌ {A = Option Packed} None (Some h) = sym is
          ∙ ap (λ (z : Done). let p = z.plan in p.writes) same ∙ w in cc both))
          (λ (j : words.In e ds). n.others e j h w)
          i;
    })

-- ---- a state of the pair

-- What is seen of both machines of an object, of whose decided tops each stands at a node that is there.
module _ (f : Fixed) (x : ℕ) (begun : List Action) (S : State) (M : Seen) (seen : IsSeenIn (case_of f x begun S) M) (values : Values)
    (marks : Marks) (begins : BeginsAs values marks x f) (apart : AreApart f.code) (W : World) (whole : Whole W)
    (writers : HasWriters W.disk)
    (first : (let D = W.disk in let g = D.first in g.writer) ≡ uid_number (let m = marks.states x in m.writer)) (named : (t : ℕ) →
    W.disk.begun t ≡ true → (w : Uid)
    × (uid_number w ≡ t)) (nodes : (a : Act) → list.In a (acts M.lines) → (n : Node) × (M.nodes (let u = a.uid in u.node) ≡ Some n))
    (tied : IsTied Idle W M) (ordered : IsOrdered (IdleThere Idle) W M) (planned : ArePlannedSo f x S W M) where
  abbrev lines : List Line
  lines = M.lines

  abbrev core : Core W.disk
  core = whole.core

  right : AreRight new_book lines
  right = let w = seen.written in w.right

  abbrev tie : tied_law.IsTied values lines x S
  tie = record {
    act = f.act;
    code = f.code;
    apart = apart;
    places = begun_have_places begun f.paths f.act lines right (subst (AreAlike begun) (its_acts lines right) seen.alike)
        (let a = seen.agrees in a.whole);
    first = f.first;
    run = (let s = seen.sees in s.run);
    tied = seen.tied values (stands_for values marks x f begins);
  }

  abbrev line_tie : Tie values lines x S
  line_tie = tie_of values lines x S tie

  one : (u v : Uid) → f.act u ≡ f.act v → u ≡ v
  one = let a = seen.agrees in let w = a.whole in let l = w.alike in l.one

  there_all : Holds S × ValuesHold S × Votes S
  there_all = run_all_votes (let s = seen.sees in s.run) (start_holds f.first) (start_values f.first) (start_votes f.first)

  sorted : Sorted S S.calls
  sorted = let v = there_all.1 in v.seen

  turns : TakeTurns S
  turns = turns_taken f.first S (let s = seen.sees in s.run)

  alive_of : (a : lock.Act) → Survives S a → Alive S a
  alive_of a survives = lives S (let s = seen.sees in roots_low s.run (start_low f.first)) a survives

  -- ---- a decided top

  module _ (d : Done) (i : words.In d W.disk.tops) where
    decided_there : decided W.disk d.top ≡ true
    decided_there = in_decided W.disk.tops d i

    has_begun : W.disk.begun d.top ≡ true
    has_begun = ⊎_elim (λ (h : W.disk.conf d.top ≡ true). core.fresh.conf d.top h)
        (λ (h : W.disk.light d.top ≡ true). core.fresh.light d.top h) (core.coordinators.decided_taken d.top decided_there)

    name : (w : Uid) × (uid_number w ≡ d.top)
    name = named d.top has_begun

    called : is_on (let B = book lines in B.called) name.0 ≡ true
    called = ordered.called d i name.0 name.1

    found : (a : Act) × list.In a (acts lines) × (a.uid ≡ name.0)
    found =
        let sane = sane_lines new_book lines right sane_new in
        let r = act_with (let B = book lines in B.acts) name.0 (sane.called name.0 called) in
        (r.0, subst (list.In r.0) (its_acts lines right) r.1, r.2)

    abbrev a : Act
    a = found.0

    a_there : list.In a (acts lines)
    a_there = found.1

    number : uid_number a.uid ≡ d.top
    number = ap uid_number found.2 ∙ name.1

    kind : is_top a.kind ≡ true
    kind =
        let s : Stands (book lines) = stands_lines new_book lines right stands_new in
        let c = s.closes in
        c.calls a (subst (list.In a) (sym (its_acts lines right)) a_there) (ap (is_on (let B = book lines in B.called)) found.2 ∙ called)

    node : (n : Node) × (M.nodes (let u = a.uid in u.node) ≡ Some n)
    node = nodes a a_there

    done_it : decided W.disk (uid_number a.uid) ≡ true
    done_it = ap (decided W.disk) number ∙ decided_there

    its_plan : IsPlannedSo f x S W a.uid
    its_plan = planned.decisions a.uid done_it

    plan_is : (let p = d.plan in p.writes) ≡ (let p = W.disk.plan (uid_number a.uid) in p.writes)
    plan_is = ap (λ (p : Plan). p.writes) (core.journal.plan d i ∙ ap W.disk.plan (sym number))

    -- the lock machine has decided it, and it has its line, or is late with it
    stage : ((let m = S.action (f.act a.uid) in m.stage) ≡ 2) ⊎ ((let m = S.action (f.act a.uid) in m.stage) ≡ 3)
    stage = ⊎_elim (λ is. inr (committed is)) (λ (l : IsLate a.uid node.0). late l) (tied.0 a.uid node.0 node.1 done_it)
      where
        committed : is_decided (book lines) a.uid ≡ true → (let m = S.action (f.act a.uid) in m.stage) ≡ 3
        committed is = (let s = line_tie.actions a (in_to a (acts lines) a_there) (top_plain a.kind kind) in
            s.done) ((let b = is_book lines right in b.decided a (in_to a (acts lines) a_there)) ∙ is)

        late : IsLate a.uid node.0 → ((let m = S.action (f.act a.uid) in m.stage) ≡ 2) ⊎ ((let m = S.action (f.act a.uid) in m.stage) ≡ 3)
        late l = ⊎_elim (λ last. inl (let s = m.stopped in (s.top a.uid last).3)) (λ ended. inr ended.committed)
            (m.records a.uid l.intent l.there)
          where
            m : SeesDown (view_of f x begun (let u = a.uid in u.node)) S (let n = node.0 in n.disk)
            m = subst (SeesMemory (view_of f x begun (let u = a.uid in u.node)) S (let n = node.0 in n.disk)) l.down (let s = seen.sees in
                s.nodes (let u = a.uid in u.node) node.0 node.1)

    two : 2 ≤ (let m = S.action (f.act a.uid) in m.stage)
    two = ⊎_elim (λ e. omega (arith, e)) (λ e. omega (arith, e)) stage

    three : (let m = S.action (f.act a.uid) in m.stage) ≤ 3
    three = ⊎_elim (λ e. omega (arith, e)) (λ e. omega (arith, e)) stage

    voted : (g : Packed) → (let p = d.plan in p.writes) ≡ Some g → VotedIn f S a.uid (Some g)
    voted g is = subst (VotedIn f S a.uid) (sym plan_is ∙ is) (planned_voted f x S W a.uid one its_plan two three)

  -- ---- the top whose Confirm is taken

  module _ (u : Uid) (q : ℕ) (takes : Guard (ConfirmTop (f.act u) q) S) (at_commit : (let a = S.action (f.act u) in a.stage) ≡ 1)
      (open_yet : decided W.disk (uid_number u) ≡ false) (own : IsPlannedSo f x S W u) (w : Packed)
      (wrote : (let p = W.disk.plan (uid_number u) in p.writes) ≡ Some w) where
    abbrev m : lock.Act
    m = f.act u

    abbrev C : State
    C = next (ConfirmTop m q) S

    -- as it would be decided
    abbrev T : State
    T = next (Decide m) C

    may_decide : Guard (Decide m) C
    may_decide =
        let h = there_all.0 in
        let means = h.mail (machine.Confirm m q) takes.0 in
        let v = there_all.2 in (
          means.0,
          at_commit,
          (λ c i alive covered. (v.mail m q takes.0 c i alive covered, act_here S.confirmed m true)),
          (λ c i alive covered. act_here S.confirmed m true),
        )

    run : Run S T
    run = step (ConfirmTop m q) takes (step (Decide m) may_decide stay)

    turns_then : TakeTurns T
    turns_then = turns_taken f.first T (go_on (let s = seen.sees in s.run) run)

    stage_then : (let a = T.action m in a.stage) ≡ 2
    stage_then = ap (λ (a : machine.Action). a.stage) (act_here C.action m (record (C.action m) { stage = 2 }))

    others_then : (b : lock.Act) → lock.same b m ≡ false → (let a = T.action b in a.stage) ≡ (let a = S.action b in a.stage)
    others_then b off = ap (λ (a : machine.Action). a.stage) (act_other C.action m (record (C.action m) { stage = 2 }) b off)

    own_then : IsPlannedSo f x T W u
    own_then = planned_later f x S T W W run (effects_are_later W [] tt whole) u own

    voted_then : VotedIn f T u (Some w)
    voted_then = subst (VotedIn f T u) wrote (planned_voted f x T W u one own_then (omega (arith, stage_then)) (omega (arith, stage_then)))

    -- what wasn't undone isn't so then
    alive_then : (a : lock.Act) → Alive S a → Alive T a
    alive_then a alive v o = by (lock.same v m) refl
      where
        by : (b : Bool) → lock.same v m ≡ b → (let k = T.action v in k.stage) ≤ 3
        by true is = let e = ap (λ (y : lock.Act). (let k = T.action y in k.stage)) (same_is v m is) ∙ stage_then in omega (arith, e)
        by false off = let e = others_then v off in let l = alive v o in omega (arith, e, l)

    -- another top that was decided and wrote
    module _ (d : Done) (i : words.In d W.disk.tops) (g : Packed) (its_state : (let p = d.plan in p.writes) ≡ Some g) where
      abbrev b : lock.Act
      b = f.act (let k = found d i in let z = k.0 in z.uid)

      abbrev c : Call
      c = (voted d i g its_state).5

      c_there : lock.In c S.calls
      c_there = (voted d i g its_state).6

      c_write : c.write ≡ true
      c_write = (voted d i g its_state).7

      c_top : top c.act ≡ b
      c_top = (voted d i g its_state).8

      c_alive : Alive S c.act
      c_alive = (voted d i g its_state).9

      other_uid : (let k = found d i in let z = k.0 in z.uid) ≡ u → ⊥
      other_uid e = never (done_it d i) (ap (λ (v : Uid). decided W.disk (uid_number v)) e ∙ open_yet)

      off : lock.same b m ≡ false
      off = by (lock.same b m) refl
        where
          by : (z : Bool) → lock.same b m ≡ z → z ≡ false
          by true is = absurd (other_uid (one (let k = found d i in let z = k.0 in z.uid) u (same_is b m is)))
          by false is = refl

      other_top : top c.act ≢ top (voted_then.5).act
      other_top e = other_uid (one (let k = found d i in let z = k.0 in z.uid) u (sym c_top ∙ e ∙ voted_then.8))

      decided_c : (2 ≤ (let a = T.action (top c.act) in a.stage)) × ((let a = T.action (top c.act) in a.stage) ≤ 3)
      decided_c = let e = ap (λ (y : lock.Act). (let k = T.action y in k.stage)) c_top ∙ others_then b off in let l = two d i in
          let h = three d i in (omega (arith, e, l), omega (arith, e, h))

      decided_own :
          (2 ≤ (let a = T.action (top (voted_then.5).act) in a.stage)) × ((let a = T.action (top (voted_then.5).act) in a.stage) ≤ 3)
      decided_own = let e = ap (λ (y : lock.Act). (let k = T.action y in k.stage)) voted_then.8 ∙ stage_then in
          (omega (arith, e), omega (arith, e))

      -- it has its line
      its_line : (let a = S.action b in a.stage) ≡ 3
      its_line = by (cases c.line (voted_then.5).line)
        where
          cases : (j k : ℕ) → (j < k) ⊎ (k < j) ⊎ (j ≡ k)
          cases j k = grind arith

          by : (c.line < (voted_then.5).line) ⊎ ((voted_then.5).line < c.line) ⊎ (c.line ≡ (voted_then.5).line) →
              (let a = S.action b in a.stage) ≡ 3
          by (inl less) =
              let r : AreInTurn T c voted_then.5 = turns_then c voted_then.5 c_there voted_then.6 less c_write (alive_then c.act c_alive)
              voted_then.9 decided_c decided_own other_top in
              sym (others_then b off) ∙ ap (λ (y : lock.Act). (let k = T.action y in k.stage)) (sym c_top) ∙ r.committed
          by (inr (inl more)) =
              let r : AreInTurn T voted_then.5 c = turns_then voted_then.5 c voted_then.6 c_there more voted_then.7 voted_then.9
              (alive_then c.act c_alive) decided_own decided_c (λ e. other_top (sym e)) in
              let e = ap (λ (y : lock.Act). (let k = T.action y in k.stage)) voted_then.8 ∙ stage_then in
              let k = r.committed in
              absurd (omega (arith, e, k))
          by (inr (inr same)) =
              absurd (other_top (ap (λ (k : Call). top k.act) (one_line S S.calls sorted c voted_then.5 c_there voted_then.6 same)))

      c_survives : Survives S c.act
      c_survives =
          survives_of S there_all.0 there_all.1 c c_there c_alive (ap (λ (y : lock.Act). (let k = S.action y in k.stage)) c_top ∙ its_line)

      written : HasWritten lines x (let k = found d i in let z = k.0 in z.uid)
      written = its f x begun S M seen values (stands_for values marks x f begins) W tied.1 planned (let k = found d i in let z = k.0 in
          z.uid) its_line c c_there c_write c_top c_survives

    -- a top that wrote the object and is committed, in the journal
    writer : (v : Uid) (h : HasWritten lines x v) →
        (t : Top) × IsWriter lines x t (let k = h in k.act) × IsTopOf lines t × list.In t (tops lines)
    writer v h =
        let t = top_for lines right h.act h.there h.kind h.done in
        let k = h.wrote in (
          t.0,
          record {
            listed = in_to t.0 (tops lines) t.1;
            wrote = (k.0, k.1, k.2, k.3 ∙ sym t.2);
            there = in_to h.act (acts lines) h.there;
            number = sym t.2;
          },
          top_item lines right t.0 t.1,
          t.1,
        )

    -- where its commit was called
    placed : (v : Uid) (h : HasWritten lines x v) → (let a = S.action (f.act v) in a.place) ≡ (let t = (writer v h).0 in t.at) + 1
    placed v h =
        let r = writer v h in
        let i = r.2 in
        let same : i.act ≡ h.act = same_number lines right i.act h.act i.there h.there (i.number ∙ (let k = r.1 in sym k.number)) in
        ap (λ (z : Uid). (let a = S.action (f.act z) in a.place)) (sym (ap (λ (z : Act). z.uid) same ∙ h.uid))
        ∙ place_in values lines right x S line_tie r.0 i

    module _ (v : Value) (z : Uid) (last_one : IsLast S (f.code v (f.act z)) S.calls) where
      -- who wrote a decided state
      its_writer : (n : IsNewestDone lines W.disk.first W.disk.tops) → (let g = n.state in g.writer) ≡ (let d = n.done in d.top)
      its_writer n = (writers (let d = n.done in
          d.top) n.state (has_begun n.done n.there) (ap (λ (p : Plan). p.writes) (sym (core.journal.plan n.done n.there)) ∙ n.wrote)).0

      -- nobody has
      by_none : HasNone S.initial (Survives S) (f.code v (f.act z)) S.calls → NobodyWrote W.disk.first W.disk.tops
          ⊎ IsNewestDone lines W.disk.first W.disk.tops → uid_number z ≡ (let g = last W.disk in g.writer)
      by_none (is, nobody_there) (inr n) = absurd (nobody_there (c n.done n.there n.state n.wrote) (c_there n.done n.there n.state n.wrote)
          (c_write n.done n.there n.state n.wrote) (c_survives n.done n.there n.state n.wrote))
      by_none (is, nobody_there) (inl e) =
          let w : Uid = (let m = marks.states x in m.writer) in
          let start_is : S.initial ≡ f.code (values x) (f.act w) = run_initial (let s = seen.sees in s.run) ∙ begins in
          let same = apart (values x) v (f.act w) (f.act z) (sym start_is ∙ is) in
          ap uid_number (sym (one w z same.1)) ∙ sym first ∙ ap (λ (g : Packed). g.writer) (sym e.0)

      module _ (k : IsNewest (Survives S) (f.code v (f.act z)) S.calls) where
        top_is_z : top (let y = k.call in y.act) ≡ f.act z
        top_is_z =
            let p = call_found f.act f.code _ S.calls (let t = tie in let l = t.tied in l.calls) k.call k.there in
            let y = p.2 in
            (apart _ v (top (let o = k.call in o.act)) (f.act z) (sym y.gives ∙ k.gives)).1

        stage_z : (let a = S.action (f.act z) in a.stage) ≡ 3
        stage_z =
            let o = k.call in
            ap (λ (y : lock.Act). (let a = S.action y in a.stage)) (sym top_is_z) ∙ k.counts (top o.act) (on_top o.act)
            (top_action (top o.act) (top_is o.act (let h = there_all.0 in let e = h.calls o k.there in e.acts)))

        decided_z : decided W.disk (uid_number z) ≡ true
        decided_z = machine_decided f x begun S M seen values (stands_for values marks x f begins) W tied.1 planned z stage_z k.call
            k.there k.write top_is_z k.counts

        written_z : HasWritten lines x z
        written_z = its f x begun S M seen values (stands_for values marks x f begins) W tied.1 planned z stage_z k.call k.there k.write
            top_is_z k.counts

        done_z : (d : Done) × words.In d W.disk.tops × (d.top ≡ uid_number z)
        done_z = done_there W.disk.tops (uid_number z) decided_z

        uid_z : (let o = found done_z.0 done_z.1 in let y = o.0 in y.uid) ≡ z
        uid_z = number_tells (let o = found done_z.0 done_z.1 in let y = o.0 in y.uid) z (number done_z.0 done_z.1 ∙ done_z.2)

        state_z : (g : Packed) × ((let d = done_z.0 in let p = d.plan in p.writes) ≡ Some g)
        state_z = by (let d = done_z.0 in let p = d.plan in p.writes) refl
          where
            by : (o : Option Packed) → (let d = done_z.0 in let p = d.plan in p.writes) ≡ o →
                (g : Packed) × ((let d = done_z.0 in let p = d.plan in p.writes) ≡ Some g)
            by (Some g) is = (g, is)
            by None is =
                let nothing : VotedIn f S (let o = found done_z.0 done_z.1 in let y = o.0 in
                y.uid) None = subst (VotedIn f S (let o = found done_z.0 done_z.1 in let y = o.0 in y.uid))
                (sym (plan_is done_z.0 done_z.1) ∙ is) (planned_voted f x S W (let o = found done_z.0 done_z.1 in let y = o.0 in
                y.uid) one (its_plan done_z.0 done_z.1) (two done_z.0 done_z.1) (three done_z.0 done_z.1)) in
                absurd (nothing k.call k.there k.write (top_is_z ∙ ap f.act (sym uid_z)) (alive_of (let o = k.call in o.act) k.counts))

        -- the newest decided top that wrote is this one
        module _ (n : IsNewestDone lines W.disk.first W.disk.tops) where
          abbrev e : Uid
          e = (let o = found n.done n.there in let y = o.0 in y.uid)

          abbrev r : HasWritten lines x e
          r = written n.done n.there n.state n.wrote

          abbrev o : Call
          o = c n.done n.there n.state n.wrote

          same_top : uid_number z ≡ (let d = n.done in d.top) → uid_number z ≡ (let g = last W.disk in g.writer)
          same_top is = is ∙ sym (its_writer n) ∙ ap (λ (g : Packed). g.writer) (sym n.last)

          turned : (uid_number z ≢ (let d = n.done in d.top)) → IsCalledFirst lines z e ⊎ IdleThere Idle lines e ⊎ IsPlain lines e → ⊥
          turned off (inr (inl (said, idle))) = not_idle f x begun S M seen values (stands_for values marks x f begins) W tied.1 planned e
              (its_line n.done n.there n.state n.wrote) o (c_there n.done n.there n.state n.wrote) (c_write n.done n.there n.state n.wrote)
              (c_top n.done n.there n.state n.wrote) (c_survives n.done n.there n.state n.wrote) idle
          turned off (inr (inr plain)) = not_plain f x begun S M seen values (stands_for values marks x f begins) W tied.1 planned e
              (its_line n.done n.there n.state n.wrote) o (c_there n.done n.there n.state n.wrote) (c_write n.done n.there n.state n.wrote)
              (c_top n.done n.there n.state n.wrote) (c_survives n.done n.there n.state n.wrote) plain
          turned off (inl called_first) = absurd (omega (arith, called_so, earlier, place_e, place_z))
            where
              apart_uids : e ≡ z → ⊥
              apart_uids is = off (ap uid_number (sym is) ∙ number n.done n.there)

              writer_e : (t : Top) × IsWriter lines x t r.act × IsTopOf lines t × list.In t (tops lines)
              writer_e = writer e r

              writer_z : (t : Top) × IsWriter lines x t (let h = written_z in h.act) × IsTopOf lines t × list.In t (tops lines)
              writer_z = writer z written_z

              apart_ids : (let t = writer_z.0 in t.id) ≢ (let t = writer_e.0 in t.id)
              apart_ids is =
                  let h = written_z in
                  let act_is = same_number lines right h.act r.act h.there r.there
                  ((let k = writer_z.1 in k.number) ∙ is ∙ sym (let k = writer_e.1 in k.number)) in
                  apart_uids (sym r.uid ∙ sym (ap (λ (y : Act). y.uid) act_is) ∙ h.uid)

              called_so : (let t = writer_z.0 in t.at) < (let t = writer_e.0 in t.at)
              called_so =
                  let h = written_z in
                  writers_are_called_first values lines x S right tie writer_z.0 writer_e.0 h.act r.act writer_z.1 writer_e.1 apart_ids
                  (subst (λ y. IsCalledFirst lines y (let k = r in let a = k.act in a.uid)) (sym h.uid)
                  (subst (IsCalledFirst lines z) (sym r.uid) called_first))

              place_e : (let a = S.action (f.act e) in a.place) ≡ (let t = writer_e.0 in t.at) + 1
              place_e = placed e r

              place_z : (let a = S.action (f.act z) in a.place) ≡ (let t = writer_z.0 in t.at) + 1
              place_z = placed z written_z

              o_top : top o.act ≡ f.act e
              o_top = c_top n.done n.there n.state n.wrote

              other : top o.act ≢ top (let y = k.call in y.act)
              other is = apart_uids (one e z (sym o_top ∙ is ∙ top_is_z))

              earlier_line : o.line < (let y = k.call in y.line)
              earlier_line = by (cases o.line (let y = k.call in y.line) (k.behind o (c_there n.done n.there n.state n.wrote)
                  (c_write n.done n.there n.state n.wrote) (c_survives n.done n.there n.state n.wrote)))
                where
                  cases : (j l : ℕ) → j ≤ l → (j < l) ⊎ (j ≡ l)
                  cases j l le = grind (arith, le)

                  by : (o.line < (let y = k.call in y.line)) ⊎ (o.line ≡ (let y = k.call in y.line)) → o.line < (let y = k.call in y.line)
                  by (inl less) = less
                  by (inr same) = absurd (other (ap (λ (y : Call). top y.act)
                      (one_line S S.calls sorted o k.call (c_there n.done n.there n.state n.wrote) k.there same)))

              in_turn : AreInTurn S o k.call
              in_turn =
                  let a = ap (λ (y : lock.Act). (let b = S.action y in b.stage)) o_top ∙ its_line n.done n.there n.state n.wrote in
                  let b = ap (λ (y : lock.Act). (let b = S.action y in b.stage)) top_is_z ∙ stage_z in
                  turns o k.call (c_there n.done n.there n.state n.wrote) k.there earlier_line (c_write n.done n.there n.state n.wrote)
                  (c_alive n.done n.there n.state n.wrote) (alive_of (let y = k.call in y.act) k.counts)
                  (omega (arith, a), omega (arith, a)) (omega (arith, b), omega (arith, b)) other

              earlier : (let a = S.action (f.act e) in a.place) < (let a = S.action (f.act z) in a.place)
              earlier =
                  let l = in_turn.called in
                  let a = ap (λ (y : lock.Act). (let b = S.action y in b.place)) o_top in
                  let b = ap (λ (y : lock.Act). (let b = S.action y in b.place)) top_is_z in
                  omega (arith, l, a, b)

          is_newest : uid_number z ≡ (let g = last W.disk in g.writer)
          is_newest = by (n.others done_z.0 done_z.1 state_z.0 state_z.1) (cases (uid_number z) (let d = n.done in d.top))
            where
              cases : (j l : ℕ) → (j ≡ l) ⊎ (j ≢ l)
              cases j l = grind arith

              by : (done_z.0 ≡ n.done) ⊎ IsTurn (IdleThere Idle) lines (let d = done_z.0 in d.top) (let d = n.done in d.top) →
                  (uid_number z ≡ (let d = n.done in d.top)) ⊎ (uid_number z ≢ (let d = n.done in d.top)) →
                  uid_number z ≡ (let g = last W.disk in g.writer)
              by (inl is) any = same_top (sym done_z.2 ∙ ap (λ (d : Done). d.top) is)
              by (inr turn) (inl is) = same_top is
              by (inr turn) (inr off) =
                  absurd (turned off (turn z e (sym done_z.2) (number n.done n.there) (λ is. off (sym done_z.2 ∙ is))))

      by_calls : HasNone S.initial (Survives S) (f.code v (f.act z)) S.calls ⊎ IsNewest (Survives S) (f.code v (f.act z)) S.calls →
          NobodyWrote W.disk.first W.disk.tops ⊎ IsNewestDone lines W.disk.first W.disk.tops →
          uid_number z ≡ (let g = last W.disk in g.writer)
      by_calls (inl nobody_there) ds = by_none nobody_there ds
      by_calls (inr k) (inr n) = is_newest k n
      by_calls (inr k) (inl nobody_wrote) = absurd (nobody_wrote.1 (done_z k).0 (done_z k).1 (state_z k).0 (state_z k).1)

      pub wrote_last : uid_number z ≡ (let g = last W.disk in g.writer)
      wrote_last = by_calls (newest_of S S.initial (Survives S) (f.code v (f.act z)) S.calls sorted last_one)
          (newest_done lines W.disk.first W.disk.tops ordered.turns)
