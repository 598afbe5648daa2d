-- Where both machines of an object stand in one state: the last state of the disk machine is what the newest surviving write left, by the
-- lock machine.
use Rattle.arj_law_parts.proofs.Words
use Words.{◌≡◌, ◌≢◌, ◌<◌, ◌==◌, ℕ, List, [], ◌∷◌, true, inl, inr, Option, Some, None, is_some, refl, sym, ◌∙◌, ap, subst, ⊎_elim, arith}
use Words.{eqb-true, and_parts, writes, in_to, number_tells, Header, ObjectState, Uid}
use Words.{uid_number, Node, Seen, ValueInForm, Wrote}
use Words.list
use Rattle.arj_law_serial.proofs.Terms
use Terms.{HeaderFits, writes_conflict, Act, acts, committed_calls, tops, first_values, top_place, writes_on, Action, Done}
use Terms.{Packed, decided_in, last, never, in_decided, packed, book, is_decided, is_top, new_book, IsDone, AreRight, one_act, stands_lines}
use Terms.{stands_new, act_there, its_acts, its_sound, top, Alive, Call, State, IsLast, Newest, Survives, newest, older, lives, on_top}
use Terms.{top_action, top_is, votes_are_right, AreOne, state_code, Fixed, IsTied, IsPlannedSo, IsCalledFirst}
use Terms.disk
use Terms.words
use Terms.machine
use Rattle.arj_law_lock.specs.machine.Actions.{In}
use Rattle.arj_law_runs.specs.journal.Laws.{AreApart}
use Rattle.arj_law_serial.proofs.joint
use joint.{Called.writers_are_called_first, Called.wrote_something, DecidedTops.machine_decided, Fits.said_fit, Given.AreBeside}
use joint.{GivenFirst.first_in_form, Writing.VotedIn, Writing.planned_voted}
use joint.GivenForms.{left_in_form}
use joint.GivenMachine.{newest_is_last, none_last, theirs_survive}
use joint.GivenTops.{committed_there, core, disk_of, holds, low, node_of, places, right, said_of, said_there, tied, values, votes}
use joint.GivenWriters.{IsNewest, WroteNone, decided_at}
use joint.Surviving.{HasSaid, IsTopThere, has_said, top_there}
use Rattle.arj_law_serial.proofs.order
use order.{Contents.value_told, Ties.Tie, Ties.tie_of}
use order.Order.{IsShown, before_top, called_first, listed, off_one, place_of_top, same_number, shown, top_for, top_plain}
use Rattle.arj_model.specs.Calls as model
use Rattle.arj_base.specs.declared.state.Format.TheVariants.{Two}
use Rattle.arj_law_serial.proofs.joint.Starting.{stands_for}

-- the newest call that counts left the value
left_by : (first : ℕ) (Counts : machine.Act → Type 0) (v : ℕ) (cs : List Call) → Newest first Counts v cs → (c : Call) → In c cs →
    c.write ≡ true → Counts c.act → (d : Call) × In d cs × Counts d.act × (d.gives ≡ v)
left_by first Counts v [] n c i write counts = absurd i
left_by first Counts v (d ∷ cs) (newest _ w own gives) c i write counts = (d, inl refl, own, gives)
left_by first Counts v (d ∷ cs) (older _ never n) c (inl same) write counts =
    absurd (never (subst (λ (y : Call). y.write ≡ true) same write) (subst (λ (y : Call). Counts y.act) same counts))
left_by first Counts v (d ∷ cs) (older _ never n) c (inr j) write counts = let r = left_by first Counts v cs n c j write counts in
    (r.0, inr r.1, r.2, r.3)

-- ---- two tops of the journal, of which one wrote behind the other's decision

module _ (hd : Header) (f : Fixed) (x : ℕ) (begun : List Action) (S : State) (M : Seen) (b : AreBeside hd f x begun S M) where
  abbrev D : disk.State
  D = disk_of hd f x begun S M b

  its_right : AreRight new_book M.lines
  its_right = right hd f x begun S M b

  -- the journal is tied to the state
  its_tied : IsTied (first_values hd) M.lines x S
  its_tied = record {
    act = f.act;
    code = f.code;
    apart = b.apart;
    places = places hd f x begun S M b;
    first = f.first;
    run = (let s = b.seen in let l = s.sees in l.run);
    tied = tied hd f x begun S M b;
  }

  tie : Tie (first_values hd) M.lines x S
  tie = tie_of (first_values hd) M.lines x S its_tied

  apart_tops : AreApart (tops M.lines)
  apart_tops = let l = listed M.lines its_right in l.apart

  -- of two writers the first one's calls stand before its commit, and so before the second one's
  not_behind : (u v : Act) → list.In u (acts M.lines) → list.In v (acts M.lines) → is_top u.kind ≡ true → is_top v.kind ≡ true →
      IsDone M.lines u → IsDone M.lines v → u.id ≢ v.id
      → (c d : model.Call) → list.In c (committed_calls M.lines) → list.In d (committed_calls M.lines) → writes_on x c ≡ true →
      writes_on x d ≡ true → c.top ≡ v.id → d.top ≡ u.id → IsCalledFirst M.lines u.uid v.uid → c.at < d.at → ⊥
  not_behind u v in_u in_v ku kv du dv apart c d i j cw dw ct dt first less =
      let tu = top_for M.lines its_right u in_u ku du in
      let tv = top_for M.lines its_right v in_v kv dv in
      let cx : c.x ≡ x = eqb-true c.x x (and_parts (c.x == x) (writes c.op) cw).0 in
      let dx : d.x ≡ x = eqb-true d.x x (and_parts (d.x == x) (writes d.op) dw).0 in
      let s : IsShown (first_values hd) M.lines its_right x S tie d = shown (first_values hd) M.lines its_right x S tie d j dx in
      let wu : Wrote M.lines x tu.0 = (d, in_to d (committed_calls M.lines) j, dw, dt ∙ sym tu.2) in
      let wv : Wrote M.lines x tv.0 = (c, in_to c (committed_calls M.lines) i, cw, ct ∙ sym tv.2) in
      let turn = writers_are_called_first (first_values hd) M.lines x S its_right its_tied tu.0 tv.0 u v
      (record { listed = in_to tu.0 (tops M.lines) tu.1; wrote = wu; there = in_to u (acts M.lines) in_u; number = sym tu.2 })
      (record { listed = in_to tv.0 (tops M.lines) tv.1; wrote = wv; there = in_to v (acts M.lines) in_v; number = sym tv.2 })
      (λ same. apart (sym tu.2 ∙ same ∙ tv.2)) first in
      let behind = called_first (first_values hd) M.lines its_right x S tie c d i j cx dx less
      (off_one c.top d.top (λ e. apart (sym dt ∙ sym e ∙ ct))) (writes_conflict x c d cw dw) in
      let place_v : top_place (tops M.lines) c.top ≡ (let t = tv.0 in t.at) = ap (top_place (tops M.lines)) (ct ∙ sym tv.2)
      ∙ place_of_top (tops M.lines) tv.0 apart_tops tv.1 in
      let place_u : (let n = s.number in n.at) ≡ (let t = tu.0 in t.at) = sym (place_of_top (tops M.lines) s.number apart_tops s.listed_top)
      ∙ ap (top_place (tops M.lines)) (sym s.top_number ∙ dt ∙ sym tu.2) ∙ place_of_top (tops M.lines) tu.0 apart_tops tu.1 in
      let ends = before_top (first_values hd) M.lines its_right x S tie d s in
      omega (arith, turn, behind, place_v, place_u, ends)

  -- ---- surviving writes

  one_there : AreOne f.act
  one_there = let s = b.seen in let g = s.agrees in let w = g.whole in let l = w.alike in l.one

  -- a surviving write is of a decided top, whose plan wrote
  pub record IsDecidedWriter (c : Call) : Type 0 where
    pub its : Act
    pub there : list.In its (acts M.lines)
    pub kind : is_top its.kind ≡ true
    pub place : f.act its.uid ≡ top c.act
    pub committed : IsDone M.lines its
    pub done : Done
    pub listed : words.In done D.tops
    pub number : done.top ≡ uid_number its.uid
    pub wrote : is_some (let p = done.plan in p.writes) ≡ true

  writer_of : (c : Call) → In c S.calls → c.write ≡ true → Survives S c.act → IsDecidedWriter c
  writer_of c i write survives = record {
    its = k.its;
    there = k.there;
    kind = k.kind;
    place = k.place;
    committed = (said_of hd f x begun S M b k.its k.there (top_plain (let y = k.its in y.kind) k.kind)).only three;
    done = d.0;
    listed = d.1;
    number = d.2;
    wrote = by (let p = (let e = d.0 in e.plan) in p.writes) refl;
  }
    where
      k : IsTopThere f.act M.lines (top c.act)
      k = top_there f x begun S M b.seen (first_values hd) (stands_for (first_values hd) M.start.marks x f b.agrees.1.0) c i

      acts_so : machine.is_action c.act ≡ true
      acts_so = let h = holds hd f x begun S M b in (h.calls c i).acts

      three : (let z = S.action (f.act (let y = k.its in y.uid)) in z.stage) ≡ 3
      three = ap (λ (y : machine.Act). (let z = S.action y in z.stage)) k.place
          ∙ survives (top c.act) (on_top c.act) (top_action (top c.act) (top_is c.act acts_so))

      on : disk.decided D (uid_number (let y = k.its in y.uid)) ≡ true
      on = machine_decided f x begun S M b.seen (first_values hd)
          (stands_for (first_values hd) M.start.marks x f b.agrees.1.0) (let A = b.office in
          A.world) b.carried.0.1.1 b.planned (let y = k.its in y.uid) three c i write (sym k.place) survives

      d : (d : Done) × words.In d D.tops × (d.top ≡ uid_number (let y = k.its in y.uid))
      d = decided_at D.tops (uid_number (let y = k.its in y.uid)) on

      plan_is : (let e = d.0 in e.plan) ≡ D.plan (uid_number (let y = k.its in y.uid))
      plan_is = (let q = core hd f x begun S M b in q.journal.plan d.0 d.1) ∙ ap D.plan d.2

      by : (o : Option Packed) → (let p = (let e = d.0 in e.plan) in p.writes) ≡ o →
          is_some (let p = (let e = d.0 in e.plan) in p.writes) ≡ true
      by (Some w) is = ap is_some is
      by None is =
          let p = b.planned.decisions (let y = k.its in y.uid) on in
          let voted : VotedIn f S (let y = k.its in y.uid) None = subst (VotedIn f S (let y = k.its in y.uid))
          (ap (λ (q : disk.Plan). q.writes) (sym plan_is) ∙ is) (planned_voted f x S (let A = b.office in A.world) (let y = k.its in
          y.uid) one_there p (omega (arith, three)) (omega (arith, three))) in
          absurd (voted c i write (sym k.place) (lives S (low hd f x begun S M b) c.act survives))

  -- ---- where nobody wrote

  pub first_is_last : (v : ℕ) → WroteNone D.first D.tops → v ≡ S.initial → IsLast S v S.calls
  first_is_last v none is = none_last S v S.calls (sym is) (λ c i write survives. let w = writer_of c i write survives in
      never w.wrote (ap is_some (none.1 w.done w.listed)))

  -- ---- the newest writer

  module _ (z : IsNewest M.lines D.first D.tops) (u : Uid) (number : uid_number u ≡ (let d = z.done in d.top)) where
    plan_is : (let d = z.done in d.plan) ≡ D.plan (uid_number u)
    plan_is = (let q = core hd f x begun S M b in q.journal.plan z.done z.there) ∙ ap D.plan (sym number)

    -- its action
    a : (a : Act) × list.In a (acts M.lines) × (a.uid ≡ u)
    a =
        let s = stands_lines new_book M.lines its_right stands_new in
        let e = s.sane in
        let r = act_there (book M.lines).acts u (e.called u ((let k = b.carried.0.0.1 in k.called) z.done z.there u number)) in
        (r.0, subst (list.In r.0) (its_acts M.lines its_right) r.1, r.2)

    n : (n : Node) × (M.nodes u.node ≡ Some n)
    n = let r = node_of hd f x begun S M b a.0 a.1 in (r.0, ap (λ (w : Uid). M.nodes w.node) (sym a.2) ∙ r.1)

    on : disk.decided D (uid_number u) ≡ true
    on = ap (decided_in D.tops) number ∙ in_decided D.tops z.done z.there

    planned : IsPlannedSo f x S (let A = b.office in A.world) u
    planned = b.planned.decisions u on

    is : machine.is_top (f.act u) ≡ true
    is = let s = planned.sees.0 in s.top

    kind : is_top (let y = a.0 in y.kind) ≡ true
    kind = let p = places hd f x begun S M b in
        sym (p.tops a.0 (in_to a.0 (acts M.lines) a.1)) ∙ ap (λ (w : Uid). machine.is_top (f.act w)) a.2 ∙ is

    three : (let k = S.action (f.act u) in k.stage) ≡ 3
    three = ap (λ (w : Uid). (let k = S.action (f.act w) in k.stage)) (sym a.2) ∙ committed_there hd f x begun S M b a.0 a.1
        (top_plain (let y = a.0 in y.kind) kind) (ap (is_decided (book M.lines)) a.2 ∙ said_there hd f x begun S M b u n.0 n.1 on)

    committed : IsDone M.lines a.0
    committed = (said_of hd f x begun S M b a.0 a.1 (top_plain (let y = a.0 in y.kind) kind)).only
        (ap (λ (w : Uid). (let k = S.action (f.act w) in k.stage)) a.2 ∙ three)

    voted : VotedIn f S u (Some z.state)
    voted = subst (VotedIn f S u) (ap (λ (q : disk.Plan). q.writes) (sym plan_is) ∙ z.writes)
        (planned_voted f x S (let A = b.office in A.world) u one_there planned (omega (arith, three)) (omega (arith, three)))

    -- no write of another top stands behind one of it
    last_write : (d : Call) → In d S.calls → d.write ≡ true → Survives S d.act → top d.act ≢ f.act u → (c : Call) → In c S.calls →
        c.write ≡ true → (top c.act ≡ f.act u) × Alive S c.act → c.line < d.line → ⊥
    last_write d i write survives other c j writes_c its less =
        let w = writer_of d i write survives in
        let said_d : HasSaid M.lines x (let y = w.its in y.uid) d.line = has_said f x begun S M b.seen (first_values hd)
        (stands_for (first_values hd) M.start.marks x f b.agrees.1.0) d i
        write survives (let y = w.its in y.uid) (sym w.place) in
        let alive_c = theirs_survive (holds hd f x begun S M b) (values hd f x begun S M b) (low hd f x begun S M b) (f.act u) is three c j
        its in
        let said_c : HasSaid M.lines x u c.line = has_said f x begun S M b.seen (first_values hd)
        (stands_for (first_values hd) M.start.marks x f b.agrees.1.0) c j writes_c alive_c u
        its.0 in
        let one_d : said_d.act ≡ w.its = same_act said_d.act w.its said_d.there w.there said_d.uid in
        let one_c : said_c.act ≡ a.0 = same_act said_c.act a.0 said_c.there a.1 (said_c.uid ∙ sym a.2) in
        let apart : (let e = w.done in e.top) ≢ (let e = z.done in
        e.top) = λ same. other (sym w.place ∙ ap f.act (number_tells (let y = w.its in y.uid) u (sym w.number ∙ same ∙ sym number))) in
        let ids : (let y = w.its in y.id) ≢ (let y = a.0 in y.id) = λ same.
        other (sym w.place ∙ ap (λ (y : Act). f.act y.uid) (same_number M.lines its_right w.its a.0 w.there a.1 same) ∙ ap f.act a.2) in
        let line_d = said_d.line_is in
        let line_c = said_c.line_is in
        ⊎_elim
        (λ first. not_behind w.its a.0 w.there a.1 w.kind kind w.committed committed ids said_c.call said_d.call said_c.listed said_d.listed
        said_c.write said_d.write (said_c.whose ∙ ap (λ (y : Act). y.id) one_c) (said_d.whose ∙ ap (λ (y : Act). y.id) one_d) first
        (omega (arith, less, line_d, line_c)))
        (λ nothing. wrote_something M.lines x (record { id = (let y = a.0 in y.id); root = (let y = a.0 in y.id); at = 0 }) a.0 refl (
          said_c.call,
          in_to said_c.call (committed_calls M.lines) said_c.listed,
          said_c.write,
          said_c.whose ∙ ap (λ (y : Act). y.id) one_c,
        ) nothing)
        (z.turns w.done w.its a.0 w.listed w.wrote (in_to w.its (acts M.lines) w.there) (in_to a.0 (acts M.lines) a.1) (sym w.number)
        (ap uid_number a.2 ∙ number) kind apart)
      where
        same_act : (y k : Act) → list.In y (acts M.lines) → list.In k (acts M.lines) → y.uid ≡ k.uid → y ≡ k
        same_act y k in_y in_k same = one_act (acts M.lines) (let q = its_sound M.lines its_right in q.distinct) y k in_y in_k same

    -- what it gave is what the newest surviving call left, so it is in form
    gave_in_form : HeaderFits hd → Newest S.initial (Survives S) (let g = S.vote (f.act u) in g.value) S.calls → ValueInForm voted.0
    unfolding tie its_tied
    gave_in_form form last =
        let survives : Survives S (let c = voted.5 in c.act) = theirs_survive (holds hd f x begun S M b) (values hd f x begun S M b)
        (low hd f x begun S M b) (f.act u) is three voted.5 voted.6 (voted.8, voted.9) in
        let d = left_by S.initial (Survives S) (let g = S.vote (f.act u) in g.value) S.calls last voted.5 voted.6 voted.7 survives in
        let k = left_in_form (first_values hd) M.lines x (said_fit x M.lines b.fit) (first_in_form hd x form) its_right S tie d.0 d.1
        d.2 in
        subst ValueInForm (b.apart k.0 voted.0 (top (let c = d.0 in c.act)) voted.1 (sym k.2 ∙ d.3 ∙ voted.2)).0 k.1

    pub newest_wrote : HeaderFits hd → (st : ObjectState) → st.writer ≡ u → packed st ≡ z.state →
        IsLast S (state_code f.act f.code st) S.calls
    newest_wrote form st writer same =
        let given = newest_is_last (holds hd f x begun S M b) (values hd f x begun S M b) (low hd f x begun S M b) (f.act u) is three
        last_write (let g = S.vote (f.act u) in g.value)
        ((votes_are_right (holds hd f x begun S M b) (votes hd f x begun S M b)).value (f.act u) voted.5 is (omega (arith, three))
        (omega (arith, three)) voted.6 voted.7 voted.8 voted.9) voted.5 voted.6 voted.7 (voted.8, voted.9) in
        let told = value_told st Two voted.0 (ap (λ (k : Packed). k.content) same ∙ voted.3) (gave_in_form form given) in
        let value : state_code f.act f.code st ≡ (let g = S.vote (f.act u) in g.value) =
        (λ i. f.code (told i) (f.act (writer i))) ∙ ap (f.code voted.0) (sym voted.10) ∙ sym voted.2 in
        subst (λ v. IsLast S v S.calls) (sym value) given
