-- An action that is given up may wait, by the journal, for each node that the giveup names: it is its own, or its request went there in the
-- span of what it waits for.
use Rattle.arj_law_parts.proofs.Words
use Words.{◌≡◌, ◌∙◌, ◌==◌, ◌&&◌, ◌||◌, ◌≤◌, ℕ, Bool, true, false, if◌then◌else◌, List, [], ◌∷◌, length, Option, Some, None}
use Words.{refl, sym, ap, subst, inl, inr, ⊎_elim, arith, nat_tests, nat_le, list_any, eqb-true, and_parts, In, Ask, Body, Head, Header}
use Words.{Line, Plan, ◌++◌, Message, Uid, Asked, asks, actor, ask_kind, frame_kind, name, is_empty}
use Words.{Calling, Committing, Idle, Now, Doing, doing_of, Steps, Machine, Confirming, Preparing, Voting, left_of, has}
use Words.{next_node, nodes_given_up, at_place, Node, Parts, World, see, is_waiting_now, is_committing_now}
use Words.ask
use Words.body
use Words.commit
use Words.frame
use Words.event
use Words.message
use Rattle.arj_law_parts.proofs.parts.Numbered.{AreUp}
use Rattle.arj_law_parts.specs.moves.Moments.{History}
use Rattle.arj_law_runs.proofs.Terms
use Terms.{AsksFor, IsNumbered, Want, found_by, want_of_call, want_of_commit}
use Rattle.arj_law_runs.specs.journal.Book.{new_book}
use Rattle.arj_law_runs.specs.journal.Right.{AreRight}
use Rattle.arj_promise.specs.Runs.{HeaderFits}
use Rattle.arj_journal.specs.declared.body.FrameKind.{FrameKind}
use Rattle.arj_model.specs.Calls.{committings}
use Rattle.arj_model.specs.CauseSpans.{Here, commit_here, here_at, is_frame, same_frame}
use Rattle.arj_model.specs.Past.{Asked as AskedOf, Past}
use Rattle.arj_model.specs.Refusals.{has_ended, is_committing}
use Rattle.arj_law_lock_view.specs.asking.Asked.{IsAskedSo, IsTied}
use Rattle.arj_law_lock_view.specs.asking.Turns.{calling}
use Rattle.arj_law_cause.proofs.confirm.Called.{is_called}
use Rattle.arj_law_cause.proofs.confirm.Spans as spans
use Rattle.arj_law_cause.proofs.follow.lines.Rising.{IsRising}
use Rattle.arj_law_cause.proofs.follow.lines.Steps.{given_up_of}
use Rattle.arj_law_cause.proofs.waits.doomed.Asking.{machine_kind, step_kind}
use Rattle.arj_law_cause.proofs.waits.doomed.Giving.{frame_sent}
use Rattle.arj_law_cause.proofs.waits.doomed.Spans.{AreLined, IsLined}
use Rattle.arj_law_cause.proofs.waits.doomed.Standing.{Stands}
use Rattle.arj_law_cause.proofs.waits.doomed.Stepping.{never_own}
use Rattle.arj_law_cause.proofs.waits.doomed.Wanting as wanting
use Rattle.arj_law_cause.proofs.waits.doomed.Wanting.{IsAskedBy, Waits}
use Rattle.arj_law_cause.proofs.waits.doomed.Behind.{IsBehind, is_of_commit}
use Rattle.arj_law_cause.proofs.waits.given.Lines as given
use Rattle.arj_law_cause.proofs.waits.given.Lines.{MayWait, call_place, of_calls, of_commits}
use Rattle.arj_law_cause.proofs.waits.waiting.Acting as acting
use Rattle.arj_law_cause.proofs.waits.waiting.Waiting.{AreAsked, commit_is, ended_is, one_left}

-- ---- kinds of requests

-- requests up to this kind are of calls and includes
call_frame : (m : Message) (h : Head) (a : Ask) → asks m ≡ Some (h, a) → nat_le 6 (ask_kind a) ≡ false →
    list_any (same_frame (frame_kind m)) of_calls ≡ true
call_frame m h a is low = by m is
  where
    apart : {B : Type 0} (g : Head) (b : Ask) → nat_le 6 (ask_kind b) ≡ true → ◌≡◌ {A = Option (Head × Ask)} (Some (g, b)) (Some (h, a)) → B
    apart g b high same =
        let one : ◌≡◌ {A = Head × Ask} (g, b) (h, a) = cc same in
        absurd (cc (sym high ∙ ap (λ (x : Head × Ask). nat_le 6 (ask_kind x.1)) one ∙ low))

    by : (m : Message) → asks m ≡ Some (h, a) → list_any (same_frame (frame_kind m)) of_calls ≡ true
    by (message.Bind x) is = refl
    by (message.Load x) is = refl
    by (message.Activate x) is = refl
    by (message.RecordMsg x) is = refl
    by (message.Invoke x) is = refl
    by (message.Vote x) is = apart _ _ refl is
    by (message.Prepare x) is = apart _ _ refl is
    by (message.Confirm x) is = apart _ _ refl is
    by x is = absurd (cc is)

-- the others of commits
commit_frame : (m : Message) (h : Head) (a : Ask) → asks m ≡ Some (h, a) → nat_le 6 (ask_kind a) ≡ true →
    list_any (same_frame (frame_kind m)) of_commits ≡ true
commit_frame m h a is high = by m is
  where
    apart : {B : Type 0} (g : Head) (b : Ask) → nat_le 6 (ask_kind b) ≡ false → ◌≡◌ {A = Option (Head × Ask)} (Some (g, b)) (Some (h, a))
        → B
    apart g b low same =
        let one : ◌≡◌ {A = Head × Ask} (g, b) (h, a) = cc same in
        absurd (cc (sym low ∙ ap (λ (x : Head × Ask). nat_le 6 (ask_kind x.1)) one ∙ high))

    by : (m : Message) → asks m ≡ Some (h, a) → list_any (same_frame (frame_kind m)) of_commits ≡ true
    by (message.Bind x) is = apart _ _ refl is
    by (message.Load x) is = apart _ _ refl is
    by (message.Activate x) is = apart _ _ refl is
    by (message.RecordMsg x) is = apart _ _ refl is
    by (message.Invoke x) is = apart _ _ refl is
    by (message.Vote x) is = refl
    by (message.Prepare x) is = refl
    by (message.Confirm x) is = refl
    by x is = absurd (cc is)

of_commit : (a : Ask) → nat_le 6 (ask_kind a) ≡ true → is_of_commit a ≡ true
of_commit (ask.Bind x include avoid) high = absurd (cc high)
of_commit (ask.Load x) high = absurd (cc high)
of_commit (ask.Activate b st) high = absurd (cc high)
of_commit (ask.Record x b i g) high = absurd (cc high)
of_commit (ask.Invoke x b i ends op) high = absurd (cc high)
of_commit (ask.Vote i ties ends) high = refl
of_commit (ask.Prepare states) high = refl
of_commit (ask.Confirm grants excluded included) high = refl

-- a request of the kind of a Prepare is one
prepare_frame : (m : Message) (h : Head) (a : Ask) → asks m ≡ Some (h, a) → ask_kind a ≡ 7 → frame_kind m ≡ frame.Prepare
prepare_frame m h a is seven = by m is
  where
    apart : {B : Type 0} (g : Head) (b : Ask) (n : ℕ) → ask_kind b ≡ n → (n ≡ 7 → ⊥) →
        ◌≡◌ {A = Option (Head × Ask)} (Some (g, b)) (Some (h, a)) → B
    apart g b n kind isnt same =
        let one : ◌≡◌ {A = Head × Ask} (g, b) (h, a) = cc same in
        absurd (isnt (sym kind ∙ ap (λ (x : Head × Ask). ask_kind x.1) one ∙ seven))

    by : (m : Message) → asks m ≡ Some (h, a) → frame_kind m ≡ frame.Prepare
    by (message.Prepare x) is = refl
    by (message.Bind x) is = apart _ _ 1 refl (λ e. omega (arith, e)) is
    by (message.Load x) is = apart _ _ 2 refl (λ e. omega (arith, e)) is
    by (message.Activate x) is = apart _ _ 3 refl (λ e. omega (arith, e)) is
    by (message.RecordMsg x) is = apart _ _ 4 refl (λ e. omega (arith, e)) is
    by (message.Invoke x) is = apart _ _ 5 refl (λ e. omega (arith, e)) is
    by (message.Vote x) is = apart _ _ 6 refl (λ e. omega (arith, e)) is
    by (message.Confirm x) is = apart _ _ 8 refl (λ e. omega (arith, e)) is
    by x is = absurd (cc is)

-- by these lines the action sent the node a Prepare behind the call of its commit
pub record WasSent (lines : List Line) (u : Uid) (n : ℕ) : Type 0 where
  pub before : List Line
  pub line : Line
  pub after : List Line
  pub are : lines ≡ before ++ line ∷ after
  pub says : is_frame u.node n (frame.Prepare ∷ []) line.body ≡ true
  pub called : is_called before u

-- ---- nodes that a giveup names

pub given_rise : (z : Now) → IsRising z → AreUp (given_up_of z)
given_rise Idle rise = tt
given_rise (Calling q) rise = (tt, tt)
given_rise (Committing (Voting p left)) rise = (tt, tt)
given_rise (Committing (Preparing p left)) rise = rise.0
given_rise (Committing (Confirming p)) rise = (tt, tt)

same_number : (a b : ℕ) → a ≡ b → (a == b) ≡ true
same_number a b is = grind (arith, nat_tests, is)

pub in_has : (ns : List ℕ) (j : ℕ) → In j ns → has ns j ≡ true
in_has [] j i = absurd i
in_has (n ∷ ns) j (inl same) = λ i. same_number n j same i || has ns j
in_has (n ∷ ns) j (inr i) = by (n == j) (in_has ns j i)
  where
    by : (b : Bool) → has ns j ≡ true → (b || has ns j) ≡ true
    by true more = refl
    by false more = more

-- a commit waits for each
given_left : (m : Machine) → IsRising (Committing m) → (j : ℕ) → In j (nodes_given_up m) → has (left_of m) j ≡ true
given_left (Voting p left) rise j (inl same) = by left rise.1 same
  where
    by : (ns : List ℕ) → is_empty ns ≡ false → commit.first_of ns ≡ j → has ns j ≡ true
    by [] some e = absurd (cc some)
    by (n ∷ ns) some e = λ i. same_number n j e i || has ns j
given_left (Voting p left) rise j (inr i) = absurd i
given_left (Preparing p left) rise j i = in_has left j i
given_left (Confirming p) rise j (inl same) = λ i. same_number 1 j same i || false
given_left (Confirming p) rise j (inr i) = absurd i

-- ---- one action

module _ (hd : Header) (form : HeaderFits hd) (g : History) (p : Past) (w : World) (s : Stands hd form g p w) (on : w.over ≡ false)
    (k : ℕ) (n : Node) (t : Parts) (there : at_place k w.nodes ≡ Some n) (live : n.live ≡ Some t)
    (u : Uid) (d : Doing) (does : doing_of u t.coord ≡ Some d) (accepted : List AskedOf) (same : AreAsked accepted g.askings) where
  pub f : acting.Stands (let h = s.base.base.halts in see h.sent w) (let h = s.base.base.halts in h.holds) k n t there live u d
  f = acting.stands (let h = s.base.base.halts in see h.sent w) (let h = s.base.base.halts in h.holds) k n t there live u d does

  home_is : (let a = f.act in let v = a.uid in v.node) ≡ k
  home_is = ap (λ (v : Uid). v.node) f.uid
      ∙ eqb-true u.node t.coord.tree.node (and_parts (u.node == t.coord.tree.node) (u.inc == t.coord.tree.inc)
      (found_by u t.coord.tree f.branch f.found).0).0
      ∙ acting.node_is (let h = s.base.base.halts in see h.sent w) (let h = s.base.base.halts in h.holds) k n t there live

  abbrev asked_by : (x : Want) → (x.node ≡ k → ⊥) → Waits t.coord x → IsAskedBy k x w.frames
  asked_by = let z = s.ways on in z.asked k n t there live

  -- whoever it is that it waits for, whom it asked, at another node
  module _ (x : Want) (apart : x.node ≡ k → ⊥) (way : IsAskedBy k x w.frames) where
    abbrev asking : AsksFor x way.post.message
    asking = way.asks

    other : way.post.from ≡ way.post.to → ⊥
    other is = apart (sym way.to ∙ sym is ∙ way.from)

    lined : IsLined g.askings w.lines way.post asking.head
    lined = let h = s.all.now in
        ⊎_elim (λ is. absurd (other is)) (λ l. l)
        (let r : AreLined _ = h.holds.1 in r.lined way.post asking.head asking.ask
        (frame_sent h.sent w.frames way.post h.stands.frames way.frame) asking.is)

    behind : is_of_commit asking.ask ≡ true → IsBehind w.lines way.post (actor (let h = asking.head in h.path))
    behind of = let h = s.commits.now in
        ⊎_elim (λ is. absurd (other is)) (λ l. l)
        (h.holds.1 way.post asking.head asking.ask (frame_sent h.sent w.frames way.post h.stands.frames way.frame) asking.is of)

    -- a frame's line, by the kind of the request
    is_line : (kinds : List FrameKind) → list_any (same_frame (frame_kind way.post.message)) kinds ≡ true → (c : Body) (j : ℕ) →
        c ≡ body.Sent j way.post.from way.post.to (frame_kind way.post.message) →
        is_frame (let a = f.act in let v = a.uid in v.node) x.node kinds c ≡ true
    is_line kinds of c j says =
        ap (is_frame (let a = f.act in let v = a.uid in v.node) x.node kinds) says
        ∙ (λ i. same_number way.post.from (let a = f.act in let v = a.uid in v.node) (way.from ∙ sym home_is) i
        && (same_number way.post.to x.node way.to i && of i))

  opened : is_waiting_now d.now ≡ true → has_ended w.lines (name d.label) ≡ false
  opened waits = ended_is (let h = s.base.base.halts in see h.sent w) (let h = s.base.base.halts in h.holds) k n t there live u d f
      ∙ acting.open_waits (let h = s.base.base.halts in see h.sent w) (let h = s.base.base.halts in h.holds) k n t there live u d does waits
      f.branch f.found

  -- ---- calls

  module _ (q : Steps) (now : d.now ≡ Calling q) where
    tied : IsTied g.askings w.lines u d (Some q)
    tied = let a = s.base.tied.now.holds.1 in subst (IsTied g.askings w.lines u d) (ap calling now) (a.tied k n t u d there live does)

    asked : IsAskedSo g.askings u d q
    asked = tied.1

    same_req : q.req ≡ d.req
    same_req = subst (IsNumbered d.req) now (acting.numbered (let h = s.base.base.halts in see h.sent w)
        (let h = s.base.base.halts in h.holds) k n t there live u d does)

    call_may : (next_node q ≡ k → ⊥) → MayWait accepted w.lines (name d.label) f.act (next_node q)
    call_may apart = given.Calls a.asking.asked (opened (ap is_waiting_now now))
        (one_left accepted g.askings same w.lines (name d.label) a.asking.asked tied.0 a.last) (record {
          before = l.before;
          line = l.line;
          after = l.after;
          are = l.are;
          low = l.behind a.asking a.there (a.act ∙ act_is) (low a.first (sym same_req ∙ sym req_is));
          says = is_line (want_of_call u q) apart way of_calls
              (call_frame way.post.message asks_it.head asks_it.ask asks_it.is (ap (nat_le 6) asks_it.kind ∙ step_kind q.x q.goal q.at))
              (let z = l.line in z.body) l.number l.says;
        })
      where
        a : IsAskedSo g.askings u d q
        a = asked

        way : IsAskedBy k (want_of_call u q) w.frames
        way = asked_by (want_of_call u q) apart (wanting.Calls u d q does now refl)

        asks_it : AsksFor (want_of_call u q) way.post.message
        asks_it = way.asks

        l : IsLined g.askings w.lines way.post asks_it.head
        l = lined (want_of_call u q) apart way

        act_is : u ≡ actor (let h = asks_it.head in h.path)
        act_is = sym (ap (λ (x : Asked). x.act) asks_it.by)

        req_is : (let h = asks_it.head in h.req) ≡ q.req
        req_is = ap (λ (x : Asked). x.req) asks_it.by

        low : {m i j : ℕ} → m ≤ i → i ≡ j → m ≤ j
        low {m} {i} {j} less e = omega (arith, less, e)

  -- ---- commits

  module _ (m : Machine) (now : d.now ≡ Committing m) (j : ℕ) (left : has (left_of m) j ≡ true) where
    under : is_committing w.lines (name d.label) ≡ true
    under = commit_is (let h = s.base.base.halts in see h.sent w) (let h = s.base.base.halts in h.holds) k n t there live u d does f
        ∙ ap is_committing_now now

    right : AreRight new_book w.lines
    right = let v = acting.written (let h = s.base.base.halts in see h.sent w) (let h = s.base.base.halts in h.holds) k n t there live in
        v.right

    commit_may : (j ≡ k → ⊥) → MayWait accepted w.lines (name d.label) f.act j
    commit_may apart = given.Commits place.0 under called_at (record {
      before = l.before;
      line = l.line;
      after = l.after;
      are = l.are;
      low = place.2;
      says = is_line (want_of_commit u m j) apart way of_commits
          (commit_frame way.post.message asks_it.head asks_it.ask asks_it.is high) (let z = l.line in z.body) l.number l.says;
    })
      where
        way : IsAskedBy k (want_of_commit u m j) w.frames
        way = asked_by (want_of_commit u m j) apart (wanting.Commits u d m j does now left refl)

        asks_it : AsksFor (want_of_commit u m j) way.post.message
        asks_it = way.asks

        high : nat_le 6 (ask_kind asks_it.ask) ≡ true
        high = ap (nat_le 6) asks_it.kind ∙ machine_kind m j

        l : IsBehind w.lines way.post (actor (let h = asks_it.head in h.path))
        l = behind (want_of_commit u m j) apart way (of_commit asks_it.ask high)

        act_is : actor (let h = asks_it.head in h.path) ≡ u
        act_is = ap (λ (x : Asked). x.act) asks_it.by

        here : Here
        here = record (here_at hd p event.Settle []) { lines = w.lines }

        place : (c : ℕ) × (commit_here (record (here_at hd p event.Settle []) { lines = w.lines }) (name d.label) ≡ Some c)
            × (c ≤ length l.before)
        place = spans.place (record (here_at hd p event.Settle []) { lines = w.lines }) (name d.label) l.before (l.line ∷ l.after) l.are
            right
            f.act f.named under (subst (is_called l.before) (act_is ∙ sym f.uid) l.called)

        called_at : call_place (committings w.lines) (name d.label) ≡ Some place.0
        called_at = sym (λ i. if under i then call_place (committings w.lines) (name d.label) else None) ∙ place.1

  -- a commit that prepares has sent a Prepare to each store that hasn't answered, none of them its own node
  module _ (plan : Plan) (left : List ℕ) (now : d.now ≡ Committing (Preparing plan left)) (j : ℕ) (there_is : has left j ≡ true) where
    apart_so : j ≡ k → ⊥
    apart_so same = let z = s.ways on in let c = z.calls k n t there live in
        never_own w.frames k u (Preparing plan left) (c.commits u d (Preparing plan left) k does now (subst (λ i. has left i ≡ true) same
        there_is))

    pub prepare_sent : WasSent w.lines (let a = f.act in a.uid) j
    prepare_sent = record {
      before = l.before;
      line = l.line;
      after = l.after;
      are = l.are;
      says = is_line (want_of_commit u (Preparing plan left) j) apart_so way (frame.Prepare ∷ [])
          (ap (λ x. list_any (same_frame x) (frame.Prepare ∷ [])) (prepare_frame way.post.message asks_it.head asks_it.ask asks_it.is
          asks_it.kind)) (let z = l.line in z.body) l.number l.says;
      called = subst (is_called l.before) (ap (λ (x : Asked). x.act) asks_it.by ∙ sym f.uid) l.called;
    }
      where
        way : IsAskedBy k (want_of_commit u (Preparing plan left) j) w.frames
        way = asked_by (want_of_commit u (Preparing plan left) j) apart_so
            (wanting.Commits u d (Preparing plan left) j does now there_is refl)

        asks_it : AsksFor (want_of_commit u (Preparing plan left) j) way.post.message
        asks_it = way.asks

        l : IsBehind w.lines way.post (actor (let h = asks_it.head in h.path))
        l = behind (want_of_commit u (Preparing plan left) j) apart_so way (of_commit asks_it.ask (ap (nat_le 6) asks_it.kind))

  -- ---- all of them

  module _ (j : ℕ) where
    split : {C : Type 0} → ((j ≡ k) → C) → ((j ≡ k → ⊥) → C) → C
    split {C} here other = by (j == k) refl
      where
        by : (x : Bool) → (j == k) ≡ x → C
        by true is = here (eqb-true j k is)
        by false is = other (λ e. cc (sym is ∙ same_number j k e))

    is_own : j ≡ k → MayWait accepted w.lines (name d.label) f.act j
    is_own is = given.Own (is ∙ sym home_is)

  pub all_may : (z : Now) → d.now ≡ z → IsRising z → (j : ℕ) → In j (given_up_of z) → MayWait accepted w.lines (name d.label) f.act j
  all_may Idle now rise j i = absurd i
  all_may (Calling q) now rise j (inr i) = absurd i
  all_may (Calling q) now rise j (inl is) = subst (MayWait accepted w.lines (name d.label) f.act) is
      (split (next_node q) (is_own (next_node q)) (call_may q now))
  all_may (Committing m) now rise j i = split j (is_own j) (commit_may m now j (given_left m rise j i))
