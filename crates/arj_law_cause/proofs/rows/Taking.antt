-- What is known where a call's line is written: the action that asked, what it asked, and the answer that is taken.
use Rattle.arj_law_parts.proofs.Words
use Words.{⊎_elim, ◌≡◌, ◌⊎◌, ◌≤◌, ◌∙◌, ◌+◌, ◌==◌, ◌++◌, ◌&&◌, ◌||◌, not, ℕ, Bool, true, false, cond, List, [], ◌∷◌, length, Option, Some, None}
use Words.{refl, sym, ap, subst, inl, inr, arith, and_parts, eqb-true, eq-eqb, is_some, bytes_eq, In, in_find, in_to}
use Words.{Start, Head, Post, asked_by, asks, Ask, Asked, Header, Line, Message, Uid, name, Reply, actor, answers, frame_kind, response}
use Words.{reply_kind}
use Words.{ask_kind, next_ask, next_node, waits_for_call, Steps, Calling, Doing, doing_of, Disk, Parts, Node, at_place, is_own, Contains}
use Words.{Binding, End, Kind, is_serial, kept_at, kept_of}
use Words.{root_at, root_of, first_uid, uid_same}
use Rattle.arj_law_parts.proofs.parts.Begun.{path_some}
use Words.{Branch, Committing, Idle, Now, branch_of, is_committing_now, is_on, plan_of, uids_of}
use Words.ask
use Words.kind
use Rattle.arj_law_serial.proofs.Terms
use Terms.{Act, Action, AreAlike, AreBegun, AreDistinct, AreFormed, IsAsking, IsBusy, IsNumbered, act_in, action_of, acts, actor_is}
use Terms.{begun_tree, book}
use Terms.{its_acts, its_sound, is_book, paths_of, same_number, IsUp, IsEnd, IsKnown}
use Rattle.arj_law_lock_view.proofs.asking.{Keeping.HasPaths, Keeping.its, Keeping.mine, Knowing.IsThere, Knowing.KnowsCoord}
use Rattle.arj_law_lock_view.proofs.asking.{Tying.own_of}
use Rattle.arj_law_lock_view.proofs.moments.Answers.{Known}
use Rattle.arj_law_lock_view.specs.asking.{Asked.AskedAreTied, Asked.IsAskedSo, Asked.IsTied, Asked.count_answers, Asked.count_asks}
use Rattle.arj_law_lock_view.specs.asking.{Turns.calling}
use Rattle.arj_law_lock_view.specs.facts.Requests.{IsAskedBy, RequestsAreKnown}
use Rattle.arj_law_lock_view.specs.moments.Made.{AnswersAreMade, AnswersTo, BeginsWith, Saying}
use Rattle.arj_law_parts.proofs.moves.{Flat.post, Happens.Wide}
use Rattle.arj_law_parts.proofs.parts.{GoodTrees.over_below, TrueSteps.work_there}
use Rattle.arj_law_parts.specs.parts.{Copies.IsTree, Coords.IsGoodCoord, Coords.IsVoting}
use Rattle.arj_law_parts.specs.moves.Moments.{Asking, Moment, up}
use Rattle.arj_law_parts.specs.moves.Seen as seen
use Rattle.arj_law_runs.proofs.follow.Halts.{KnowsAll, is_alive}
use Rattle.arj_law_runs.specs.addresses.Addresses.{AreAddressed, IsNode}
use Rattle.arj_law_runs.specs.addresses.Binds.{StandsOn}
use Rattle.arj_law_runs.specs.calls.Coords.{IsOfStep, bare, head_of}
use Rattle.arj_law_runs.specs.journal.Book.{is_over as over_in}
use Rattle.arj_law_runs.specs.journal.Knows.{IsWritten}
use Rattle.arj_model.specs.Actions.{halts, is_halted, path}
use Rattle.arj_model.specs.Past.{Asked as AskedOf, label_of}
use Rattle.arj_model.specs.Refusals.{has_ended, is_over_act}
use Rattle.arj_promise.specs.Runs.{HeaderFits}
use Rattle.arj_law_lock_view.proofs.view.TreeSteps.{above_there}
use Rattle.arj_law_runs.specs.journal.{Book.new_book, Right.AreRight}
use Rattle.arj_law_cause.proofs.rows.Pends.{IsCalledAt, called_book}
use Rattle.arj_law_cause.proofs.waits.lost.Bound.{ReplyFull, says_full}
use Rattle.arj_law_cause.proofs.bindings.Asking as bindings
use Rattle.arj_law_cause.proofs.bindings.Copies.{active_by}
use Rattle.arj_law_cause.proofs.bindings.Counted.{IsGiven}
use Rattle.arj_law_cause.proofs.bindings.Lines.{IsLined}
use Rattle.arj_law_cause.proofs.bindings.Said.{KnowsBindings}
use Rattle.arj_law_cause.proofs.bindings.Since.{met_in}
use Rattle.arj_law_cause.proofs.confirm.Reached.{Reached}
use Rattle.arj_law_cause.proofs.rows.Differing.{differs_so, says_differs}
use Rattle.arj_law_cause.proofs.rows.Machines
use Rattle.arj_law_cause.specs.rows.Early.{IsEarly}
use Words.{AtBind, AtInvoke, Op, Run, ask_at, binding_eq, binding_number, is_include}
use Words.bound
use Words.calls
use Rattle.arj_law_cause.specs.rows.Says.{says_of, says_so}

some_is : {A : Type 0} {a b : A} → Some a ≡ Some b → a ≡ b
some_is {A} {a} {b} is = let k : ◌≡◌ {A = Option A} (Some a) (Some b) = is in cc

none_is : {A P : Type 0} {x : A} → None ≡ Some x → P
none_is {A} {P} {x} is = let no_way : ◌≡◌ {A = Option A} None (Some x) = is in absurd (cc no_way)

-- ---- requests

pub bind_is : (a : Ask) (x : ℕ) (include : Bool) (avoid : Binding) → bare a ≡ ask.Bind x include avoid → a ≡ ask.Bind x include avoid
bind_is (ask.Invoke y c j ends p) x include avoid is = absurd (cc is)
bind_is a x include avoid is = is

-- ---- paths of what was asked

-- the path of what was asked is that of its label by some first lines
pub record IsPathAt (lines : List Line) (q : Asking) : Type 0 where
  pub first : List Line
  pub more : List Line
  pub are : lines ≡ first ++ more
  pub path : (let e = q.asked in e.path) ≡ path (acts first) (label_of (let e = q.asked in e.event))

abbrev pub AskedPaths : Moment → Type 0
AskedPaths M = (q : Asking) → In q M.past.askings → IsPathAt M.seen.lines q

-- ---- a node at work

-- an answer says both, of the same lines
abbrev pub both_so : List AskedOf → Header → Start → Saying
both_so A hd st a before = says_so A hd a before × differs_so st a before

pub record Works (A : List AskedOf) (hd : Header) (k : ℕ) (d : Disk) (t : Parts) (M : Moment) : Type 0 where
  pub paths : HasPaths (up k d t M)
  pub tied : AskedAreTied (up k d t M)
  pub known : Wide Known (up k d t M)
  pub all : Wide KnowsAll (up k d t M)
  pub addressed : Wide (AreAddressed hd) (up k d t M)
  pub made : AnswersAreMade (says_so A hd) (up k d t M)
  pub full : AnswersAreMade says_full (up k d t M)
  pub bindings : Wide KnowsBindings (up k d t M)
  pub differs : AnswersAreMade (differs_so M.seen.start) (up k d t M)
  pub both : AnswersAreMade (both_so A hd M.seen.start) (up k d t M)
  pub reached : Wide (Reached hd) (up k d t M)
  pub form : HeaderFits hd

-- The action that waits, in the journal's words: it's open, has one more asked than answered, and waits for that.
pub record IsCaller (k : ℕ) (M : Moment) (u : Uid) (w : Doing) (s : Steps) : Type 0 where
  pub act : Act
  pub named : act_in (acts M.seen.lines) (name w.label) ≡ Some act
  pub uid : act.uid ≡ u
  pub home : (let v = act.uid in v.node) ≡ k
  pub stays : has_ended M.seen.lines (name w.label) ≡ false
  pub more : count_asks M.past.askings (name w.label) ≡ count_answers M.seen.lines (name w.label) + 1
  pub asked : IsAskedSo M.past.askings u w s
  pub actor : actor s.path ≡ u
  pub begun : List Action
  pub all : AreBegun begun
  pub alike : AreAlike begun (acts M.seen.lines)
  pub distinct : AreDistinct (acts M.seen.lines)
  pub formed : AreFormed (acts M.seen.lines)
  pub unserial : is_serial (let b = act in b.kind) ≡ false
  pub caller : Action
  pub there : Contains begun caller
  pub path : (let a = caller in a.path) ≡ s.path

-- The answer that is taken is to the last request of what was asked; where it was made, and what it says of the lines before.
pub record IsTaken (A : List AskedOf) (hd : Header) (k from : ℕ) (M : Moment) (s : Steps) (q : Asking) (a : Asked)
    (r : Reply) : Type 0 where
  pub ask : Ask
  pub same : bare ask ≡ next_ask [] s
  pub node : next_node s ≡ from
  pub sender : IsNode hd from
  pub before : List Line
  pub after : List Line
  pub are : M.seen.lines ≡ before ++ after
  pub late : (let e = q.asked in e.at) ≤ length before
  pub framed : (from ≡ k) ⊎ BeginsWith from k (frame_kind (response a r)) after
  pub so : says_of A hd from (head_of s) ask r before

-- The answer was made where it says both.
pub record IsGranted (A : List AskedOf) (hd : Header) (from : ℕ) (M : Moment) (s : Steps) (q : Asking) (r : Reply) : Type 0 where
  pub ask : Ask
  pub same : bare ask ≡ next_ask [] s
  pub before : List Line
  pub after : List Line
  pub are : M.seen.lines ≡ before ++ after
  pub late : (let e = q.asked in e.at) ≤ length before
  pub so : says_of A hd from (head_of s) ask r before
  pub differs : says_differs M.seen.start from (head_of s) ask r before

-- The answer was made where something changed, if it finds that.
pub record IsTold (from : ℕ) (M : Moment) (s : Steps) (q : Asking) (r : Reply) : Type 0 where
  pub ask : Ask
  pub same : bare ask ≡ next_ask [] s
  pub before : List Line
  pub after : List Line
  pub are : M.seen.lines ≡ before ++ after
  pub late : (let e = q.asked in e.at) ≤ length before
  pub so : says_differs M.seen.start from (head_of s) ask r before

module _ (A : List AskedOf) (hd : Header) (k : ℕ) (d : Disk) (t : Parts) (M : Moment) (W : Works A hd k d t M) (u : Uid) (w : Doing)
    (s : Steps)
    (found : doing_of u t.coord ≡ Some w) (is : w.now ≡ Calling s) where
  abbrev mine_node : Node
  mine_node = record { number = k; disk = d; live = Some t }

  here : (let N = up k d t M in N.seen.nodes k) ≡ Some (record { number = k; disk = d; live = Some t })
  here = λ i. cond (same_number k i) (Some (record { number = k; disk = d; live = Some t })) (M.seen.nodes k)

  knows : KnowsCoord W.paths.2.0 (let N = up k d t M in seen.with_sent W.paths.0 N.seen) k t
  knows = its k d t M W.paths W.tied

  stands : IsThere (let N = up k d t M in seen.with_sent W.paths.0 N.seen) k t u w
  stands = mine k d t M W.paths W.tied u w found

  own : is_own u t.coord.tree ≡ true
  own = by (is_own u t.coord.tree) refl found
    where
      by : (b : Bool) → is_own u t.coord.tree ≡ b → cond b (at_place u.num t.coord.doings) None ≡ Some w → b ≡ true
      by true e at = refl
      by false e at = none_is at

  asking : IsAsking t.coord.tree u s.path
  asking = subst (IsBusy t.coord.tree u) is (let g = knows.coord in g.busy u w found)

  its_up : IsUp W.paths.2.0 W.paths.0 M.seen.labels k d.inc t
  its_up = let g = W.paths.2.1.1.0 in let p = g.places k mine_node here in p.memory

  number : s.req ≡ w.req
  number = subst (IsNumbered w.req) is (let i = its_up in i.numbered u w found)

  pub call : IsTied M.past.askings M.seen.lines u w (Some s)
  call = subst (IsTied M.past.askings M.seen.lines u w) (ap calling is) (own_of k d t M W.tied u w found)

  -- its root is the coordinator's
  pub root_own : is_own (root_of s.path) t.coord.tree ≡ true
  root_own = by (is_own (root_of s.path) t.coord.tree) refl branch.1
    where
      begun : List Action
      begun = W.paths.2.0

      tree : IsTree (paths_of begun)
      tree = begun_tree begun (let g = W.paths.2.1.1.0 in g.begun)

      good : IsGoodCoord begun (paths_of begun) t.coord
      good = knows.coord

      first_on : (us : List Uid) → 1 ≤ length us → is_on us (first_uid us) ≡ true
      first_on [] some = absurd (omega (arith, some))
      first_on (v ∷ us) some = λ i. uid_same v i || is_on us v

      over_path : is_on (paths_of begun u) (root_of s.path) ≡ true
      over_path = ap (λ us. is_on us (root_of s.path)) (sym (good.tree.lists.paths_are u asking.branch asking.found))
          ∙ ap (λ p. is_on (uids_of p) (root_of s.path)) asking.path ∙ first_on (uids_of s.path) (path_some s.path)

      branch : (c : Branch) × (branch_of (root_of s.path) t.coord.tree ≡ Some c)
      branch = above_there (paths_of begun) tree t.coord.tree good.tree.lists (root_of s.path) u asking.branch asking.found over_path

      by : (b : Bool) → is_own (root_of s.path) t.coord.tree ≡ b → branch_of (root_of s.path) t.coord.tree ≡ Some branch.0 → b ≡ true
      by true e at = refl
      by false e at = none_is (sym (λ i. cond (e i) (at_place (let r = root_of s.path in r.num) (let z = t.coord.tree in z.branches)) None) ∙ at)

  -- whose commit was called isn't on the path of one that asks
  pub off_called : (v : Uid) (ls ms : List Line) → M.seen.lines ≡ ls ++ ms → IsCalledAt ls v → is_on (uids_of s.path) v ≡ false
  off_called v ls ms are at = by (is_on (uids_of s.path) v) refl
    where
      begun : List Action
      begun = W.paths.2.0

      good : IsGoodCoord begun (paths_of begun) t.coord
      good = knows.coord

      tree : IsTree (paths_of begun)
      tree = begun_tree begun (let g = W.paths.2.1.1.0 in g.begun)

      right : AreRight new_book M.seen.lines
      right = let z = W.paths.2.1.1.2 in z.right

      called : is_on (let B = book M.seen.lines in B.called) v ≡ true
      called = called_book M.seen.lines right ls ms are v at

      above : is_on (uids_of s.path) v ≡ true → ⊥
      above on = opened (is_some (let c = branch.0 in c.ended)) refl
        where
          over_path : is_on (paths_of begun u) v ≡ true
          over_path = ap (λ us. is_on us v) (sym (good.tree.lists.paths_are u asking.branch asking.found))
              ∙ ap (λ p. is_on (uids_of p) v) asking.path ∙ on

          branch : (c : Branch) × (branch_of v t.coord.tree ≡ Some c)
          branch = above_there (paths_of begun) tree t.coord.tree good.tree.lists v u asking.branch asking.found over_path

          doing : (q : Doing) × (doing_of v t.coord ≡ Some q)
          doing = work_there t.coord (let i = its_up in let f = i.faithful in f.works) v branch.0 branch.1

          never : {A : Type 0} {b : Bool} → b ≡ true → b ≡ false → A
          never holds fails = let no_way : true ≡ false = sym holds ∙ fails in absurd (cc no_way)

          none_of : (o : Option End) → is_some o ≡ false → o ≡ None
          none_of None e = refl
          none_of (Some x) e = absurd (cc e)

          opened : (b : Bool) → is_some (let c = branch.0 in c.ended) ≡ b → ⊥
          opened true over = never (over_below (paths_of begun) tree t.coord.tree good.tree.lists good.tree.closed v branch.0 branch.1
              over u
              asking.branch asking.found over_path) asking.opened
          opened false open_yet = committing (let q = doing.0 in q.now) refl
            where
              now : is_committing_now (let q = doing.0 in q.now) ≡ true
              now = sym (let n = knows.knows in n.calls v branch.0 doing.0 branch.1 doing.1 (none_of (let c = branch.0 in c.ended)
                  open_yet))
                  ∙ called

              committing : (n : Now) → (let q = doing.0 in q.now) ≡ n → ⊥
              committing Idle at_it = never now (ap is_committing_now at_it)
              committing (Calling z) at_it = never now (ap is_committing_now at_it)
              committing (Committing m) at_it = never (ap (λ (z : Branch). is_some z.ended) (some_is (sym asking.found ∙ its.1)) ∙ its.2)
                  asking.opened
                where
                  votes : IsVoting t.coord.tree v (plan_of m)
                  votes = subst (IsBusy t.coord.tree v) at_it (good.busy v doing.0 doing.1)

                  other : u ≡ v → ⊥
                  other same = let one : w ≡ doing.0 = some_is (sym found ∙ ap (λ z. doing_of z t.coord) same ∙ doing.1) in
                      let no_way : Calling s ≡ Committing m = sym is ∙ ap (λ (z : Doing). z.now) one ∙ at_it in absurd (cc no_way)

                  its : (b : Branch) × (branch_of u t.coord.tree ≡ Some b) × (is_some b.ended ≡ true)
                  its = votes.over u (votes.below u asking.branch asking.found
                      (ap (λ us. is_on us v) (good.tree.lists.paths_are u asking.branch asking.found) ∙ over_path) other)

      by : (b : Bool) → is_on (uids_of s.path) v ≡ b → b ≡ false
      by false e = refl
      by true e = absurd (above e)

  pub caller : IsCaller k M u w s
  caller = record {
    act = stands.act;
    named = stands.named;
    uid = stands.uid;
    home = ap (λ (v : Uid). v.node) stands.uid ∙ stands.node;
    stays = open_yet;
    more = call.0;
    asked = call.1;
    actor = its_actor;
    begun = W.paths.2.0;
    all = all;
    alike = alike;
    distinct = distinct;
    formed = (let s = its_sound M.seen.lines written.right in s.formed);
    unserial = unserial;
    caller = action_of asking.branch;
    there = (let g = knows.coord in g.known u asking.branch asking.found);
    path = asking.path;
  }
    where
      all : AreBegun W.paths.2.0
      all = let g = W.paths.2.1.1.0 in g.begun

      written : IsWritten (let N = up k d t M in seen.with_sent W.paths.0 N.seen)
      written = W.paths.2.1.1.2

      acts_are : (let B = book M.seen.lines in B.acts) ≡ acts M.seen.lines
      acts_are = its_acts M.seen.lines written.right

      alike : AreAlike W.paths.2.0 (acts M.seen.lines)
      alike = subst (AreAlike W.paths.2.0) acts_are W.paths.2.1.1.1

      distinct : AreDistinct (acts M.seen.lines)
      distinct = let s = its_sound M.seen.lines written.right in s.distinct

      its_actor : actor s.path ≡ u
      its_actor = actor_is W.paths.2.0 (paths_of W.paths.2.0) (begun_tree W.paths.2.0 (let g = W.paths.2.1.1.0 in g.begun)) u s.path t.coord
          knows.coord asking

      among : In stands.act (acts M.seen.lines)
      among = (in_find (λ (x : Act). bytes_eq x.label (name w.label)) stands.act (acts M.seen.lines) stands.named).0

      known : IsKnown (book M.seen.lines) u (let b = asking.branch in b.kind) (let b = asking.branch in b.ended) w.label
      known = let up_here = knows.knows in (let n = up_here.knows in n.acts u asking.branch w asking.found found)

      -- it isn't serializing
      unserial : is_serial (let b = stands.act in b.kind) ≡ false
      unserial =
          let same : known.act ≡ stands.act =
          some_is (sym known.named ∙ ap (λ xs. act_in xs (name w.label)) acts_are ∙ stands.named) in
          by (let b = stands.act in b.kind) (λ serial. asking.unserial (sym known.kind ∙ ap (λ (z : Act). z.kind) same ∙ serial))
        where
          by : (q : Kind) → (q ≡ kind.Serial → ⊥) → is_serial q ≡ false
          by kind.Serial other = absurd (other refl)
          by kind.Top other = refl
          by kind.Nested other = refl
          by kind.Constituent other = refl
          by kind.Independent other = refl

      -- it has no end by the book
      unended : over_in (book M.seen.lines) u ≡ false
      unended = by (let b = asking.branch in b.ended) asking.opened known.end
        where
          by : (o : Option End) → is_some o ≡ false → IsEnd (book M.seen.lines) u (let b = asking.branch in b.kind) o →
              over_in (book M.seen.lines) u ≡ false
          by None free end = end.0
          by (Some e) free end = let no_way : true ≡ false = free in absurd (cc no_way)

      -- and its node hasn't halted since it began
      alive : is_halted (halts M.seen.lines) stands.act ≡ false
      alive =
          let told = W.all.2.1 stands.act among in
          told ∙ ap (λ o. not (is_alive o (let v = stands.act in (let x = v.uid in x.inc))))
          ((λ i. (let N = up k d t M in N.seen.nodes) ((ap (λ (v : Uid). v.node) stands.uid ∙ stands.node) i)) ∙ here)
          ∙ ap not (ap (λ (v : Uid). d.inc == v.inc) stands.uid ∙ same_inc)
        where
          same_inc : (d.inc == u.inc) ≡ true
          same_inc = let i = its_up in eq-eqb d.inc u.inc
              (sym (eqb-true u.inc t.coord.tree.inc (and_parts (u.node == t.coord.tree.node) (u.inc == t.coord.tree.inc) own).1 ∙ i.inc))

      open_yet : has_ended M.seen.lines (name w.label) ≡ false
      open_yet =
          ap (is_over_act M.seen.lines) stands.named
          ∙ (λ i. (let b = is_book M.seen.lines written.right in b.over stands.act (in_to stands.act (acts M.seen.lines) among)) i
          || is_halted (halts M.seen.lines) stands.act)
          ∙ (λ i. (ap (over_in (book M.seen.lines)) stands.uid ∙ unended) i || alive i)

  -- an include is never run
  pub stands_on : StandsOn s.goal (kept_of s.x (root_at (root_of s.path) t.coord)) s.at
  stands_on =
      let b = W.known.2.0.0.1 in
      let n = b.nodes k mine_node t here refl in
      n.steps u w s found is

  -- what is known of the step's binding, and of the one that the root keeps
  its_bindings : bindings.AreAtSo (IsLined M.seen.lines) (active_by M.seen.lines) (met_in M.seen.start M.seen.lines) t.coord
  its_bindings = let says = W.bindings.2.1.0 in (says.works k mine_node t here refl).0

  pub step_so : bindings.IsAtSo (IsLined M.seen.lines) (active_by M.seen.lines) (met_in M.seen.start M.seen.lines) s.x s.goal s.at
  step_so = subst (bindings.IsNowSo (IsLined M.seen.lines) (active_by M.seen.lines) (met_in M.seen.start M.seen.lines)) is
      (let b = its_bindings in b.works u w found)

  pub kept_binding : bindings.IsKeptSo (IsLined M.seen.lines) (active_by M.seen.lines) (met_in M.seen.start M.seen.lines) s.x
      (kept_at s t.coord)
  kept_binding = bindings.kept_of_call (IsLined M.seen.lines) (active_by M.seen.lines) (met_in M.seen.start M.seen.lines) s t.coord
      its_bindings

  -- the object that it calls is seen by its lock machine
  locked : (early : IsEarly M.seen.lines) → Machines.IsLocked hd W.form k d t M.seen W.reached.0 W.reached.2 early s.x
  locked early = Machines.is_locked hd W.form k d t M.seen W.reached.0 W.reached.2 early s.x
      (Machines.its_object hd W.form k d t M.seen W.reached.0 W.reached.2 early u w s found is)

  -- an Invoke names the incarnation that the root keeps
  pub invoke_kept : (early : IsEarly M.seen.lines) (o : Op) → s.goal ≡ Run o → (y : calls.Known) (i : ℕ) → s.at ≡ AtInvoke y i →
      (old : calls.Known) × (kept_at s t.coord ≡ Some old) × (binding_number old.binding ≡ binding_number y.binding) × (old.inc ≡ Some i)
  invoke_kept early o goal y i at = Machines.invoke_named hd W.form k d t M.seen W.reached.0 W.reached.2 early s.x (locked early) u w s o
      asking.branch found is refl goal asking.found asking.path y i at

  -- bindings of the lines have small counts, above 0, and one server each
  pub given : IsGiven M.seen.start M.seen.lines
  given = W.bindings.2.0.1.1.0

  -- ---- an answer is taken

  module _ (from : ℕ) (m : Message) (sent_it : seen.In (post from k m) M.seen.sent) (a : Asked) (r : Reply) (answer : answers m ≡ Some
      (a, r))
      (act : a.act ≡ u) (waits : waits_for_call from a r s ≡ true) where
    parts : ((s.req == a.req) ≡ true) × (((reply_kind r == ask_kind (next_ask [] s)) ≡ true) × ((next_node s == from) ≡ true))
    parts =
        let p = and_parts (s.req == a.req) ((reply_kind r == ask_kind (next_ask [] s)) && (next_node s == from)) waits in
        let q = and_parts (reply_kind r == ask_kind (next_ask [] s)) (next_node s == from) p.1 in (p.0, (q.0, q.1))

    its_node : next_node s ≡ from
    its_node = eqb-true (next_node s) from parts.1.1

    -- the request that it answers is the step's
    module _ (all : Wide RequestsAreKnown (up k d t M)) (h : Head) (asked : Ask) (same : asked_by h ≡ a) (request : Post)
        (posted : In request all.0) (asking_it : asks request.message ≡ Some (h, asked)) (its_from : request.from ≡ k) where
      asker : actor h.path ≡ u
      asker = ap (λ (b : Asked). b.act) same ∙ act

      req_is : h.req ≡ w.req
      req_is = ap (λ (b : Asked). b.req) same ∙ sym (eqb-true s.req a.req parts.0) ∙ number

      asked_by_it : IsAskedBy t.coord request.to h asked
      asked_by_it = all.2.1 k mine_node t here refl request h asked posted its_from asking_it
          (ap (λ v. is_own v t.coord.tree) asker ∙ own)

      doing_is : (let q = asked_by_it in q.doing) ≡ w
      doing_is = let q = asked_by_it in some_is (sym q.found ∙ ap (λ v. doing_of v t.coord) asker ∙ found)

      of_step : IsOfStep s request.to h asked
      of_step = let q = asked_by_it in
          q.step s (ap (λ (x : Doing). x.now) doing_is ∙ is) (req_is ∙ ap (λ (x : Doing). x.req) (sym doing_is))

    abbrev requests : Wide RequestsAreKnown (up k d t M)
    requests = (W.known.0, W.known.1, W.known.2.0)

    -- so it is of an answer that was made where something held
    module _ (S : Saying) (ans : AnswersTo S ⊥ (up k d t M) from k a r) where
      made_by : IsOfStep s (let q = ans.3 in let p = q.request in p.to) ans.0 ans.1
      made_by = let q = ans.3 in of_step requests ans.0 ans.1 ans.2 q.request (W.known.1 q.request q.posted) q.asking q.from

      late : (let c = caller in let q = c.asked in let z = q.asking in let e = z.asked in e.at) ≤ (let q = ans.3 in let z = q.made in
          length z.before)
      unfolding caller
      late =
          let q = ans.3 in
          let z = q.made in
          let c = call.1 in
          z.behind c.asking c.there (c.act ∙ sym (asker requests ans.0 ans.1 ans.2 q.request (W.known.1 q.request q.posted) q.asking
          q.from))
          (low (req_is requests ans.0 ans.1 ans.2 q.request (W.known.1 q.request q.posted) q.asking q.from) c.first)
        where
          low : {m n : ℕ} → m ≡ w.req → n ≤ w.req → n ≤ m
          low is le = omega (arith, le, is)

    pub taken : IsTaken A hd k from M s (let c = caller in let q = c.asked in q.asking) a r
    taken =
        let ans = W.made.sent (post from k m) a r sent_it answer in
        let q = ans.3 in
        let z = q.made in record {
          ask = ans.1;
          same = (let o = made_by (says_so A hd) ans in o.same);
          node = its_node;
          sender = (let p = W.addressed.2.1.1 (post from k m) (W.addressed.1 (post from k m) sent_it) in p.0);
          before = z.before;
          after = z.after;
          are = z.are;
          late = late (says_so A hd) ans;
          framed = ⊎_elim (λ here. inl here) (λ f. inr (⊎_elim {C = BeginsWith from k (frame_kind (response a r)) z.after}
              (λ b. subst (λ x. BeginsWith from k (frame_kind (response x r)) z.after) ans.2 b) (λ never. absurd never) f)) z.framed;
          so = subst (λ h. says_of A hd from h ans.1 r z.before) (let o = made_by (says_so A hd) ans in o.head) z.so;
        }

    -- where naming grants a lock
    pub granted : IsGranted A hd from M s (let c = caller in let q = c.asked in q.asking) r
    granted =
        let ans = W.both.sent (post from k m) a r sent_it answer in
        let q = ans.3 in
        let z = q.made in record {
          ask = ans.1;
          same = (let o = made_by (both_so A hd M.seen.start) ans in o.same);
          before = z.before;
          after = z.after;
          are = z.are;
          late = late (both_so A hd M.seen.start) ans;
          so = subst (λ h. says_of A hd from h ans.1 r z.before) (let o = made_by (both_so A hd M.seen.start) ans in o.head) z.so.0;
          differs = subst (λ h. says_differs M.seen.start from h ans.1 r z.before)
              (let o = made_by (both_so A hd M.seen.start) ans in o.head) z.so.1;
        }

    -- where it finds something changed
    pub told : IsTold from M s (let c = caller in let q = c.asked in q.asking) r
    told =
        let ans = W.differs.sent (post from k m) a r sent_it answer in
        let q = ans.3 in
        let z = q.made in record {
          ask = ans.1;
          same = (let o = made_by (differs_so M.seen.start) ans in o.same);
          before = z.before;
          after = z.after;
          are = z.are;
          late = late (differs_so M.seen.start) ans;
          so = subst (λ h. says_differs M.seen.start from h ans.1 r z.before)
              (let o = made_by (differs_so M.seen.start) ans in o.head) z.so;
        }

    -- what it says of bindings
    pub replied : (asked : Ask) × (bare asked ≡ next_ask [] s)
        × bindings.ReplySo (IsLined M.seen.lines) (active_by M.seen.lines) (met_in M.seen.start M.seen.lines) from asked r
    replied =
        let says = W.bindings.2.1.0 in
        let p = says.sent (post from k m) (W.bindings.1 (post from k m) sent_it) in
        let z = p.answering a r answer in
        let o = of_step (W.bindings.0, W.bindings.1, W.bindings.2.0.0.0) z.head z.ask z.same z.request z.posted z.asking z.from in
        (z.ask, o.same, z.so)

    -- a live binding that naming answers has the incarnation that the root keeps of it
    pub live_kept : (early : IsEarly M.seen.lines) (o : Op) → s.goal ≡ Run o → (avoid : Binding) → s.at ≡ AtBind avoid → (c : Binding)
        (server i g : ℕ) (stores : List ℕ) → r ≡ Reply.Bound (bound.Live c server i g stores) → (old : calls.Known) (first : ℕ) →
        kept_at s t.coord ≡ Some old → old.inc ≡ Some first → binding_eq old.binding c ≡ true → first ≡ i
    live_kept early o goal avoid at c server i g stores live old first keeps has same =
        let l = locked early in
        let within : seen.Within M.seen.sent l.more = λ p there. l.within p (W.reached.1 p there) in
        let z = Machines.live_named hd W.form k d t M.seen W.reached.0 W.reached.2 early s.x (locked early) u w s o asking.branch found is
        refl
        goal asking.found asking.path from m a c server i g stores (within (post from k m) sent_it) (answer ∙ (λ j. Some (a, live j))) in
        let step : IsOfStep s from z.0 z.1 = of_step (
          l.more,
          within,
          Machines.asked_known hd W.form k d t M.seen W.reached.0 W.reached.2
              early
              s.x (locked early),
        ) z.0 z.1 z.5 (post k from z.2) z.3 z.4 refl in
        z.6 (is_include s.goal) avoid (bind_is z.1 s.x (is_include s.goal) avoid (step.same ∙ (λ j. ask_at s.x s.goal [] (at j)))) old first
        keeps has same

    -- it names some store, where it goes on to load
    pub full_reply : ReplyFull r
    full_reply = let z = W.full.sent (post from k m) a r sent_it answer in let f = z.3 in f.made.so
