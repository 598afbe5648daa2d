-- The actions of a coordinator, as the journal has them: begun, open or ended, and whether their commits were called.
use Rattle.arj_law_parts.proofs.Words
use Words.{◌≡◌, ◌∙◌, ◌==◌, ◌&&◌, ◌||◌, not, ℕ, Bool, true, false, cond, Option, Some, None, refl, sym, ap, subst}
use Words.{is_some, if◌then◌else◌, eqb-true, and_parts, In, in_to, is_on, Uid, End, Kind, name, uids_of, actor}
use Words.{Doing, doing_of, is_committing_now, Parts, Node, Branch, branch_of, is_own, at_place, is_serial, Seen}
use Words.{Calling, Committing, Idle, Now, plan_of, is_waiting_now}
use Words.ending
use Rattle.arj_law_runs.proofs.Terms
use Terms.{Act, act_in, acts, path, uids, Book, book, IsKnown, IsEnd, KnowsUp, IsWritten, AreDistinct, IsGoodOf, IsMemory, IsUp, IsBusy}
use Terms.{AreNumbered, IsGoodCoord, IsTree, begun_tree, path_found, paths_of, found_by, work_there, IsAsking, IsVoting}
use Rattle.arj_law_runs.proofs.follow.Halts.{KnowsAll, is_alive}
use Rattle.arj_law_runs.proofs.follow.Labeled.{place_there}
use Rattle.arj_law_runs.proofs.journal.{Closed.one_act, Models.its_acts, Models.its_end, Models.its_sound, Models.named_in}
use Rattle.arj_law_runs.proofs.journal.Ties.{named_label}
use Rattle.arj_law_runs.proofs.kept.Walked.{same_number}
use Rattle.arj_law_runs.specs.journal.Book.{is_over as over_in}
use Rattle.arj_model.specs.Actions.{halts, is_halted, is_over}
use Rattle.arj_model.specs.Calls.{committings}
use Rattle.arj_model.specs.Refusals.{was_called}
use Rattle.arj_law_cause.proofs.waits.waiting.Called.{called_so}
use Rattle.arj_law_cause.proofs.waits.waiting.Lists.{placed_in}

-- an end by the book, as the coordinator has it
end_so : (B : Book) (u : Uid) (k : Kind) (o : Option End) → IsEnd B u k o → over_in B u ≡ is_some o
end_so B u k None is = is.0
end_so B u k (Some ending.Abort) is = by (is_on B.committed u)
  where
    by : (b : Bool) → (b || (is_on B.aborted u || is_on B.ended u)) ≡ true
    by true = refl
    by false = λ i. is i || is_on B.ended u
end_so B u k (Some ending.Commit) is = by (is_serial k) is
  where
    last : (x y : Bool) → (x || (y || true)) ≡ true
    last true y = refl
    last false true = refl
    last false false = refl

    by : (b : Bool) → (if b then is_on B.ended u else is_on B.committed u) ≡ true →
        (is_on B.committed u || (is_on B.aborted u || is_on B.ended u)) ≡ true
    by true e = (λ i. is_on B.committed u || (is_on B.aborted u || e i)) ∙ last (is_on B.committed u) (is_on B.aborted u)
    by false e = λ i. e i || (is_on B.aborted u || is_on B.ended u)

or_false : (x : Bool) → (x || false) ≡ x
or_false true = refl
or_false false = refl

-- node k is up with these parts
module _ (M : Seen) (all : KnowsAll M) (k : ℕ) (n : Node) (t : Parts) (there : M.nodes k ≡ Some n) (live : n.live ≡ Some t) where
  good : IsGoodOf all.0.0.0 M
  good = all.0.0.1

  pub written : IsWritten M
  written = all.0.1

  its : IsUp all.0.0.0 M.sent M.labels k (let d = n.disk in d.inc) t
  its = let p = good.places k n there in subst (IsMemory all.0.0.0 M.sent M.labels k (let d = n.disk in d.inc)) live p.memory

  pub node_is : t.coord.tree.node ≡ k
  node_is = its.node

  pub numbered : AreNumbered t.coord
  numbered = its.numbered

  pub inc_is : t.coord.tree.inc ≡ (let d = n.disk in d.inc)
  inc_is = its.inc

  pub tree : IsTree (paths_of all.0.0.0)
  tree = begun_tree all.0.0.0 good.begun

  pub coord : IsGoodCoord all.0.0.0 (paths_of all.0.0.0) t.coord
  coord = let g = its.good (paths_of all.0.0.0) tree (path_found all.0.0.0 good.begun) in g.coord

  pub up : KnowsUp (book M.lines) (let d = n.disk in d.intents) t.coord
  up = let w = written.nodes k n there in w.live t live

  pub acts_are : (let B = book M.lines in B.acts) ≡ acts M.lines
  acts_are = its_acts M.lines written.right

  pub distinct : AreDistinct (acts M.lines)
  distinct = let s = its_sound M.lines written.right in s.distinct

  -- an action at work, as the journal has it
  pub record Stands (u : Uid) (d : Doing) : Type 0 where
    pub branch : Branch
    pub found : branch_of u t.coord.tree ≡ Some branch
    pub act : Act
    pub began : In act (acts M.lines)
    pub label : act.label ≡ name d.label
    pub named : act_in (acts M.lines) (name d.label) ≡ Some act
    pub uid : act.uid ≡ u
    pub kind : act.kind ≡ branch.kind
    pub over : is_over M.lines act ≡ is_some branch.ended
    pub called : branch.ended ≡ None → was_called (committings M.lines) act.id ≡ is_committing_now d.now
    pub path : uids (path (acts M.lines) (name d.label)) ≡ uids_of branch.path

  own_branch : (u : Uid) (d : Doing) → doing_of u t.coord ≡ Some d → (b : Branch) × (branch_of u t.coord.tree ≡ Some b)
  own_branch u d does = by (is_own u t.coord.tree) does
    where
      by : (b : Bool) → cond b (at_place u.num t.coord.doings) None ≡ Some d →
          (x : Branch) × (cond b (at_place u.num t.coord.tree.branches) None ≡ Some x)
      by true at = place_there t.coord.doings t.coord.tree.branches u.num d (let w = up in let x = w.tops in let y = x.names in y.count) at
      by false at = absurd (cc at)

  pub stands : (u : Uid) (d : Doing) → doing_of u t.coord ≡ Some d → Stands u d
  stands u d does = record {
    branch = b.0;
    found = b.1;
    act = s.act;
    began = began;
    label = named_label (acts M.lines) (name d.label) s.act named;
    named = named;
    uid = s.uid;
    kind = s.kind;
    over = (λ i. its_end M.lines written.right s.act began i || is_halted (halts M.lines) s.act)
        ∙ (λ i. over_in (book M.lines) (s.uid i) || (all.1 s.act began ∙ ap not alive) i)
        ∙ or_false (over_in (book M.lines) u) ∙ end_so (book M.lines) u (let x = b.0 in x.kind) (let x = b.0 in x.ended) s.end;
    called = λ opened. called_so M.lines written.right s.act began ∙ ap (is_on (let B = book M.lines in B.called)) s.uid
        ∙ up.calls u b.0 d b.1 does opened;
    path = ap (λ xs. uids (path xs (name d.label))) (sym acts_are)
        ∙ ap (λ m. uids (path (let B = book M.lines in B.acts) m)) (sym label_in)
        ∙ up.knows.ties.paths s.act b.0 (in_to s.act (let B = book M.lines in B.acts) in_book)
        (ap (λ w. branch_of w t.coord.tree) s.uid ∙ b.1);
  }
    where
      b : (x : Branch) × (branch_of u t.coord.tree ≡ Some x)
      b = own_branch u d does

      s : IsKnown (book M.lines) u (let x = b.0 in x.kind) (let x = b.0 in x.ended) d.label
      s = up.knows.acts u b.0 d b.1 does

      in_book : In s.act (let B = book M.lines in B.acts)
      in_book = named_in (let B = book M.lines in B.acts) (name d.label) s.act s.named

      label_in : s.act.label ≡ name d.label
      label_in = named_label (let B = book M.lines in B.acts) (name d.label) s.act s.named

      named : act_in (acts M.lines) (name d.label) ≡ Some s.act
      named = ap (λ xs. act_in xs (name d.label)) (sym acts_are) ∙ s.named

      began : In s.act (acts M.lines)
      began = subst (In s.act) acts_are in_book

      own : (u.node ≡ k) × (u.inc ≡ (let x = n.disk in x.inc))
      own =
          let q = and_parts (u.node == t.coord.tree.node) (u.inc == t.coord.tree.inc) (found_by u t.coord.tree b.0 b.1).0 in
          (eqb-true u.node t.coord.tree.node q.0 ∙ node_is, eqb-true u.inc t.coord.tree.inc q.1 ∙ inc_is)

      alive : is_alive (M.nodes (let w = s.act.uid in w.node)) (let w = s.act.uid in w.inc) ≡ true
      alive = (λ i. is_alive (M.nodes (let w = s.uid i in w.node)) (let w = s.uid i in w.inc))
          ∙ (λ i. is_alive (M.nodes (own.0 i)) (own.1 i)) ∙ ap (λ o. is_alive o (let x = n.disk in x.inc)) there
          ∙ (λ i. is_some (live i) && same_number (let x = n.disk in x.inc) i)

  -- an action of the journal whose branch is there is at work
  pub record Works (a : Act) (b : Branch) : Type 0 where
    pub doing : Doing
    pub does : doing_of a.uid t.coord ≡ Some doing
    pub stands : Stands a.uid doing
    pub same : stands.act ≡ a
    pub branch : stands.branch ≡ b

  some_is : {A : Type 0} {a b : A} → Some a ≡ Some b → a ≡ b
  some_is {A} {a} {b} is = let k : ◌≡◌ {A = Option A} (Some a) (Some b) = is in cc

  pub works : (a : Act) → In a (acts M.lines) → (b : Branch) → branch_of a.uid t.coord.tree ≡ Some b → Works a b
  works a began b found =
      let w = work_there t.coord (let w = up in let x = w.tops in let y = x.names in y.count) a.uid b found in
      let s = stands a.uid w.0 w.1 in record {
        doing = w.0;
        does = w.1;
        stands = s;
        same = one_act (acts M.lines) distinct s.act a s.began began s.uid;
        branch = some_is (sym s.found ∙ found);
      }

  -- who waits is open
  pub open_waits : (u : Uid) (d : Doing) → doing_of u t.coord ≡ Some d → is_waiting_now d.now ≡ true → (b : Branch) →
      branch_of u t.coord.tree ≡ Some b → is_some b.ended ≡ false
  open_waits u d does waits_now b found = by d.now refl waits_now
    where
      one : (c : Branch) → branch_of u t.coord.tree ≡ Some c → is_some c.ended ≡ false → is_some b.ended ≡ false
      one c at opened = ap (λ (x : Branch). is_some x.ended) (some_is (sym found ∙ at)) ∙ opened

      by : (z : Now) → d.now ≡ z → is_waiting_now z ≡ true → is_some b.ended ≡ false
      by Idle is w = absurd (cc w)
      by (Calling s) is w = let a : IsAsking t.coord.tree u s.path = subst (IsBusy t.coord.tree u) is (coord.busy u d does) in
          one a.branch a.found a.opened
      by (Committing m) is w = let a : IsVoting t.coord.tree u (plan_of m) = subst (IsBusy t.coord.tree u) is (coord.busy u d does) in
          one a.asking.branch a.asking.found a.asking.opened

  -- a branch of the tree is found by its action
  pub branch_there : (w : Branch) → In w t.coord.tree.branches → branch_of (actor w.path) t.coord.tree ≡ Some w
  branch_there w i =
      let p = placed_in w t.coord.tree.branches i in
      let u : Uid = record { node = t.coord.tree.node; inc = t.coord.tree.inc; num = p.0 } in
      let found : branch_of u t.coord.tree ≡ Some w
      = (λ j. cond (same_number t.coord.tree.node j && same_number t.coord.tree.inc j) (at_place p.0 t.coord.tree.branches) None) ∙ p.1 in
      ap (λ v. branch_of v t.coord.tree) (coord.tree.lists.places u w found) ∙ found
