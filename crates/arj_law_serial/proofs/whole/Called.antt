-- What a coordinator waits for, and which calls its lines answer, are on objects of which this holds, whatever it does.
use Rattle.arj_law_parts.proofs.Words
use Words.{Bool, List, None, Option, Some, [], ap, cond, eqb-true, false, inl, inr, length, not, refl, subst, suc, sym, true, zero, ℕ}
use Words.{⊎_elim, ◌++◌, ◌+◌, ◌==◌, ◌∙◌, ◌∷◌, ◌≡◌, ◌≢◌, ◌⊎◌, find, is_some, nat_le, In as In_list, in_to, Asked, End, Header, Kind, Label}
use Words.{ObjectLine, Op, Path, Uid, uids_of, Reply, actor, again_all, begin_action, call_steps, doomed_by, goes_on, heard, kept_at}
use Words.{next_req, renewed, root_heard, root_lost, root_moved, step_call, call, commit_action, give_up, include, CallEnd, CallStep, Ended}
use Words.{Goal, On, Run, Steps, answered, given_up, start, plan_of, Calling, Committing, Coord, Doing, Idle, Now, change_doing, doing_of}
use Words.{is_free, keeping_of, new_coord, on_doing, on_root, root_at, with_keeping, Intent, acked, abort_action, unbound, with_number}
use Words.{Input, acts, branch_named, call_reasons, class_at, class_in, commit_reasons, first_reason, include_reasons, lacks_op, on_branch}
use Words.{parent_of, refusal_up, refused_by, Branch, Family, Tree, at_place, begun, branch_of, doomed_at, doomed_branch, ended_at}
use Words.{ended_branch, family_of, is_own, next_uid, no_family, path_below, root_of, set_place, uses_object, with_family, Post}
use Words.{AllByRecursion}
use Words.calls
use Words.input
use Rattle.arj_law_serial.proofs.Terms
use Terms.{on_cases, off, named_found, doomed_same, uses_same, get_more, end_tree_on, AnswersWaiting, HasObject, Place, Pieces, abort_so}
use Terms.{acked_so, again_so, commit_so, give_up_so, heard_so, UsesOf, WaitFor, begun_tree, paths_of}
use Rattle.arj_law_lock_view.proofs.facts.Pieces.{acts_so}
use Rattle.arj_law_parts.proofs.parts
use parts.CoordInputs.{IsOff, behind}
use parts.LivesNamed.{all_at, all_put}
use Rattle.arj_law_runs.proofs.addresses.Lists.{all_number}

-- ---- objects of the header

pub found_object : (hd : Header) (x : ℕ) → is_some (class_at x hd) ≡ true → HasObject hd x
found_object hd x there = by hd.objects (λ o i. i) there
  where
    by : (os : List ObjectLine) → ((o : ObjectLine) → In_list o os → In_list o hd.objects) →
        is_some (class_in (find (λ (o : ObjectLine). o.x == x) os)) ≡ true → HasObject hd x
    by [] into is = absurd (cc is)
    by (o ∷ os) into is = one (o.x == x) refl is (by os (λ z i. into z (inr i)))
      where
        one : (b : Bool) → (o.x == x) ≡ b → is_some (class_in (cond b (Some o) (find (λ (z : ObjectLine). z.x == x) os))) ≡ true →
            (is_some (class_in (find (λ (z : ObjectLine). z.x == x) os)) ≡ true → HasObject hd x) → HasObject hd x
        one true same e old = (o, in_to o hd.objects (into o (inl refl)), eqb-true o.x x same)
        one false same e old = old e

-- a refusal that doesn't hold, behind four others
behind_four : (rs : List (ℕ × Bool)) → first_reason rs ≡ None → IsOff (behind (behind (behind (behind rs))))
behind_four rs none =
    let one = off rs none in
    let two = off (behind rs) one.1 in
    let three = off (behind (behind rs)) two.1 in
    let four = off (behind (behind (behind rs))) three.1 in
    (off (behind (behind (behind (behind rs)))) four.1).0

-- and the one behind it
behind_five : (rs : List (ℕ × Bool)) → first_reason rs ≡ None → IsOff (behind (behind (behind (behind (behind rs)))))
behind_five rs none =
    let one = off rs none in
    let two = off (behind rs) one.1 in
    let three = off (behind (behind rs)) two.1 in
    let four = off (behind (behind (behind rs))) three.1 in
    let five = off (behind (behind (behind (behind rs)))) four.1 in
    (off (behind (behind (behind (behind (behind rs))))) five.1).0

is_there : (b : Bool) → not b ≡ false → b ≡ true
is_there true is = refl
is_there false is = absurd (cc is)

-- ---- trees

module _ (O : ℕ → Type 0) where
  abbrev Objects : Family → Type 0
  Objects f = AllByRecursion O f.objects

  family_uses : (root : Uid) (t : Tree) → UsesOf O t → Objects (family_of root t)
  family_uses root t all = all_at Objects no_family tt root.num t.families all

  put_uses : (root : Uid) (f : Family) (t : Tree) → Objects f → UsesOf O t → UsesOf O (with_family root f t)
  put_uses root f t its all = all_put Objects root.num f t.families its all

  pub uses_ended : (u : Uid) (how : End) (t : Tree) → UsesOf O t → UsesOf O (ended_at u how t)
  uses_ended u how t all = by (branch_of u t)
    where
      by : (o : Option Branch) → UsesOf O (ended_branch u how t o)
      by None = all
      by (Some b) = one (nat_le (length (uids_of b.path)) 1)
        where
          m : Tree
          m = record t { branches = set_place u.num (record b { ended = Some how }) t.branches }

          one : (c : Bool) → UsesOf O (cond c m
              (with_family (root_of b.path) (let f = family_of (root_of b.path) m in record f { ends = f.ends ++ (u, how) ∷ [] }) m))
          one true = all
          one false = put_uses (root_of b.path) (let f = family_of (root_of b.path) m in
              record f { ends = f.ends ++ (u, how) ∷ [] }) m (family_uses (root_of b.path) m all) all

  uses_doomed : (u : Uid) (t : Tree) → UsesOf O t → UsesOf O (doomed_at u t)
  uses_doomed u t all = by (branch_of u t)
    where
      by : (o : Option Branch) → UsesOf O (doomed_branch u t o)
      by None = all
      by (Some b) = all

  uses_more : (p : Path) (x : ℕ) (t : Tree) → O x → UsesOf O t → UsesOf O (uses_object p x t)
  uses_more p x t its all = put_uses (root_of p) (let f = family_of (root_of p) t in record f { objects = with_number x f.objects }) t
      (all_number O x (family_of (root_of p) t).objects its (family_uses (root_of p) t all)) all

  pub uses_begun : (how : Kind) (above : Option Branch) (t : Tree) → UsesOf O t → UsesOf O (begun how above t)
  uses_begun how above t all =
      let p = path_below how above (next_uid t) in
      let m : Tree = record t { branches = t.branches ++ record { path = p; kind = how; ended = None; doomed = false } ∷ [] } in
      put_uses (root_of p) (let f = family_of (root_of p) m in record f { actions = f.actions + 1 }) m (family_uses (root_of p) m all) all

  -- ---- coordinators

  abbrev Uses : Coord → Type 0
  Uses e = UsesOf O e.tree

  uses_do : (u : Uid) (f : Doing → Doing) (e : Coord) → Uses e → Uses (on_doing u f e)
  uses_do u f e all = by (doing_of u e)
    where
      by : (o : Option Doing) → Uses (change_doing f u e o)
      by None = all
      by (Some d) = all

  pieces_use : (c : Coord) → Uses c → Pieces c Uses
  pieces_use c all = record {
    start = all;
    end_tree = λ u how e q. uses_ended u how e.tree q;
    idle = λ u e q. uses_do u (λ (d : Doing). record d { now = Idle }) e q;
    took = λ u ns e q. uses_do u (λ (d : Doing). record d { took = ns }) e q;
    commits = λ u m e planned q. uses_do u (λ (d : Doing). record d { req = (plan_of m).req; now = Committing m }) e q;
    asks = λ p req b e rooted q. q;
    decides = λ p e rooted q. q;
    telling = λ i e q. q;
  }

  uses_goes : (s : Steps) (e : Coord) → Uses e → Uses (goes_on s e).part
  uses_goes s e q = uses_do (actor s.path) (λ (d : Doing). record d { req = s.req; now = Calling s }) e q

  uses_step : (s : Steps) (n : CallStep) (e : Coord) → Uses e → Uses (step_call s n e).part
  uses_step s (On next) e q = uses_goes (record s { req = s.req + 1; at = next }) e q
  uses_step s (Ended g) e q = by g
    where
      told : Coord
      told = on_root (root_of s.path) (root_heard s g) (on_doing (actor s.path) (λ (d : Doing). record d { now = Idle }) e)

      so : Uses told
      so = uses_do (actor s.path) (λ (d : Doing). record d { now = Idle }) e q

      by : (h : CallEnd) → Uses (doomed_by (actor s.path) h told)
      by (calls.Answered x) = so
      by (calls.Included st) = so
      by (calls.Conflict h x n) = so
      by (calls.Changed n w) = so
      by (calls.Lost n false) = so
      by (calls.Lost n true) = uses_doomed (actor s.path) told.tree so

  pub uses_heard : (sent : List Post) (k : ℕ) (c : Coord) → Place sent k c → Uses c →
      (from : ℕ) (q : Asked) (r : Reply) (intents : List (Uid × Intent)) → AnswersWaiting from q r c → Uses (heard from q r intents c).part
  uses_heard sent k c place all from q r intents fits = heard_so sent k c place Uses (pieces_use c all) from q r intents fits
      (λ s i on who. let m = answered (is_free (root_of s.path) (actor s.path) s.x c) (kept_at s c) s.goal s.at r in
      uses_step s m.step (on_root (root_of s.path) (root_moved s r m) c) all)

  pub uses_acked : (sent : List Post) (k : ℕ) (c : Coord) → Place sent k c → Uses c → (from : ℕ) (u : Uid) (intents : List (Uid × Intent)) →
      Uses (acked from u intents c).part
  uses_acked sent k c place all from u intents = acked_so sent k c place Uses (pieces_use c all) from u intents

  pub uses_again : (sent : List Post) (k : ℕ) (c : Coord) → Place sent k c → Uses c → Uses (again_all c.doings c).part
  uses_again sent k c place all = again_so sent k c place Uses (pieces_use c all)

  pub uses_acts : (sent : List Post) (k : ℕ) (c : Coord) → Place sent k c → Uses c →
      (hd : Header) (i : Input) (intents : List (Uid × Intent)) → ((x : ℕ) → is_some (class_at x hd) ≡ true → O x) → refusal_up hd i c
      ≡ None → ((l : Label) (q : Kind) (parent : Option Label) → i ≢ input.Begin l q parent) → Uses (let d = acts i intents c in d.part)
  uses_acts sent k c place all hd i intents of free other = acts_so sent k c place Uses (pieces_use c all) hd i intents free other
      (λ b x o found ok.
      let k = renewed (is_free (root_of b.path) (actor b.path) x c) (keeping_of x (root_at (root_of b.path) c))
      (let h = keeping_of x (root_at (root_of b.path) c) in h.kept) in
      uses_goes (call_steps b.path x o (next_req (actor b.path) c) (root_at (root_of b.path) c) c k)
      (on_root (root_of b.path) (with_keeping x k) (record c { tree = uses_object b.path x c.tree }))
      (uses_more b.path x c.tree (of x (is_there (is_some (class_at x hd)) (behind_four (call_reasons hd x o b c) ok))) all))
      (λ b x s found ok. uses_goes (start b.path x (calls.Include s) None unbound (next_req (actor b.path) c))
      (record c { tree = uses_object b.path x c.tree })
      (uses_more b.path x c.tree (of x (is_there (is_some (class_at x hd)) (behind_four (include_reasons hd x b c) ok))) all))
      (λ s i. uses_step s (given_up s.at) (on_root (root_of s.path) (root_lost s (given_up s.at)) c) all)

-- ---- what waits

module _ (P : ℕ → Goal → Type 0) where
  wait_work : (u : Uid) (f : Doing → Doing) (e : Coord) → ((d : Doing) (s : Steps) → doing_of u e ≡ Some d →
      (let z = f d in z.now) ≡ Calling s → P s.x s.goal) → WaitFor P e → WaitFor P (on_doing u f e)
  wait_work u f e its a w d s found is = ⊎_elim
      (λ same. its same.1 s (ap (λ v. doing_of v e) (sym same.0) ∙ same.2) (ap (λ (z : Doing). z.now) same.3 ∙ is))
      (λ other. a w d s other.1 is) (on_cases u f e w d found)

  wait_own : (e f : Coord) → ((u : Uid) → is_own u f.tree ≡ is_own u e.tree) → f.doings ≡ e.doings → WaitFor P e → WaitFor P f
  wait_own e f own doings a w d s found is = a w d s ((λ i. cond (sym (own w) i) (at_place w.num (sym doings i)) None) ∙ found) is

  wait_idle : (u : Uid) (e : Coord) → WaitFor P e → WaitFor P (on_doing u (λ (d : Doing). record d { now = Idle }) e)
  wait_idle u e a = wait_work u (λ (d : Doing). record d { now = Idle }) e (λ d s found is. absurd (cc is)) a

  wait_goes : (s : Steps) (e : Coord) → P s.x s.goal → WaitFor P e → WaitFor P (goes_on s e).part
  wait_goes s e its a u d z found is = wait_work (actor s.path) (λ (d : Doing). record d { req = s.req; now = Calling s }) e
      (λ q y at now. let same : s ≡ y = cc now in subst (λ (v : Steps). P v.x v.goal) same its) a u d z found is

  pieces_wait : (c : Coord) → WaitFor P c → Pieces c (WaitFor P)
  pieces_wait c a = record {
    start = a;
    end_tree = λ u how e q. let g = end_tree_on u how e in wait_own e (record e { tree = ended_at u how e.tree }) g.own refl q;
    idle = wait_idle;
    took = λ u ns e q. wait_work u (λ (d : Doing). record d { took = ns }) e (λ d s found is. q u d s found is) q;
    commits = λ u m e planned q.
        wait_work u (λ (d : Doing). record d { req = (plan_of m).req; now = Committing m }) e (λ d s found is. absurd (cc is)) q;
    asks = λ p req b e rooted q u d s found is. q u d s found is;
    decides = λ p e rooted q u d s found is. q u d s found is;
    telling = λ i e q u d s found is. q u d s found is;
  }

  wait_step : (s : Steps) (n : CallStep) (e : Coord) → P s.x s.goal → WaitFor P e → WaitFor P (step_call s n e).part
  wait_step s (On next) e its a = wait_goes (record s { req = s.req + 1; at = next }) e its a
  wait_step s (Ended g) e its a = by g
    where
      told : Coord
      told = on_root (root_of s.path) (root_heard s g) (on_doing (actor s.path) (λ (d : Doing). record d { now = Idle }) e)

      so : WaitFor P told
      so u d z found is = wait_idle (actor s.path) e a u d z found is

      by : (h : CallEnd) → WaitFor P (doomed_by (actor s.path) h told)
      by (calls.Answered x) = so
      by (calls.Included st) = so
      by (calls.Conflict h x n) = so
      by (calls.Changed n w) = so
      by (calls.Lost n false) = so
      by (calls.Lost n true) = let q = doomed_same (actor s.path) told.tree in
          wait_own told (record told { tree = doomed_at (actor s.path) told.tree }) q.own refl so

  pub wait_heard : (sent : List Post) (k : ℕ) (c : Coord) → Place sent k c → WaitFor P c → (from : ℕ) (q : Asked) (r : Reply)
      (intents : List (Uid × Intent)) → AnswersWaiting from q r c → WaitFor P (heard from q r intents c).part
  wait_heard sent k c place a from q r intents fits = heard_so sent k c place (WaitFor P) (pieces_wait c a) from q r intents fits
      (λ s i on who. let m = answered (is_free (root_of s.path) (actor s.path) s.x c) (kept_at s c) s.goal s.at r in wait_step s m.step
      (on_root (root_of s.path) (root_moved s r m) c) (a (actor s.path) i.doing s i.found i.now) (λ u d z found is. a u d z found is))

  pub wait_acked : (sent : List Post) (k : ℕ) (c : Coord) → Place sent k c → WaitFor P c →
      (from : ℕ) (u : Uid) (intents : List (Uid × Intent)) → WaitFor P (acked from u intents c).part
  wait_acked sent k c place a from u intents = acked_so sent k c place (WaitFor P) (pieces_wait c a) from u intents

  pub wait_again : (sent : List Post) (k : ℕ) (c : Coord) → Place sent k c → WaitFor P c → WaitFor P (again_all c.doings c).part
  wait_again sent k c place a = again_so sent k c place (WaitFor P) (pieces_wait c a)

  pub wait_acts : (sent : List Post) (k : ℕ) (c : Coord) → Place sent k c → WaitFor P c → (hd : Header) (i : Input) (intents : List
      (Uid × Intent)) → ((x : ℕ) (o : Op) → is_some (class_at x hd) ≡ true → lacks_op o (class_at x hd) ≡ false → P x (calls.Run o)) →
      ((l : Label) (x s : ℕ) → i ≡ input.Include l x s → is_some (class_at x hd) ≡ true → P x (calls.Include s)) → refusal_up hd i c ≡ None
      → ((l : Label) (q : Kind) (parent : Option Label) → i ≢ input.Begin l q parent) → WaitFor P (let d = acts i intents c in d.part)
  wait_acts sent k c place a hd i intents runs includes free other = by i refl free
    where
      used : (p : Path) (x : ℕ) → WaitFor P (record c { tree = uses_object p x c.tree })
      used p x = let q = uses_same p x c.tree in wait_own c (record c { tree = uses_object p x c.tree }) q.own refl a

      found : (l : Label) (b : Branch) → branch_named l c ≡ Some b → branch_of (actor b.path) c.tree ≡ Some b
      found l b is = named_found place.actions (paths_of place.actions) (begun_tree place.actions place.begun) intents c place.good l b is

      by : (j : Input) → i ≡ j → refusal_up hd j c ≡ None → WaitFor P (let d = acts j intents c in d.part)
      by (input.Begin l q parent) same ok = absurd (other l q parent same)
      by (input.Call l x o) same ok = one (branch_named l c) ok
        where
          one : (f : Option Branch) → refused_by (call_reasons hd x o) c f ≡ None → WaitFor P (on_branch (λ b. call b.path x o c) c f).part
          one None ok = a
          one (Some b) ok = wait_goes (call_steps b.path x o (next_req (actor b.path) c) (root_at (root_of b.path) c) c
              (renewed (is_free (root_of b.path) (actor b.path) x c) (keeping_of x (root_at (root_of b.path) c))
              (let h = keeping_of x (root_at (root_of b.path) c) in h.kept))) _ (runs x o (is_there (is_some (class_at x hd))
              (behind_four (call_reasons hd x o b c) ok)) (behind_five (call_reasons hd x o b c) ok)) (used b.path x)
      by (input.Include l x s) same ok = one (branch_named l c) ok
        where
          one : (f : Option Branch) → refused_by (include_reasons hd x) c f ≡ None →
              WaitFor P (on_branch (λ b. include b.path x s c) c f).part
          one None ok = a
          one (Some b) ok = wait_goes (start b.path x (calls.Include s) None unbound (next_req (actor b.path) c))
              _ (includes l x s same (is_there (is_some (class_at x hd)) (behind_four (include_reasons hd x b c) ok))) (used b.path x)
      by (input.Commit l) same ok = one (branch_named l c) refl ok
        where
          one : (f : Option Branch) → branch_named l c ≡ f → refused_by commit_reasons c f ≡ None →
              WaitFor P (on_branch (λ b. commit_action b intents c) c f).part
          one None is ok = a
          one (Some b) is ok =
              commit_so sent k c place (WaitFor P) (pieces_wait c a) b intents (found l b is) (off (commit_reasons b c) ok).0
      by (input.Abort l) same ok = one (branch_named l c)
        where
          one : (f : Option Branch) → WaitFor P (on_branch (λ b. abort_action (actor b.path) intents c) c f).part
          one None = a
          one (Some b) = abort_so sent k c place (WaitFor P) (pieces_wait c a) (actor b.path) intents
      by (input.GiveUp l) same ok = one (branch_named l c)
        where
          one : (f : Option Branch) → WaitFor P (on_branch (λ b. give_up (actor b.path) intents c) c f).part
          one None = a
          one (Some b) = give_up_so sent k c place (WaitFor P) (pieces_wait c a) (actor b.path) intents
              (λ s i. wait_step s (given_up s.at) (on_root (root_of s.path) (root_lost s (given_up s.at)) c)
              (a (actor s.path) i.doing s i.found i.now) (λ u d z found is. a u d z found is))
      by _ same ok = a

  pub wait_begin : (l : Label) (how : Kind) (parent : Option Label) (c : Coord) → WaitFor P c →
      WaitFor P (begin_action l how parent (parent_of parent c) c).part
  wait_begin l how parent c a u d s found is = ⊎_elim (λ old. a u d s old is)
      (λ idle. let no_way : ◌≡◌ {A = Now} Idle (Calling s) = sym idle ∙ is in absurd (cc no_way)) (was (is_own u c.tree) u.num found)
    where
      fresh : Doing
      fresh = record { label = l; req = 0; now = Idle; took = [] }

      was : (b : Bool) (j : ℕ) → cond b (at_place j (c.doings ++ fresh ∷ [])) None ≡ Some d →
          (cond b (at_place j c.doings) None ≡ Some d) ⊎ (d.now ≡ Idle)
      was true zero at = absurd (cc at)
      was true (suc j) at = ⊎_elim (λ old. inl old) (λ its. inr (ap (λ (z : Doing). z.now) (sym its.1))) (get_more j fresh d c.doings at)
      was false j at = absurd (cc at)

  -- nothing waits at first
  pub wait_new : (node inc : ℕ) (telling : List (Uid × Intent)) → WaitFor P (record (new_coord node inc) { telling = telling })
  wait_new node inc telling u d s found is = absurd (by (is_own u (let c = new_coord node inc in c.tree)) u.num found)
    where
      by : (x : Bool) (j : ℕ) → cond x (at_place j []) None ≡ Some d → ⊥
      by true zero e = cc e
      by true (suc j) e = cc e
      by false j e = cc e
