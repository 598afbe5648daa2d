-- Roots that weren't begun have nothing: kept by all that a coordinator does.
use Rattle.arj_law_parts.proofs.Words
use Words.{◌≡◌, ◌∙◌, ◌≤◌, ◌<◌, ◌+◌, ℕ, zero, suc, Bool, true, false, List, [], ◌∷◌, length, Some, None, refl, sym, ap, subst, arith}
use Words.{slice_get, is_eq, nat_cmp, length-append, put_other, Ask, BoundReply, Op, Path, Uid, first_uid, uids_of, Reply, actor, again_all}
use Words.{asks_node, call, call_steps, doomed_by, give_up_call, goes_on, heard, heard_call, include, is_invoke_ask, kept_at, next_req}
use Words.{renewed, root_heard, root_lost, root_moved, step_call, CallEnd, CallStep, Ended, On, Steps, answered, given_up, next_ask}
use Words.{next_node, start, Calling, Coord, Doing, Idle, Root, is_free, keeping_of, on_doing, on_root, root_at, with_keeping, with_went}
use Words.{acked, root_after, at_number, unbound, acts, Branch, at_place, branch_of, ends_of, root_of, uses_object, Post}
use Words.calls
use Rattle.arj_law_lock_view.proofs.Terms
use Terms.{on_roots, paths_of, GoesOn, IsTree, begun_tree, found_by, well_acked, well_acts, well_again, well_heard, HasNoRoots}
use Rattle.arj_law_lock_view.proofs.facts
use facts.{Kept.IsKept, Kept.Place, Kept.answers_so}
use facts.Pieces.{IsRooted, IsStep, Pieces, acked_so, acts_so, again_so, heard_so}
use Rattle.arj_law_runs.proofs.calls.CoordKnown.{root_there}

module _ (sent : List Post) (k : ℕ) (c : Coord) (place : Place sent k c) where
  abbrev its_tree : IsTree (paths_of place.actions)
  its_tree = begun_tree place.actions place.begun

  -- the root of an action is one of the actions
  root_low : (p : Path) → IsRooted c p → (root_of p).num ≤ length c.tree.branches
  root_low p (u, b, found, same) =
      let g = place.good in
      let r = root_there place.actions (paths_of place.actions) its_tree c place.good (length (paths_of place.actions u)) u b (omega arith)
      found in
      let its : first_uid (paths_of place.actions u) ≡ root_of p = ap first_uid (sym (g.tree.lists.paths_are u b found))
      ∙ ap root_of same in
      low (root_of p).num c.tree.branches (found_by (root_of p) c.tree r.0 (ap (λ v. branch_of v c.tree) (sym its) ∙ r.1)).1
    where
      low : {b : Branch} (n : ℕ) (bs : List Branch) → at_place n bs ≡ Some b → n ≤ length bs
      low zero bs is = omega arith
      low (suc n) bs is = by n bs is
        where
          by : {b : Branch} (i : ℕ) (xs : List Branch) → slice_get xs i ≡ Some b → suc i ≤ length xs
          by i [] e = absurd (cc e)
          by zero (x ∷ xs) e = omega arith
          by (suc i) (x ∷ xs) e = let q = by i xs e in omega (arith, q)

  abbrev Fresh : Coord → Type 0
  Fresh e = (n : ℕ) → length c.tree.branches < n → at_number n e.roots ≡ None

  on_fresh : (p : Path) (f : Root → Root) (e : Coord) → IsRooted c p → Fresh e → Fresh (on_root (root_of p) f e)
  on_fresh p f e rooted fresh n above =
      put_other (root_of p).num n (f (root_at (root_of p) e)) e.roots (apart n (root_of p).num (root_low p rooted) above) ∙ fresh n above
    where
      apart : (n m : ℕ) → m ≤ length c.tree.branches → length c.tree.branches < n → is_eq (nat_cmp n m) ≡ false
      apart n m low high = by (is_eq (nat_cmp n m)) refl
        where
          by : (b : Bool) → is_eq (nat_cmp n m) ≡ b → b ≡ false
          by true e = absurd (let same : n ≡ m = grind (arith, e) in omega (arith, same, low, high))
          by false e = refl

  work_fresh : (u : Uid) (f : Doing → Doing) (e : Coord) → Fresh e → Fresh (on_doing u f e)
  work_fresh u f e fresh n above = ap (at_number n) (on_roots u f e) ∙ fresh n above

  asks_fresh : (p : Path) (req : ℕ) (a : ℕ × Ask) (e : Coord) → IsRooted c p → Fresh e → Fresh (asks_node p req a e).part
  asks_fresh p req a e rooted q = on_fresh p (with_went (record { path = uids_of p; node = a.0; invoke = is_invoke_ask a.1 })) e rooted q

  pieces : Fresh c → Pieces c Fresh
  pieces fresh = record {
    start = fresh;
    end_tree = λ u how e q n above. q n above;
    idle = λ u e q. work_fresh u (λ (d : Doing). record d { now = Idle }) e q;
    took = λ u ns e q. work_fresh u (λ (d : Doing). record d { took = ns }) e q;
    commits = λ u m e planned q. work_fresh u _ e q;
    asks = λ p req a e rooted q. asks_fresh p req a e rooted q;
    decides = λ p e rooted q. on_fresh p.path (root_after p) e rooted q;
    telling = λ i e q n above. q n above;
  }

  goes_fresh : (s : Steps) (e : Coord) → IsRooted c s.path → Fresh e → Fresh (goes_on s e).part
  goes_fresh s e rooted q = let f = on_doing (actor s.path) (λ (d : Doing). record d { req = s.req; now = Calling s }) e in
      asks_fresh s.path s.req (next_node s, next_ask (ends_of (root_of s.path) f.tree) s) f rooted
      (work_fresh (actor s.path) (λ (d : Doing). record d { req = s.req; now = Calling s }) e q)

  step_fresh : (s : Steps) (n : CallStep) (e : Coord) → IsRooted c s.path → Fresh e → Fresh (step_call s n e).part
  step_fresh s (On at) e rooted q = goes_fresh (record s { req = s.req + 1; at = at }) e rooted q
  step_fresh s (Ended g) e rooted q = by g
    where
      told : Coord
      told = on_root (root_of s.path) (root_heard s g) (on_doing (actor s.path) (λ (d : Doing). record d { now = Idle }) e)

      its : Fresh told
      its = on_fresh s.path (root_heard s g) (on_doing (actor s.path) (λ (d : Doing). record d { now = Idle }) e) rooted
          (work_fresh (actor s.path) (λ (d : Doing). record d { now = Idle }) e q)

      by : (h : CallEnd) → Fresh (doomed_by (actor s.path) h told)
      by (calls.Answered a) = its
      by (calls.Included st) = its
      by (calls.Conflict h x n) = its
      by (calls.Changed n w) = its
      by (calls.Lost n false) = its
      by (calls.Lost n true) = λ n above. its n above

  rooted_step : (s : Steps) → IsStep c s → IsRooted c s.path
  rooted_step s step = let a = step.asking in (actor s.path, a.branch, a.found, a.path)

  heard_fresh : (r : Reply) (s : Steps) → Fresh c → IsStep c s → Fresh (heard_call s r c).part
  heard_fresh r s fresh step =
      let m = answered (is_free (root_of s.path) (actor s.path) s.x c) (kept_at s c) s.goal s.at r in
      step_fresh s m.step (on_root (root_of s.path) (root_moved s r m) c) (rooted_step s step)
      (on_fresh s.path (root_moved s r m) c (rooted_step s step) fresh)

  lost_fresh : (s : Steps) → Fresh c → IsStep c s → Fresh (give_up_call s c).part
  lost_fresh s fresh step = step_fresh s (given_up s.at) (on_root (root_of s.path) (root_lost s (given_up s.at)) c) (rooted_step s step)
      (on_fresh s.path (root_lost s (given_up s.at)) c (rooted_step s step) fresh)

  call_fresh : (b : Branch) (x : ℕ) (o : Op) → branch_of (actor b.path) c.tree ≡ Some b → Fresh c → Fresh (call b.path x o c).part
  call_fresh b x o found fresh =
      let p = b.path in
      let r = root_at (root_of p) c in
      let old = keeping_of x r in
      let h = renewed (is_free (root_of p) (actor p) x c) old old.kept in
      let rooted : IsRooted c p = (actor p, b, found, refl) in
      goes_fresh (call_steps p x o (next_req (actor p) c) r c h)
      (on_root (root_of p) (with_keeping x h) (record c { tree = uses_object p x c.tree })) rooted
      (on_fresh p (with_keeping x h) (record c { tree = uses_object p x c.tree }) rooted fresh)

  include_fresh : (b : Branch) (x s : ℕ) → branch_of (actor b.path) c.tree ≡ Some b → Fresh c → Fresh (include b.path x s c).part
  include_fresh b x s found fresh = goes_fresh (start b.path x (calls.Include s) None unbound (next_req (actor b.path) c))
      (record c { tree = uses_object b.path x c.tree }) (actor b.path, b, found, refl) fresh

  -- a tree with as many actions
  to_roots : (e : Coord) → GoesOn c e → Fresh e → HasNoRoots e
  to_roots e on fresh n above = fresh n (subst (λ l. l < n) on.branches above)

pub roots_kept : (R : BoundReply → Type 0) → IsKept (answers_so R) HasNoRoots
roots_kept R = record {
  says = λ c q to h a sent. tt;
  new = λ node inc telling n above. refl;
  hears = λ sent k c place from a r intents fits given fresh.
      let g = place.good in
      to_roots sent k c place (heard from a r intents c).part
      (well_heard place.actions (paths_of place.actions) (begun_tree place.actions place.begun) from a r intents c place.good).0
      (heard_so sent k c place (Fresh sent k c place) (pieces sent k c place fresh) from a r intents fits
      (λ s step on who. heard_fresh sent k c place r s fresh step));
  acks = λ sent k c place from u intents fresh. to_roots sent k c place (acked from u intents c).part
      (well_acked place.actions (paths_of place.actions) (begun_tree place.actions place.begun) from u intents c).0
      (acked_so sent k c place (Fresh sent k c place) (pieces sent k c place fresh) from u intents);
  does = λ sent k c place intents hd i none other fresh.
      to_roots sent k c place (acts i intents c).part (well_acts place.actions (paths_of place.actions)
      (begun_tree place.actions place.begun) intents c place.good (let f = place.faithful in f.works) hd i none other).0
      (acts_so sent k c place (Fresh sent k c place) (pieces sent k c place fresh) hd i intents none other
      (λ b x o found free. call_fresh sent k c place b x o found fresh)
      (λ b x s found free. include_fresh sent k c place b x s found fresh) (λ s step. lost_fresh sent k c place s fresh step));
  begins = λ sent k c place l how parent may none fresh n above.
      fresh n (less n (length c.tree.branches) (length-append c.tree.branches _) above);
  asks = λ sent k c place fresh. to_roots sent k c place (again_all c.doings c).part (well_again place.actions (paths_of place.actions)
      (begun_tree place.actions place.begun) c place.good).0 (again_so sent k c place (Fresh sent k c place) (pieces sent k c place fresh));
}
  where
    less : {m : ℕ} (n l : ℕ) → m ≡ l + 1 → m < n → l < n
    less n l is above = omega (arith, is, above)
