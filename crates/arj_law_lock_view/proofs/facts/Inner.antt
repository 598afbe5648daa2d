-- The ends that a coordinator lists, and that its commits bring, are of actions that stand below others.
use Rattle.arj_law_parts.proofs.Words
use Words.{◌≡◌, ◌⊎◌, ◌∙◌, ◌≤◌, ◌+◌, ◌||◌, ℕ, zero, suc, Bool, true, false, cond, nat_le, List, [], ◌∷◌, ◌++◌, length, Option, Some, None}
use Words.{refl, sym, ap, subst, inl, inr, ⊎_elim, arith, Contains, uid_same, in_from, in_to, BoundReply, End, Kind, Label, Op, Path, Uid}
use Words.{uid_eq, uids_of, actor, again_all, begin_action, call, call_steps, doomed_by, goes_on, heard, include, kept_at, next_req}
use Words.{renewed, root_heard, root_lost, root_moved, step_call, CallEnd, CallStep, Ended, On, Steps, answered, given_up, start, Machine}
use Words.{plan_of, Calling, Committing, Coord, Doing, Idle, Now, Root, doing_of, is_free, keeping_of, new_coord, on_doing, on_root}
use Words.{root_at, with_keeping, acked, unbound, acts, parent_of, Branch, Family, Tree, at_place, branch_of, doomed_at, ended_at}
use Words.{ended_branch, ends_of, family_of, is_own, next_uid, path_below, root_of, uses_object, with_family, Post}
use Words.list
use Words.calls
use Rattle.arj_law_lock_view.proofs.Terms
use Terms.{on_cases, IsBusy, IsVoting, has_end_of, IsSameTree, doomed_same, on_tree, uses_same, after as ended_tree, get_more, grown_cases}
use Terms.{not_yet, end_tree_on, KnowsEnds}
use Rattle.arj_law_lock_view.proofs.facts
use facts.{Kept.IsKept, Kept.Place, Kept.answers_so}
use facts.Pieces.{IsPlanned, Pieces, acked_so, acts_so, again_so, heard_so}
use Rattle.arj_law_parts.proofs.parts.GoodTrees.{marked, same_ends, same_or_not, ends_by_number, ends_elsewhere, ends_there, was_there}
use Rattle.arj_law_runs.proofs.coordinators.CoordUses.{some_is}

-- these ends are of inner actions of the tree
abbrev pub Inner : Tree → List (Uid × End) → Type 0
Inner t es = (u : Uid) (e : End) (b : Branch) → list.In (u, e) es → branch_of u t ≡ Some b → 2 ≤ length (uids_of b.path)

in_either : {A : Type 0} (a b : A) (xs : List A) → list.In a (xs ++ b ∷ []) → list.In a xs ⊎ (b ≡ a)
in_either a b [] (inl same) = inr same
in_either a b [] (inr i) = absurd i
in_either a b (x ∷ xs) (inl same) = inl (inl same)
in_either a b (x ∷ xs) (inr i) = ⊎_elim (λ old. inl (inr old)) (λ new. inr new) (in_either a b xs i)

-- an action that ends is listed where it stands below another one
listed_cases : (u : Uid) (e : End) (t : Tree) (b : Branch) (found : branch_of u t ≡ Some b) (r w : Uid) (how : End) →
    list.In (w, how) (ends_of r (ended_tree u e t b found)) → list.In (w, how) (ends_of r t) ⊎ ((w ≡ u) × (2 ≤ length (uids_of b.path)))
listed_cases u e t b found r w how = by (nat_le (length (uids_of b.path)) 1) refl (same_or_not r.num (root_of b.path).num)
  where
    m : Tree
    m = marked u e t b found

    f : Family
    f = let g = family_of (root_of b.path) m in record g { ends = g.ends ++ (u, e) ∷ [] }

    long : (n : ℕ) → nat_le n 1 ≡ false → 2 ≤ n
    long n is = grind (arith, is)

    new : nat_le (length (uids_of b.path)) 1 ≡ false → list.In (w, how) (ends_of r t ++ (u, e) ∷ []) →
        list.In (w, how) (ends_of r t) ⊎ ((w ≡ u) × (2 ≤ length (uids_of b.path)))
    new is i = ⊎_elim (λ old. inl old) (λ same. inr (ap (λ (z : Uid × End). z.0) (sym same), long (length (uids_of b.path)) is))
        (in_either (w, how) (u, e) (ends_of r t) i)

    by : (c : Bool) → nat_le (length (uids_of b.path)) 1 ≡ c → (r.num ≡ (root_of b.path).num) ⊎ (r.num ≡ (root_of b.path).num → ⊥) →
        list.In (w, how) (ends_of r (cond c m (with_family (root_of b.path) f m))) →
        list.In (w, how) (ends_of r t) ⊎ ((w ≡ u) × (2 ≤ length (uids_of b.path)))
    by true is s i = inl i
    by false is (inl same) i = new is (subst (list.In (w, how))
        (ends_there (root_of b.path) f m r same ∙ ap (λ es. es ++ (u, e) ∷ []) (ends_by_number (root_of b.path) r t (sym same))) i)
    by false is (inr other) i = inl (subst (list.In (w, how)) (ends_elsewhere (root_of b.path) f m r other) i)

module _ (sent : List Post) (k : ℕ) (c : Coord) (place : Place sent k c) where
  -- seen in the first tree, whose actions stay where they are
  record Ends (e : Coord) : Type 0 where
    lists : (root : Uid) → Inner c.tree (ends_of root e.tree)
    plans : (u : Uid) (d : Doing) (m : Machine) → doing_of u e ≡ Some d → d.now ≡ Committing m → Inner c.tree (plan_of m).ends
    was : (u : Uid) (b : Branch) → branch_of u e.tree ≡ Some b → (a : Branch) × (branch_of u c.tree ≡ Some a) × (a.path ≡ b.path)

  tree_so : (e : Coord) (v : Tree) → ((u : Uid) → is_own u v ≡ is_own u e.tree) → ((r w : Uid) (how : End) → list.In (w, how) (ends_of r v)
      → list.In (w, how) (ends_of r e.tree) ⊎ ((b : Branch) × (branch_of w e.tree ≡ Some b) × (2 ≤ length (uids_of b.path))))
      → ((u : Uid) (b : Branch) → branch_of u v ≡ Some b → (a : Branch) × (branch_of u e.tree ≡ Some a) × (a.path ≡ b.path)) → Ends e →
      Ends (record e { tree = v })
  tree_so e v own listed back q = record {
    lists = λ r w how b i found. ⊎_elim (λ old. q.lists r w how b old found) (λ new. let a = q.was w new.0 new.1 in subst (λ (p : Path). 2
        ≤ length (uids_of p)) (sym a.2 ∙ ap (λ (z : Branch). z.path) (some_is a.0 b (sym a.1 ∙ found))) new.2) (listed r w how i);
    plans = λ u d m found is. q.plans u d m ((λ i. cond (sym (own u) i) (at_place u.num e.doings) None) ∙ found) is;
    was = λ u b found. let a = back u b found in let z = q.was u a.0 a.1 in (z.0, z.1, z.2 ∙ a.2);
  }

  same_so : (e : Coord) (v : Tree) → IsSameTree e.tree v → Ends e → Ends (record e { tree = v })
  same_so e v same q = tree_so e v same.own (λ r w how i. inl (subst (list.In (w, how)) (same.ends r) i))
      (λ u b found. let a = same.back u b found in (a.0, a.1, a.2)) q

  end_so : (u : Uid) (how : End) (e : Coord) → Ends e → Ends (record e { tree = ended_at u how e.tree })
  end_so u how e q = by (branch_of u e.tree) refl
    where
      by : (o : Option Branch) → branch_of u e.tree ≡ o → Ends (record e { tree = ended_branch u how e.tree o })
      by None is = record { lists = q.lists; plans = q.plans; was = q.was }
      by (Some b) is = tree_so e (ended_branch u how e.tree (Some b))
          (λ w. sym (λ i. is_own w (ended_branch u how e.tree (is i))) ∙ (end_tree_on u how e).own w)
          (λ r w f i. ⊎_elim (λ old. inl old) (λ new. inr (b, ap (λ v. branch_of v e.tree) new.0 ∙ is, new.1))
          (listed_cases u how e.tree b is r w f i)) (λ w a found. was_there u how e.tree b is w a found) q

  work_so : (u : Uid) (f : Doing → Doing) (e : Coord) → ((d : Doing) (m : Machine) → doing_of u e ≡ Some d → (f d).now ≡ Committing m →
      Inner c.tree (plan_of m).ends) → Ends e → Ends (on_doing u f e)
  work_so u f e its q = record {
    lists = λ r. subst (λ t. Inner c.tree (ends_of r t)) (sym (on_tree u f e)) (q.lists r);
    plans = λ w d m found is. ⊎_elim (λ same. its same.1 m (ap (λ v. doing_of v e) (sym same.0) ∙ same.2)
        (ap (λ (z : Doing). z.now) same.3 ∙ is)) (λ other. q.plans w d m other.1 is) (on_cases u f e w d found);
    was = λ w b found. q.was w b (ap (branch_of w) (sym (on_tree u f e)) ∙ found);
  }

  idle_so : (u : Uid) (e : Coord) → Ends e → Ends (on_doing u (λ (d : Doing). record d { now = Idle }) e)
  idle_so u e q = work_so u (λ (d : Doing). record d { now = Idle }) e (λ d m found is. absurd (cc is)) q

  root_so : (r : Uid) (f : Root → Root) (e : Coord) → Ends e → Ends (on_root r f e)
  root_so r f e q = record { lists = q.lists; plans = q.plans; was = q.was }

  planned_so : Ends c → (u : Uid) (m : Machine) → IsPlanned c u (plan_of m) → Inner c.tree (plan_of m).ends
  planned_so q u m (inl w) = subst (Inner c.tree) (sym w.ends) (q.plans u w.doing w.machine w.found w.now)
  planned_so q u m (inr w) = subst (Inner c.tree) (sym w.ends) (q.lists (root_of (let b = w.branch in b.path)))

  pieces : Ends c → Pieces c Ends
  pieces q = record {
    start = q;
    end_tree = end_so;
    idle = idle_so;
    took = λ u ns e z. work_so u (λ (d : Doing). record d { took = ns }) e (λ d m found is. z.plans u d m found is) z;
    commits = λ u m e planned z. work_so u (λ (d : Doing). record d { req = (plan_of m).req; now = Committing m }) e
        (λ d n found is. subst (λ (x : Machine). Inner c.tree (plan_of x).ends) (machine_is is) (planned_so q u m planned)) z;
    asks = λ p req a e rooted z. record { lists = z.lists; plans = z.plans; was = z.was };
    decides = λ p e rooted z. record { lists = z.lists; plans = z.plans; was = z.was };
    telling = λ i e z. record { lists = z.lists; plans = z.plans; was = z.was };
  }
    where
      machine_is : {m n : Machine} → Committing m ≡ Committing n → m ≡ n
      machine_is is = cc

  goes_so : (s : Steps) (e : Coord) → Ends e → Ends (goes_on s e).part
  goes_so s e q =
      let z = work_so (actor s.path) (λ (d : Doing). record d { req = s.req; now = Calling s }) e (λ d m found is. absurd (cc is)) q in
      record { lists = z.lists; plans = z.plans; was = z.was }

  step_so : (s : Steps) (n : CallStep) (e : Coord) → Ends e → Ends (step_call s n e).part
  step_so s (On at) e q = goes_so (record s { req = s.req + 1; at = at }) e q
  step_so s (Ended g) e q = by g
    where
      told : Coord
      told = on_root (root_of s.path) (root_heard s g) (on_doing (actor s.path) (λ (d : Doing). record d { now = Idle }) e)

      its : Ends told
      its = root_so (root_of s.path) (root_heard s g) (on_doing (actor s.path) (λ (d : Doing). record d { now = Idle }) e)
          (idle_so (actor s.path) e q)

      by : (h : CallEnd) → Ends (doomed_by (actor s.path) h told)
      by (calls.Answered a) = its
      by (calls.Included st) = its
      by (calls.Conflict h x n) = its
      by (calls.Changed n w) = its
      by (calls.Lost n false) = its
      by (calls.Lost n true) = same_so told (doomed_at (actor s.path) told.tree) (doomed_same (actor s.path) told.tree) its

  call_so : (b : Branch) (x : ℕ) (o : Op) → Ends c → Ends (call b.path x o c).part
  call_so b x o q =
      let p = b.path in
      let r = root_at (root_of p) c in
      let old = keeping_of x r in
      let h = renewed (is_free (root_of p) (actor p) x c) old old.kept in
      let u : Coord = record c { tree = uses_object p x c.tree } in
      goes_so (call_steps p x o (next_req (actor p) c) r c h) (on_root (root_of p) (with_keeping x h) u)
      (root_so (root_of p) (with_keeping x h) u (same_so c (uses_object p x c.tree) (uses_same p x c.tree) q))

  include_so : (b : Branch) (x s : ℕ) → Ends c → Ends (include b.path x s c).part
  include_so b x s q = goes_so (start b.path x (calls.Include s) None unbound (next_req (actor b.path) c))
      (record c { tree = uses_object b.path x c.tree }) (same_so c (uses_object b.path x c.tree) (uses_same b.path x c.tree) q)

  from_known : KnowsEnds c → Ends c
  from_known knows = record {
    lists = λ r u e b i found. knows.lists r u e b (in_to (u, e) (ends_of r c.tree) i) found;
    plans = λ u d m found is w e b i at. knows.plans u d m found is w e b (in_to (w, e) (plan_of m).ends i) at;
    was = λ u b found. (b, found, refl);
  }

  to_known : (e : Coord) → Ends e → KnowsEnds e
  to_known e q = record {
    lists = λ r u how b i found. let a = q.was u b found in
        subst (λ (p : Path). 2 ≤ length (uids_of p)) a.2 (q.lists r u how a.0 (in_from (u, how) (ends_of r e.tree) i) a.1);
    plans = λ u d m found is w how b i at. let a = q.was w b at in
        subst (λ (p : Path). 2 ≤ length (uids_of p)) a.2 (q.plans u d m found is w how a.0 (in_from (w, how) (plan_of m).ends i) a.1);
  }

  -- an action begins
  begin_so : (l : Label) (how : Kind) (parent : Option Label) → KnowsEnds c →
      KnowsEnds (begin_action l how parent (parent_of parent c) c).part
  begin_so l how parent knows = record {
    lists = λ r u e b i found. ⊎_elim (λ old. knows.lists r u e b (subst (λ es. Contains es (u, e)) (same_ends how p c.tree r) i) old)
        (λ new. absurd (listed r u e new.0 (in_from (u, e) (ends_of r c.tree)
        (subst (λ es. Contains es (u, e)) (same_ends how p c.tree r) i)))) (grown_cases how p c.tree u b found);
    plans = λ u d m found is w e b i at. by u d m w e b (was (is_own u c.tree) u.num d found) is i at;
  }
    where
      p : Path
      p = path_below how (parent_of parent c) (next_uid c.tree)

      fresh : Doing
      fresh = record { label = l; req = 0; now = Idle; took = [] }

      has_it : (u : Uid) (e : End) (es : List (Uid × End)) → list.In (u, e) es → has_end_of u es ≡ true
      has_it u e [] i = absurd i
      has_it u e (x ∷ xs) (inl same) =
          ap (λ v. uid_eq v u || has_end_of u xs) (ap (λ (z : Uid × End). z.0) same) ∙ (λ i. uid_same u i || has_end_of u xs)
      has_it u e (x ∷ xs) (inr i) = more (uid_eq x.0 u) (has_it u e xs i)
        where
          more : (b : Bool) → has_end_of u xs ≡ true → (b || has_end_of u xs) ≡ true
          more true h = refl
          more false h = h

      listed : (r u : Uid) (e : End) → u ≡ next_uid c.tree → list.In (u, e) (ends_of r c.tree) → ⊥
      listed r u e same i = let g = place.good in let o = g.tree.lists.over r u (has_it u e (ends_of r c.tree) i) in let no_way : ◌≡◌ {A =
          Option Branch} None (Some o.0) = sym (not_yet how p c.tree) ∙ ap (λ x. branch_of x c.tree) (sym same) ∙ o.1 in cc no_way

      was : (b : Bool) (j : ℕ) (d : Doing) → cond b (at_place j (c.doings ++ fresh ∷ [])) None ≡ Some d →
          (cond b (at_place j c.doings) None ≡ Some d) ⊎ (d.now ≡ Idle)
      was true zero d at = absurd (cc at)
      was true (suc j) d at = ⊎_elim (λ old. inl old) (λ its. inr (ap (λ (z : Doing). z.now) (sym its.1))) (get_more j fresh d c.doings at)
      was false j d at = absurd (cc at)

      by : (u : Uid) (d : Doing) (m : Machine) (w : Uid) (e : End) (b : Branch) → (doing_of u c ≡ Some d) ⊎ (d.now ≡ Idle) →
          d.now ≡ Committing m → Contains (plan_of m).ends (w, e) →
          branch_of w (begin_action l how parent (parent_of parent c) c).part.tree ≡ Some b → 2 ≤ length (uids_of b.path)
      by u d m w e b (inr idle) is i at = let no_way : ◌≡◌ {A = Now} Idle (Committing m) = sym idle ∙ is in absurd (cc no_way)
      by u d m w e b (inl found) is i at =
          ⊎_elim (λ old. knows.plans u d m found is w e b i old) (λ new. absurd (brought new.0)) (grown_cases how p c.tree w b at)
        where
          brought : w ≡ next_uid c.tree → ⊥
          brought same =
              let v : IsVoting c.tree u (plan_of m) = subst (IsBusy c.tree u) is (let g = place.good in g.busy u d found) in
              let o = v.over w (has_it w e (plan_of m).ends (in_from (w, e) (plan_of m).ends i)) in
              let no_way : ◌≡◌ {A = Option Branch} None (Some o.0) = sym (not_yet how p c.tree) ∙ ap (λ x. branch_of x c.tree) (sym same)
              ∙ o.1 in cc no_way

pub ends_kept : (R : BoundReply → Type 0) → IsKept (answers_so R) KnowsEnds
ends_kept R = record {
  says = λ c q to h a sent. tt;
  new = λ node inc telling. record {
    lists = λ r u e b i found. absurd (in_from (u, e) [] i);
    plans = λ u d m found is w e b i at. absurd (no_doing node inc u d found);
  };
  hears = λ sent k c place from a r intents fits given knows. let q = from_known sent k c place knows in
      to_known sent k c place (heard from a r intents c).part
      (heard_so sent k c place (Ends sent k c place) (pieces sent k c place q) from a r intents fits (λ s step on who. step_so sent k c
      place s (answered (is_free (root_of s.path) (actor s.path) s.x c) (kept_at s c) s.goal s.at r).step (on_root (root_of s.path)
      (root_moved s r (answered (is_free (root_of s.path) (actor s.path) s.x c) (kept_at s c) s.goal s.at r)) c) (root_so sent k c place
      (root_of s.path) (root_moved s r (answered (is_free (root_of s.path) (actor s.path) s.x c) (kept_at s c) s.goal s.at r)) c q)));
  acks = λ sent k c place from u intents knows. to_known sent k c place (acked from u intents c).part
      (acked_so sent k c place (Ends sent k c place) (pieces sent k c place (from_known sent k c place knows)) from u intents);
  does = λ sent k c place intents hd i none other knows. let q = from_known sent k c place knows in
      to_known sent k c place (acts i intents c).part (acts_so sent k c place (Ends sent k c place) (pieces sent k c place q) hd i intents
      none other (λ b x o found free. call_so sent k c place b x o q) (λ b x s found free. include_so sent k c place b x s q)
      (λ s step. step_so sent k c place s (given_up s.at) (on_root (root_of s.path) (root_lost s (given_up s.at)) c)
      (root_so sent k c place (root_of s.path) (root_lost s (given_up s.at)) c q)));
  begins = λ sent k c place l how parent may none knows. begin_so sent k c place l how parent knows;
  asks = λ sent k c place knows. to_known sent k c place (again_all c.doings c).part
      (again_so sent k c place (Ends sent k c place) (pieces sent k c place (from_known sent k c place knows)));
}
  where
    no_doing : (node inc : ℕ) (u : Uid) (d : Doing) → doing_of u (new_coord node inc) ≡ Some d → ⊥
    no_doing node inc u d is = by (is_own u (let c = new_coord node inc in c.tree)) u.num is
      where
        by : (x : Bool) (j : ℕ) → cond x (at_place j []) None ≡ Some d → ⊥
        by true zero e = cc e
        by true (suc j) e = cc e
        by false j e = cc e
