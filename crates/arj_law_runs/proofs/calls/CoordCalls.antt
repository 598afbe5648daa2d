-- Calls and includes leave a coordinator with what it has to know of calls.
use Rattle.arj_law_parts.proofs.Words
use Words.{◌≡◌, ◌⊎◌, ◌≤◌, ◌<◌, ◌==◌, ◌||◌, ℕ, List, [], ◌∷◌, ◌++◌, Bool, true, false, cond, Option, Some, None, refl, sym, ◌∙◌, ap, subst}
use Words.{inl, inr, ⊎_elim, arith, unwrap_or, list_any, and_parts, eqb-true, uid_is, Uid, InvokedReply, Op, Path, Answer, last_uid, uid_eq}
use Words.{uids_of, writes, Reply, actor, reply_kind, doomed_by, is_invoke_ask, root_heard, At, AtBind, AtLoad, AtActivate, AtNote}
use Words.{AtInvoke, CallEnd, Ended, Goal, Include, Known, Moved, Run, Steps, answered, ask_at, next_ask, next_node, Machine, Calling}
use Words.{Committing, Coord, Doing, Idle, Keeping, Now, Root, Said, Went, doing_of, kept_of, no_keeping, no_root, on_doing, on_root}
use Words.{root_at, same_said, same_went, with_keeping, with_said, with_went, at_number, put_number, Branch, Tree, at_place, branch_of}
use Words.{doomed_at, doomed_branch, ends_of, root_of, put_same as put_number_same, put_other as put_number_other, one_or_two, Post}
use Words.list
use Words.invoked
use Words.calls
use Rattle.arj_law_runs.proofs.Terms
use Terms.{Action, IsAsking, IsGoodCoord, IsTree, Paths, doomed_same, Call, call_in, is_refusal, AreOfPaths, IsOver, IsOwn, IsTied}
use Terms.{IsTiedAt, KnowsCalls, head_of}
use Rattle.arj_law_runs.proofs.calls.CoordKnown.{doing_here, knows_of, paths_root, paths_same, roots_work, same_root, went_root, went_said}
use Rattle.arj_law_runs.proofs.calls.CoordSteps.{Goes, Knowing, goes_then, goes_tree, goes_work, knowing_on, own_back}
use Rattle.arj_law_runs.proofs.calls.CoordTrees.{KeepsDoom, doom_doomed, doom_is}
use Rattle.arj_law_runs.proofs.calls.ServerCalls.{never, some_is}

-- ---- what a root keeps

pub went_keeping : (w : Went) (q : Root) → (with_went w q).keeping ≡ q.keeping
went_keeping w q = by (list_any (same_went w) q.went)
  where
    by : (b : Bool) → (cond b q (record q { went = q.went ++ w ∷ [] })).keeping ≡ q.keeping
    by true = refl
    by false = refl

-- the object's keeping is put there
pub kept_put : (root : Uid) (x : ℕ) (k : Keeping) (q : Root) (c : Coord) →
    kept_of x (root_at root (on_root root (λ r. with_keeping x k q) c)) ≡ k.kept
kept_put root x k q c = ap (λ o. kept_of x (unwrap_or o no_root)) (put_number_same root.num (with_keeping x k q) c.roots)
    ∙ ap (λ o. (unwrap_or o no_keeping).kept) (put_number_same x k q.keeping)

pub kept_roots : (r : Uid) (x : ℕ) (c e : Coord) → e.roots ≡ c.roots → kept_of x (root_at r e) ≡ kept_of x (root_at r c)
kept_roots r x c e same = ap (λ (rs : List (ℕ × Root)). kept_of x (unwrap_or (at_number r.num rs) no_root)) same

-- another root, of which keepings are the same
pub kept_same : (root r : Uid) (x : ℕ) (f : Root → Root) (c : Coord) → (f (root_at root c)).keeping ≡ (root_at root c).keeping →
    kept_of x (root_at r (on_root root f c)) ≡ kept_of x (root_at r c)
kept_same root r x f c keeps = ⊎_elim
    (λ same. ap (λ n. kept_of x (unwrap_or (at_number n (put_number root.num (f (root_at root c)) c.roots)) no_root)) (sym same)
    ∙ ap (λ o. kept_of x (unwrap_or o no_root)) (put_number_same root.num (f (root_at root c)) c.roots)
    ∙ ap (λ m. (unwrap_or (at_number x m) no_keeping).kept) keeps ∙ ap (λ n. kept_of x (unwrap_or (at_number n c.roots) no_root)) same)
    (λ apart. ap (λ o. kept_of x (unwrap_or o no_root)) (put_number_other root.num r.num (f (root_at root c)) c.roots apart.0))
    (one_or_two root.num r.num)

pub root_of_same : (root : Uid) (f : Root → Root) (c : Coord) → root_at root (on_root root f c) ≡ f (root_at root c)
root_of_same root f c = ap (λ o. unwrap_or o no_root) (put_number_same root.num (f (root_at root c)) c.roots)

-- ---- answers to calls

-- the call that waits is at its Invoke
pub data IsInvoke (s : Steps) (k : Call) : Type 0 where
  AtIt : (known : Known) (i : ℕ) (o : Op) → s.at ≡ AtInvoke known i → s.goal ≡ Run o →
      k ≡ record { head = head_of s; x = s.x; binding = known.binding; inc = i; op = o } → IsInvoke s k

pub is_invoke : (s : Steps) (k : Call) → call_in (head_of s) (next_ask [] s) ≡ Some k → writes k.op ≡ true → IsInvoke s k
is_invoke s k is writing = by s.at refl s.goal refl is
  where
    by : (at : At) → s.at ≡ at → (g : Goal) → s.goal ≡ g → call_in (head_of s) (ask_at s.x g [] at) ≡ Some k → IsInvoke s k
    by (AtBind avoid) here g goal e = absurd (none_is e)
      where
        none_is : None ≡ Some k → ⊥
        none_is e = let no_way : ◌≡◌ {A = Option Call} None (Some k) = e in cc
    by (AtLoad z n rest) here g goal e = absurd (cc e)
    by (AtActivate z st) here g goal e = absurd (cc e)
    by (AtNote z i) here g goal e = absurd (cc e)
    by (AtInvoke z i) here (Run o) goal e = AtIt z i o here goal (sym (some_is e))
    by (AtInvoke z i) here (Include n) goal e = absurd (never writing (ap (λ (q : Call). writes q.op) (sym (some_is e))))

-- an answer of its kind ends it: it's done, or it's refused
pub data EndsIt (kept : Option Known) (r : Reply) (m : Moved) : Type 0 where
  Done : (a : Answer) → m ≡ record { step = Ended (calls.Answered a); kept = kept } → EndsIt kept r m
  NotDone : (q : InvokedReply) → r ≡ Reply.Invoked q → is_refusal q ≡ true → (e : CallEnd) → m.step ≡ Ended e → EndsIt kept r m

pub ends_it : (free : Bool) (kept : Option Known) (g : Goal) (k : Known) (i : ℕ) (r : Reply) → (reply_kind r == 5) ≡ true →
    EndsIt kept r (answered free kept g (AtInvoke k i) r)
ends_it free kept g k i (Reply.Invoked (invoked.Answered a)) is = Done a refl
ends_it free kept g k i (Reply.Invoked (invoked.Conflict h m)) is = NotDone (invoked.Conflict h m) refl refl _ refl
ends_it free kept g k i (Reply.Invoked (invoked.Changed w)) is = NotDone (invoked.Changed w) refl refl _ refl
ends_it free kept g k i (Reply.Bound r) is = absurd (cc is)
ends_it free kept g k i (Reply.Loaded r) is = absurd (cc is)
ends_it free kept g k i (Reply.Activated r) is = absurd (cc is)
ends_it free kept g k i (Reply.Noted r) is = absurd (cc is)
ends_it free kept g k i (Reply.Voted r) is = absurd (cc is)
ends_it free kept g k i (Reply.Prepared r) is = absurd (cc is)
ends_it free kept g k i (Reply.Confirmed r) is = absurd (cc is)

-- ---- what is heard

node_doomed : (u : Uid) (t : Tree) → (doomed_at u t).node ≡ t.node
node_doomed u t = by (branch_of u t)
  where
    by : (o : Option Branch) → (doomed_branch u t o).node ≡ t.node
    by None = refl
    by (Some b) = refl

-- a call that was lost dooms its action
doomed_goes : (t : Tree) (u : Uid) (e : CallEnd) (c : Coord) → Goes t u c (doomed_by u e c)
doomed_goes t u (calls.Answered a) c = goes_tree t u c c.tree refl (λ w. refl)
doomed_goes t u (calls.Included st) c = goes_tree t u c c.tree refl (λ w. refl)
doomed_goes t u (calls.Conflict h m n) c = goes_tree t u c c.tree refl (λ w. refl)
doomed_goes t u (calls.Changed n w) c = goes_tree t u c c.tree refl (λ w. refl)
doomed_goes t u (calls.Lost n false) c = goes_tree t u c c.tree refl (λ w. refl)
doomed_goes t u (calls.Lost n true) c = let q = doomed_same u c.tree in goes_tree t u c (doomed_at u c.tree) (node_doomed u c.tree) q.own

pub doomed_by_doom : (u : Uid) (e : CallEnd) (c : Coord) → KeepsDoom u c.tree (doomed_by u e c).tree
doomed_by_doom u (calls.Answered a) c = doom_is u c.tree c.tree refl
doomed_by_doom u (calls.Included st) c = doom_is u c.tree c.tree refl
doomed_by_doom u (calls.Conflict h m n) c = doom_is u c.tree c.tree refl
doomed_by_doom u (calls.Changed n w) c = doom_is u c.tree c.tree refl
doomed_by_doom u (calls.Lost n false) c = doom_is u c.tree c.tree refl
doomed_by_doom u (calls.Lost n true) c = doom_doomed u c.tree

-- it leaves work and roots
doomed_work : (u : Uid) (e : CallEnd) (c : Coord) → doing_of u (doomed_by u e c) ≡ doing_of u c
doomed_work u (calls.Answered a) c = refl
doomed_work u (calls.Included st) c = refl
doomed_work u (calls.Conflict h m n) c = refl
doomed_work u (calls.Changed n w) c = refl
doomed_work u (calls.Lost n false) c = refl
doomed_work u (calls.Lost n true) c = let q = doomed_same u c.tree in λ i. cond (q.own u i) (at_place u.num c.doings) None

doomed_roots : (u : Uid) (e : CallEnd) (c : Coord) → (doomed_by u e c).roots ≡ c.roots
doomed_roots u (calls.Answered a) c = refl
doomed_roots u (calls.Included st) c = refl
doomed_roots u (calls.Conflict h m n) c = refl
doomed_roots u (calls.Changed n w) c = refl
doomed_roots u (calls.Lost n false) c = refl
doomed_roots u (calls.Lost n true) c = refl

-- what is heard of a call: a root's answers grow by it at most, and what it keeps stays
pub heard_keeping : (s : Steps) (e : CallEnd) (r : Root) → (root_heard s e r).keeping ≡ r.keeping
heard_keeping s (calls.Answered a) r = by (list_any (same_said (record { path = uids_of s.path; x = s.x })) r.said)
  where
    by : (b : Bool) → (cond b r (record r { said = r.said ++ record { path = uids_of s.path; x = s.x } ∷ [] })).keeping ≡ r.keeping
    by true = refl
    by false = refl
heard_keeping s (calls.Included st) r = refl
heard_keeping s (calls.Conflict h m n) r = refl
heard_keeping s (calls.Changed n w) r = refl
heard_keeping s (calls.Lost n b) r = refl

in_first : {A : Type 0} (a : A) (xs ys : List A) → list.In a xs → list.In a (xs ++ ys)
in_first a [] ys i = absurd i
in_first a (x ∷ xs) ys (inl same) = inl same
in_first a (x ∷ xs) ys (inr i) = inr (in_first a xs ys i)

in_last : {A : Type 0} (a : A) (xs : List A) → list.In a (xs ++ a ∷ [])
in_last a [] = inl refl
in_last a (x ∷ xs) = inr (in_last a xs)

in_either : {A : Type 0} (a b : A) (xs : List A) → list.In a (xs ++ b ∷ []) → list.In a xs ⊎ (b ≡ a)
in_either a b [] (inl same) = inr same
in_either a b [] (inr i) = absurd i
in_either a b (x ∷ xs) (inl same) = inl (inl same)
in_either a b (x ∷ xs) (inr i) = ⊎_elim (λ old. inl (inr old)) (λ new. inr new) (in_either a b xs i)

heard_stays : (s : Steps) (e : CallEnd) (r : Root) (z : Said) → list.In z r.said → list.In z (root_heard s e r).said
heard_stays s (calls.Answered a) r z i = by (list_any (same_said (record { path = uids_of s.path; x = s.x })) r.said)
  where
    by : (b : Bool) → list.In z (cond b r (record r { said = r.said ++ record { path = uids_of s.path; x = s.x } ∷ [] })).said
    by true = i
    by false = in_first z r.said (record { path = uids_of s.path; x = s.x } ∷ []) i
heard_stays s (calls.Included st) r z i = i
heard_stays s (calls.Conflict h m n) r z i = i
heard_stays s (calls.Changed n w) r z i = i
heard_stays s (calls.Lost n b) r z i = i

heard_new : (s : Steps) (e : CallEnd) (r : Root) (z : Said) → list.In z (root_heard s e r).said →
    list.In z r.said ⊎ (record { path = uids_of s.path; x = s.x } ≡ z)
heard_new s (calls.Answered a) r z i = by (list_any (same_said (record { path = uids_of s.path; x = s.x })) r.said) i
  where
    by : (b : Bool) → list.In z (cond b r (record r { said = r.said ++ record { path = uids_of s.path; x = s.x } ∷ [] })).said →
        list.In z r.said ⊎ (record { path = uids_of s.path; x = s.x } ≡ z)
    by true j = inl j
    by false j = in_either z (record { path = uids_of s.path; x = s.x }) r.said j
heard_new s (calls.Included st) r z i = inl i
heard_new s (calls.Conflict h m n) r z i = inl i
heard_new s (calls.Changed n w) r z i = inl i
heard_new s (calls.Lost n b) r z i = inl i

-- the call is among what was answered, by its action and its object
pub heard_there : (s : Steps) (r : Root) → (z : Said) × list.In z (with_said (record { path = uids_of s.path; x = s.x }) r).said
    × (last_uid z.path ≡ last_uid (uids_of s.path)) × (z.x ≡ s.x)
heard_there s r = by (list_any (same_said (record { path = uids_of s.path; x = s.x })) r.said) refl
  where
    found : (zs : List Said) → list_any (same_said (record { path = uids_of s.path; x = s.x })) zs ≡ true →
        (z : Said) × list.In z zs × (last_uid z.path ≡ last_uid (uids_of s.path)) × (z.x ≡ s.x)
    found [] on = absurd (cc on)
    found (z ∷ zs) on = one (same_said (record { path = uids_of s.path; x = s.x }) z) refl on (found zs)
      where
        one : (b : Bool) → same_said (record { path = uids_of s.path; x = s.x }) z ≡ b → (b || list_any (same_said
            (record { path = uids_of s.path; x = s.x })) zs) ≡ true → (list_any (same_said (record { path = uids_of s.path; x = s.x })) zs
            ≡ true → (q : Said) × list.In q zs × (last_uid q.path ≡ last_uid (uids_of s.path)) × (q.x ≡ s.x)) →
            (q : Said) × list.In q (z ∷ zs) × (last_uid q.path ≡ last_uid (uids_of s.path)) × (q.x ≡ s.x)
        one true e h ih = let p = and_parts (uid_eq (last_uid (uids_of s.path)) (last_uid z.path)) (s.x == z.x) e in
            (z, inl refl, sym (uid_is (last_uid (uids_of s.path)) (last_uid z.path) p.0), sym (eqb-true s.x z.x p.1))
        one false e h ih = let f = ih h in (f.0, inr f.1, f.2, f.3)

    by : (b : Bool) → list_any (same_said (record { path = uids_of s.path; x = s.x })) r.said ≡ b →
        (z : Said) × list.In z (cond b r (record r { said = r.said ++ record { path = uids_of s.path; x = s.x } ∷ [] })).said
        × (last_uid z.path ≡ last_uid (uids_of s.path)) × (z.x ≡ s.x)
    by true on = found r.said on
    by false off = (record { path = uids_of s.path; x = s.x }, in_last (record { path = uids_of s.path; x = s.x }) r.said, refl, refl)

-- ---- one action of a coordinator

pub step_is : {s z : Steps} → Calling s ≡ Calling z → s ≡ z
step_is is = cc

pub not_both : {s : Steps} {m : Machine} → Calling s ≡ Committing m → ⊥
not_both {s} {m} is = let no_way : ◌≡◌ {A = Now} (Calling s) (Committing m) = is in absurd (cc no_way)

pub not_idle : {s : Steps} → Idle ≡ Calling s → ⊥
not_idle {s} is = let no_way : ◌≡◌ {A = Now} Idle (Calling s) = is in absurd (cc no_way)

pub idle_not : {m : Machine} → Idle ≡ Committing m → ⊥
idle_not {m} is = let no_way : ◌≡◌ {A = Now} Idle (Committing m) = is in absurd (cc no_way)

module _ (acts : List Action) (paths : Paths) (tree : IsTree paths) (sent : List Post) (c : Coord) (good : IsGoodCoord acts paths c)
    (knows : KnowsCalls paths sent c) where
  pub asking_path : (u : Uid) (p : Path) → IsAsking c.tree u p → uids_of p ≡ paths (last_uid (uids_of p))
  asking_path u p a = ap uids_of (sym a.path) ∙ good.tree.lists.paths_are u a.branch a.found
      ∙ ap paths (sym (ap actor (sym a.path) ∙ good.tree.lists.places u a.branch a.found))

  -- it goes on with a request
  module _ (s : Steps) (t : Coord) (Q : ℕ → Call → Type 0) (d : Doing) (first : doing_of (actor s.path) c ≡ Some d)
      (found : doing_of (actor s.path) t ≡ Some d) (less : d.req < s.req) where
    abbrev u : Uid
    u = actor s.path

    abbrev new : Doing → Doing
    new q = record q { req = s.req; now = Calling s }

    abbrev went : Went
    went = record {
      path = uids_of s.path;
      node = next_node s;
      invoke = is_invoke_ask (next_ask (ends_of (root_of s.path) (on_doing u new t).tree) s);
    }

    abbrev mid : Coord
    mid = on_doing u new t

    abbrev last : Coord
    last = on_root (root_of s.path) (with_went went) mid

    pub goes_known : Goes last.tree u c t → Knowing sent last.tree u Q t → ((to : ℕ) (k : Call) → IsOwn sent t to k → Q to k → ⊥) →
        IsTied t s → AreOfPaths paths t → KnowsCalls paths sent last
    goes_known g k none tied said =
        let g1 = goes_work last.tree u new t in
        let g2 = went_root last.tree u (root_of s.path) went mid in
        let g3 = goes_then last.tree u t mid last g1 g2 in
        knows_of paths sent u Q c last (goes_then last.tree u c t last g g3)
        (λ q at. (
          new d,
          doing_here u new t d found,
          inr (
            subst (λ (z : Doing). z.req ≤ s.req) (some_is (sym first ∙ at)) (number d.req s.req less),
            λ z now. subst (λ (y : Doing). y.req < s.req) (some_is (sym first ∙ at)) less,
          ),
        )) knows
        (knowing_on sent last.tree u Q t last g3 k) (λ to q o its. absurd (none to q (own_back sent t last g3.node g3.own to q o) its))
        (λ q z at now. let same : s ≡ z = step_is (ap (λ (y : Doing). y.now) (some_is (sym (doing_here u new t d found) ∙ at)) ∙ now) in
        subst (IsTied last) same
        (λ call. subst (λ o. IsTiedAt o s.at) (sym (kept_same (root_of s.path) (root_of s.path) s.x (with_went went) mid
        (went_keeping went (root_at (root_of s.path) mid)) ∙ kept_roots (root_of s.path) s.x t mid (roots_work u new t))) (tied call)))
        (λ q m at now. absurd (not_both (ap (λ (y : Doing). y.now) (some_is (sym (doing_here u new t d found) ∙ at)) ∙ now)))
        (paths_root paths (root_of s.path) (with_went went) mid (λ z i. inl (subst (λ zs. list.In z zs)
        (went_said went (root_at (root_of s.path) mid)) i)) (paths_same paths t mid (roots_work u new t) said))
      where
        number : (i j : ℕ) → i < j → i ≤ j
        number i j l = omega (arith, l)

  -- its call ends
  module _ (s : Steps) (e : CallEnd) (t : Coord) (Q : ℕ → Call → Type 0) (d : Doing) (asking : IsAsking c.tree (actor s.path) s.path)
      (first : doing_of (actor s.path) c ≡ Some d) (found : doing_of (actor s.path) t ≡ Some d) where
    abbrev who : Uid
    who = actor s.path

    abbrev idle : Coord
    idle = on_doing who (λ (q : Doing). record q { now = Idle }) t

    abbrev told : Coord
    told = on_root (root_of s.path) (root_heard s e) idle

    abbrev over : Coord
    over = doomed_by who e told

    pub told_said : AreOfPaths paths t → AreOfPaths paths told
    told_said said = paths_root paths (root_of s.path) (root_heard s e) idle (λ z i. ⊎_elim (λ old. inl old)
        (λ is. inr (subst (λ (y : Said). y.path ≡ paths (last_uid y.path)) is (asking_path who s.path asking))) (heard_new s e
        (root_at (root_of s.path) idle) z i)) (paths_same paths t idle (roots_work who (λ (q : Doing). record q { now = Idle }) t) said)

    pub ends_known : Goes over.tree who c t → Knowing sent over.tree who Q t → ((to : ℕ) (k : Call) → IsOwn sent over to k → Q to k →
        IsOver sent over.tree over to k) → AreOfPaths paths t → KnowsCalls paths sent over
    ends_known g k mine said =
        let v = over.tree in
        let g1 = goes_work v who (λ (q : Doing). record q { now = Idle }) t in
        let g2 = same_root v who (root_of s.path) (root_heard s e) idle (heard_stays s e (root_at (root_of s.path) idle))
        (heard_keeping s e (root_at (root_of s.path) idle)) in
        let g3 = goes_then v who t told over (goes_then v who t idle told g1 g2) (doomed_goes v who e told) in
        let here : doing_of who over ≡ Some (record d { now = Idle }) = doomed_work who e told
        ∙ doing_here who (λ (q : Doing). record q { now = Idle }) t d found in
        knows_of paths sent who Q c over (goes_then v who c t over g g3)
        (λ q at. (
          record d { now = Idle },
          here,
          inr (subst (λ (z : Doing). z.req ≤ d.req) (some_is (sym first ∙ at)) (omega arith), λ z now. absurd (not_idle now)),
        )) knows
        (knowing_on sent v who Q t over g3 k) (λ to q o its. inr (mine to q o its))
        (λ q z at now. absurd (not_idle (ap (λ (y : Doing). y.now) (some_is (sym here ∙ at)) ∙ now)))
        (λ q m at now. absurd (idle_not (ap (λ (y : Doing). y.now) (some_is (sym here ∙ at)) ∙ now)))
        (paths_same paths told over (doomed_roots who e told) (told_said said))
