-- A commit in which something survives asks somebody, and what coordinators have of that is kept in every run.
use Rattle.arj_law_parts.proofs.Words
use Words.{◌≡◌, ◌≢◌, ◌⊎◌, ◌∙◌, ◌≤◌, ℕ, zero, suc, ◌&&◌, ◌||◌, Bool, true, false, cond, not, List, [], ◌∷◌, ◌++◌, map, filter, length, refl}
use Words.{sym, ap, subst, inl, inr, ⊎_elim, arith, Option, Some, None, unwrap_or, is_some, list_any, flat_map, match_ordering, nat_cmp}
use Words.{Ordering, Less, Equal, Greater, or_cases, or_parts, before_last, front, last_uid, uid_is, uid_same, In, in_from, on_front}
use Words.{Branch, Tree, behind, branch_of, ended_at, ended_so, has_end, has_open_child, is_aborted, is_committed, is_merged, open_below}
use Words.{root_of, End, Path, is_on, uid_eq, uids_of, Reply, actor, asks_all, asks_node, call, commit_action, commit_open, commit_top}
use Words.{commits_in, give_up, give_up_doing, gives_up, heard, heard_by, heard_call, heard_doing, heard_none, heard_now, include}
use Words.{is_invoke_ask, kept_at, last_req, moved_commit, root_lost, root_moved, step_commit, waits_for_call, waits_for_commit, answered}
use Words.{given_up, Intent, Served, Input, acts as acts_of, branch_named, commit_reasons, on_branch, refusal_up, refused_by, Aborts, Asks}
use Words.{CommitStep, Confirming, Decides, Machine, Plan, Preparing, Stays, Used, Voting, begin_confirm, begin_prepare, begin_vote}
use Words.{has_record, marks_store, marks_stores, participants, plan_of, servers_of, stores_left, targets_of, votes_left, Calling}
use Words.{Committing, Coord, Doing, Idle, Joined, Now, Root, Said, Went, counts, doing_of, is_free, is_retained, joined_in, no_root}
use Words.{objects_in, on_doing, on_root, plan_for, root_at, said_in, used_of, with_went, abort_action, aborts_with, all_aborted, decide}
use Words.{ended, root_after, at_number, number_set, put_uid, with_number, without_number, Ask, Asked, Header, Kind, Label, Uid}
use Words.ending
use Words.kind
use Words.input
use Words.commit
use Words.cause
use Words.voted
use Words.prepared
use Words.confirmed
use Rattle.arj_law_runs.proofs.Terms
use Terms.{path_some, HasLists, Action, IsAsking, IsBusy, IsGoodCoord, IsVoting, IsTree, Paths, named_found, off, off_third, IsStepOf}
use Terms.{actor_is, answer_step, giveup_step, vote_step, voting_at, all_over, at_u, ended_b, shorter, IsCut}
use Rattle.arj_law_runs.proofs.coordinators
use coordinators.CoordUses.{Any, Uses, ended_cut, ended_tree_is, moved_keeps, on_roots, some_is, uses_call, uses_ended, uses_include}
use coordinators.CoordUses.{uses_on, uses_root, uses_step_call, uses_took, went_keeps}
use Rattle.arj_law_runs.specs.coordinators.Uses.{IsUsed}
use Rattle.std.specs.BTreeSet.{insert_key}

never : {P : Type 0} {b : Bool} → b ≡ true → b ≡ false → P
never holds fails = let no_way : true ≡ false = sym holds ∙ fails in absurd (cc no_way)

-- ---- a plan that uses something

abbrev pub IsUsing : Plan → Type 0
IsUsing p = p.used ≢ []

-- the step uses something, and who decides asks somebody
abbrev pub IsStepUsing : CommitStep → Type 0
IsStepUsing (Stays m) = IsUsing (plan_of m)
IsStepUsing (Asks m) = IsUsing (plan_of m)
IsStepUsing (Decides p) = participants p ≢ []
IsStepUsing (Aborts why p) = Unit {0}

inserted : (n : ℕ) (ns : List ℕ) → insert_key nat_cmp ns n ≡ [] → ⊥
inserted n [] is = cc is
inserted n (m ∷ ms) is = by (nat_cmp n m) is
  where
    by : (r : Ordering) → match_ordering r (n ∷ m ∷ ms) (m ∷ ms) (m ∷ insert_key nat_cmp ms n) ≡ [] → ⊥
    by Less e = cc e
    by Equal e = cc e
    by Greater e = cc e

some_set : (xs : List ℕ) (n : ℕ) → number_set (xs ++ n ∷ []) ≢ []
some_set [] n is = inserted n [] is
some_set (x ∷ xs) n is = inserted x (number_set (xs ++ n ∷ [])) is

confirm_uses : (p : Plan) → IsUsing p → IsStepUsing (begin_confirm p.used p)
confirm_uses p uses = by p.used refl
  where
    by : (us : List Used) → p.used ≡ us → IsStepUsing (begin_confirm us p)
    by [] none = absurd (uses none)
    by (u ∷ us) is = uses

prepare_uses : (ns : List ℕ) (p : Plan) → IsUsing p → IsStepUsing (begin_prepare ns p)
prepare_uses [] p uses = confirm_uses p uses
prepare_uses (n ∷ ns) p uses = uses

votes_use : (ns : List ℕ) (p : Plan) → IsUsing p → IsStepUsing (votes_left ns p)
votes_use [] p uses = prepare_uses (targets_of p) p uses
votes_use (n ∷ ns) p uses = uses

stores_use : (ns : List ℕ) (p : Plan) → IsUsing p → IsStepUsing (stores_left ns p).step
stores_use [] p uses = confirm_uses p uses
stores_use (n ∷ ns) p uses = uses

marks_use : (ns : List ℕ) (p : Plan) → IsUsing p → IsUsing (marks_stores ns p)
marks_use [] p uses = uses
marks_use (n ∷ ns) p uses = marks_use ns (marks_store n p) uses

answer_uses : (from : ℕ) (m : Machine) (r : Reply) → IsUsing (plan_of m) → IsStepUsing (commit.answered from m r).step
answer_uses from (Voting p left) (Reply.Voted (voted.Yes states)) uses =
    votes_use (without_number from left) (record p { changed = _ }) uses
answer_uses from (Voting p left) (Reply.Voted (voted.Changed w)) uses = tt
answer_uses from (Voting p left) (Reply.Bound r) uses = uses
answer_uses from (Voting p left) (Reply.Loaded r) uses = uses
answer_uses from (Voting p left) (Reply.Activated r) uses = uses
answer_uses from (Voting p left) (Reply.Noted r) uses = uses
answer_uses from (Voting p left) (Reply.Invoked r) uses = uses
answer_uses from (Voting p left) (Reply.Prepared r) uses = uses
answer_uses from (Voting p left) (Reply.Confirmed r) uses = uses
answer_uses from (Preparing p left) (Reply.Prepared prepared.Yes) uses =
    stores_use (without_number from left) (record p { prepared = with_number from p.prepared }) uses
answer_uses from (Preparing p left) (Reply.Prepared (prepared.InDoubt x holder)) uses =
    stores_use (without_number from left) (marks_store from p) uses
answer_uses from (Preparing p left) (Reply.Prepared (prepared.Old x v)) uses = tt
answer_uses from (Preparing p left) (Reply.Bound r) uses = uses
answer_uses from (Preparing p left) (Reply.Loaded r) uses = uses
answer_uses from (Preparing p left) (Reply.Activated r) uses = uses
answer_uses from (Preparing p left) (Reply.Noted r) uses = uses
answer_uses from (Preparing p left) (Reply.Invoked r) uses = uses
answer_uses from (Preparing p left) (Reply.Voted r) uses = uses
answer_uses from (Preparing p left) (Reply.Confirmed r) uses = uses
answer_uses from (Confirming p) (Reply.Confirmed confirmed.Yes) uses = some_set (servers_of p ++ p.prepared) 1
answer_uses from (Confirming p) (Reply.Confirmed (confirmed.Conflict holder m)) uses = tt
answer_uses from (Confirming p) (Reply.Confirmed (confirmed.Changed w)) uses = tt
answer_uses from (Confirming p) (Reply.Confirmed (confirmed.NoStores x)) uses = tt
answer_uses from (Confirming p) (Reply.Confirmed (confirmed.Listed x s)) uses = tt
answer_uses from (Confirming p) (Reply.Bound r) uses = uses
answer_uses from (Confirming p) (Reply.Loaded r) uses = uses
answer_uses from (Confirming p) (Reply.Activated r) uses = uses
answer_uses from (Confirming p) (Reply.Noted r) uses = uses
answer_uses from (Confirming p) (Reply.Invoked r) uses = uses
answer_uses from (Confirming p) (Reply.Voted r) uses = uses
answer_uses from (Confirming p) (Reply.Prepared r) uses = uses

giveup_uses : (m : Machine) → IsUsing (plan_of m) → IsStepUsing (commit.given_up m).step
giveup_uses (Voting p left) uses = tt
giveup_uses (Preparing p left) uses = stores_use [] (marks_stores left p) (marks_use left p uses)
giveup_uses (Confirming p) uses = tt

-- as a commit begins: what uses nothing decides at once
start_uses : (p : Plan) → IsStepUsing (commit.start p).step ⊎ ((p.used ≡ []) × ((commit.start p).step ≡ Decides p))
start_uses p = by p.used refl
  where
    by : (us : List Used) → p.used ≡ us → IsStepUsing (commit.start p).step ⊎ ((p.used ≡ []) × ((commit.start p).step ≡ Decides p))
    by (u ∷ us) is = inl (vote (servers_of p))
      where
        uses : IsUsing p
        uses none = cc (sym is ∙ none)

        vote : (ns : List ℕ) → IsStepUsing (begin_vote ns p)
        vote [] = prepare_uses (targets_of p) p uses
        vote (n ∷ ns) = uses
    by [] none = inr (
      none,
      ap (λ ns. begin_vote ns p) servers ∙ ap (λ ns. begin_prepare ns p) targets ∙ ap (λ (vs : List Used). begin_confirm vs p) none,
    )
      where
        servers : servers_of p ≡ []
        servers = ap (λ (vs : List Used). number_set (map (λ (u : Used). u.server) (filter (λ (u : Used). u.called) vs))) none

        targets : targets_of p ≡ []
        targets = ap (λ (vs : List Used). number_set (flat_map (λ (u : Used). commit.stores_by u (commit.changed_of u.x p)) vs)) none

-- ---- what is behind an action on a path

-- a path is its front, and the last of it
front_last : (us : List Uid) → 1 ≤ length us → us ≡ front us ++ last_uid us ∷ []
front_last [] some = absurd (omega (arith, some))
front_last (v ∷ []) some = refl
front_last (v ∷ w ∷ us) some = ap (λ vs. v ∷ vs) (front_last (w ∷ us) (omega arith))

before_is : (us : List Uid) (a : Uid) → is_on (front us) a ≡ true → before_last us ≡ Some (last_uid (front us))
before_is [] a on = absurd (cc on)
before_is (u ∷ []) a on = absurd (cc on)
before_is (u ∷ w ∷ []) a on = refl
before_is (u ∷ w ∷ v ∷ us) a on = before_is (w ∷ v ∷ us) w (ap (λ b. b || is_on (front (v ∷ us)) w) (uid_same w))

or_false : (b : Bool) → (b || false) ≡ true → b ≡ true
or_false true is = refl
or_false false is = is

-- behind an action with one more at the end of the path
behind_more : (us : List Uid) (u v w : Uid) → is_on (behind u (us ++ v ∷ [])) w ≡ true →
    (is_on us u ≡ true) × ((is_on (behind u us) w ≡ true) ⊎ (w ≡ v))
behind_more [] u v w on = absurd (one (uid_eq v u) on)
  where
    one : (b : Bool) → is_on (cond b [] []) w ≡ true → ⊥
    one true e = cc e
    one false e = cc e
behind_more (x ∷ us) u v w on = by (uid_eq x u) (λ e. behind_more us u v w e) on
  where
    more : (vs : List Uid) → is_on (vs ++ v ∷ []) w ≡ true → (is_on vs w ≡ true) ⊎ (w ≡ v)
    more [] e = inr (sym (uid_is v w (or_false (uid_eq v w) e)))
    more (y ∷ vs) e = ⊎_elim (λ here. inl (ap (λ b. b || is_on vs w) here)) (λ rest. ⊎_elim (λ old.
        inl (or_right (uid_eq y w) (is_on vs w) old)) (λ last. inr last) (more vs rest)) (or_cases (uid_eq y w) (is_on (vs ++ v ∷ []) w) e)
      where
        or_right : (a b : Bool) → b ≡ true → (a || b) ≡ true
        or_right true b is = refl
        or_right false b is = is

    by : (b : Bool) → (is_on (behind u (us ++ v ∷ [])) w ≡ true → (is_on us u ≡ true) × ((is_on (behind u us) w ≡ true) ⊎ (w ≡ v))) →
        is_on (cond b (us ++ v ∷ []) (behind u (us ++ v ∷ []))) w ≡ true →
        ((b || is_on us u) ≡ true) × ((is_on (cond b us (behind u us)) w ≡ true) ⊎ (w ≡ v))
    by true ih e = (refl, more us e)
    by false ih e = ih e

module _ (paths : Paths) (tree : IsTree paths) (t : Tree) (lists : HasLists paths t) where
  -- who is behind an action on a path is below it
  pub behind_below : (u : Uid) (k : ℕ) (v : Uid) (b : Branch) → length (paths v) ≤ k → branch_of v t ≡ Some b → (w : Uid) →
      is_on (behind u (paths v)) w ≡ true → (d : Branch) × (branch_of w t ≡ Some d) × (is_on (paths w) u ≡ true) × (w ≢ u)
  behind_below u zero v b short found w on = absurd (none (paths v) short on)
    where
      none : (us : List Uid) → length us ≤ 0 → is_on (behind u us) w ≡ true → ⊥
      none [] le e = cc e
      none (x ∷ us) le e = absurd (omega (arith, le))
  behind_below u (suc k) v b short found w on =
      let last : last_uid (paths v) ≡ v = ap last_uid (sym (lists.paths_are v b found)) ∙ lists.places v b found in
      let whole : paths v ≡ front (paths v) ++ v ∷ [] = front_last (paths v)
      (subst (λ us. 1 ≤ length us) (lists.paths_are v b found) (path_some b.path)) ∙ ap (λ x. front (paths v) ++ x ∷ []) last in
      let m = behind_more (front (paths v)) u v w (ap (λ us. is_on (behind u us) w) (sym whole) ∙ on) in
      let p = before_is (paths v) u m.0 in
      let h = last_uid (front (paths v)) in
      let q = tree.heir v h p in
      let up = lists.parents v h b found p in
      ⊎_elim
      (λ old.
      behind_below u k h up.0 (shorter paths tree t lists v h k p q.0 short) up.1 w (ap (λ us. is_on (behind u us) w) (sym q.0) ∙ old))
      (λ same. (
        b,
        ap (λ x. branch_of x t) same ∙ found,
        ap (λ x. is_on (paths x) u) same ∙ on_front (paths v) u m.0,
        λ is. never (ap (is_on (front (paths v))) (sym same ∙ is) ∙ m.0) q.1,
      )) m.1

-- ---- a commit that uses nothing

list_of_set : (ns : List ℕ) → number_set ns ≡ [] → ns ≡ []
list_of_set [] is = refl
list_of_set (n ∷ ns) is = absurd (inserted n (number_set ns) is)

no_map : {A B : Type 0} (f : A → B) (xs : List A) → map f xs ≡ [] → xs ≡ []
no_map f [] is = refl
no_map f (x ∷ xs) is = cc is

no_more : {A : Type 0} (xs ys : List A) → xs ++ ys ≡ [] → (xs ≡ []) × (ys ≡ [])
no_more [] ys is = (refl, is)
no_more (x ∷ xs) ys is = cc is

none_passes : {A : Type 0} (p : A → Bool) (x : A) (xs : List A) → filter p xs ≡ [] → In x xs → p x ≡ false
none_passes p x [] none i = absurd i
none_passes {A} p x (y ∷ ys) none i = by (p y) refl none (none_passes p x ys) i
  where
    by : (b : Bool) → p y ≡ b → cond b (y ∷ filter p ys) (filter p ys) ≡ [] → (filter p ys ≡ [] → In x ys → p x ≡ false) → In x (y ∷ ys) →
        p x ≡ false
    by true t e ih j = cc e
    by false t e ih (inl same) = ap p (sym same) ∙ t
    by false t e ih (inr j) = ih e j

module _ (acts : List Action) (paths : Paths) (tree : IsTree paths) (c : Coord) (good : IsGoodCoord acts paths c) (k : Uses Any c) where
  -- what is below a top that uses nothing was cut off
  nothing_left : (b : Branch) (u : Uid) → branch_of u c.tree ≡ Some b → has_open_child u c.tree ≡ false →
      objects_in u (root_at (root_of b.path) c) c ≡ []
      → (us : List Uid) → IsUsed us (root_at (root_of b.path) c) → is_on us u ≡ true → IsCut c.tree u us
  nothing_left b u found childless none us i on = cut (merged (is_merged u us c.tree) refl)
    where
      r : Root
      r = root_at (root_of b.path) c

      both : (said_in u r c ≡ []) × (joined_in u r c ≡ [])
      both =
          let two = no_more (map (λ (s : Said). s.x) (said_in u r c)) (map (λ (j : Joined). j.x) (joined_in u r c))
          (list_of_set (map (λ (s : Said). s.x) (said_in u r c) ++ map (λ (j : Joined). j.x) (joined_in u r c)) none) in
          (no_map (λ (s : Said). s.x) (said_in u r c) two.0, no_map (λ (j : Joined). j.x) (joined_in u r c) two.1)

      off_it : counts u us c ≡ false
      off_it = by i
        where
          by : IsUsed us r → counts u us c ≡ false
          by (inl (s, there, is)) =
              ap (λ vs. counts u vs c) (sym is) ∙ none_passes (λ (x : Said). counts u x.path c) s r.said both.0 (in_from s r.said there)
          by (inr (j, there, is)) = ap (λ vs. counts u vs c) (sym is)
              ∙ none_passes (λ (x : Joined). counts u x.path c) j r.joined both.1 (in_from j r.joined there)

      merged : (x : Bool) → is_merged u us c.tree ≡ x → is_merged u us c.tree ≡ false
      merged false is = is
      merged true is =
          let s : (is_on us u && is_merged u us c.tree) ≡ false =
          (or_parts (is_on us u && is_merged u us c.tree) (is_retained us c) off_it).0 in
          let no_way : true ≡ false = sym (λ j. on j && is j) ∙ s in absurd (cc no_way)

      -- one of those behind it isn't committed
      first : (ws : List Uid) → not (list_any (λ w. not (is_committed w c.tree)) ws) ≡ false →
          (w : Uid) × (is_on ws w ≡ true) × (is_committed w c.tree ≡ false)
      first [] is = absurd (cc is)
      first (w ∷ ws) is = by (is_committed w c.tree) refl is (first ws)
        where
          by : (x : Bool) → is_committed w c.tree ≡ x → not (not x || list_any (λ w. not (is_committed w c.tree)) ws) ≡ false →
              (not (list_any (λ w. not (is_committed w c.tree)) ws) ≡ false → (w : Uid) × (is_on ws w ≡ true)
              × (is_committed w c.tree ≡ false)) → (v : Uid) × (is_on (w ∷ ws) v ≡ true) × (is_committed v c.tree ≡ false)
          by false e f ih = (w, ap (λ b. b || is_on ws w) (uid_same w), e)
          by true e f ih = let n = ih f in (n.0, right (uid_eq w n.0) (is_on ws n.0) n.1, n.2)
            where
              right : (a b : Bool) → b ≡ true → (a || b) ≡ true
              right true b is = refl
              right false b is = is

      cut : is_merged u us c.tree ≡ false → IsCut c.tree u us
      cut is =
          let w = first (behind u us) is in
          let p = k.paths (root_of b.path) us i in
          let l = good.tree.lists in
          let same : us ≡ paths p.0 = p.3 ∙ l.paths_are p.0 p.1 p.2 in
          let d = behind_below paths tree c.tree l u (length (paths p.0)) p.0 p.1 (omega arith) p.2 w.0
          (ap (λ vs. is_on (behind u vs) w.0) (sym same) ∙ w.1) in
          let over = all_over paths tree c.tree l u good.tree.closed childless w.0 d.0 d.1
          (ap (λ vs. is_on vs u) (l.paths_are w.0 d.0 d.1) ∙ d.2) d.3 in
          (w.0, w.1, aborted w.0 d.0 d.1 over w.2)
        where
          aborted : (w : Uid) (d : Branch) → branch_of w c.tree ≡ Some d → is_some d.ended ≡ true → is_committed w c.tree ≡ false →
              is_aborted w c.tree ≡ true
          aborted w d at over isnt = ap (ended_so ending.Abort) at ∙ by d.ended over (ap (ended_so ending.Commit) (sym at) ∙ isnt)
            where
              by : (o : Option End) → is_some o ≡ true → has_end ending.Commit o ≡ false → has_end ending.Abort o ≡ true
              by None e f = absurd (cc e)
              by (Some ending.Commit) e f = absurd (cc f)
              by (Some ending.Abort) e f = refl

  -- a top is decided
  uses_decide : (p : Plan) → IsAsking c.tree (actor p.path) p.path → (participants p ≡ [] → (us : List Uid) →
      IsUsed us (root_at (root_of p.path) c) → is_on us (actor p.path) ≡ true → IsCut c.tree (actor p.path) us) → Uses Any (decide p c).part
  uses_decide p a its = by (has_record p)
    where
      u : Uid
      u = actor p.path

      e : Coord
      e = ended (actor p.path) ending.Commit c

      took : Coord
      took = on_doing (actor p.path) (λ (d : Doing). record d { took = participants p }) (ended (actor p.path) ending.Commit c)

      r : Coord
      r = on_root (root_of p.path) (root_after p) took

      opened : (b : Branch) → branch_of (actor p.path) c.tree ≡ Some b → b.ended ≡ None
      opened b at = by_it b.ended (ap (λ (d : Branch). is_some d.ended) (some_is b a.branch (sym at ∙ a.found)) ∙ a.opened)
        where
          by_it : (o : Option End) → is_some o ≡ false → o ≡ None
          by_it None is = refl
          by_it (Some x) is = absurd (cc is)

      but : Uses (λ w. w ≢ actor p.path) (ended (actor p.path) ending.Commit c)
      but = uses_ended (λ w. w ≢ actor p.path) (actor p.path) ending.Commit c
          (λ b at. (inr (opened b at), inr (inr (inr (λ isnt. isnt refl)))))
          (record { paths = k.paths; plans = k.plans; alone = λ w so. k.alone w tt })

      its_took : Uses Any took
      its_took = uses_took (actor p.path) (participants p) e
          (λ b at none us i on.
          let tree_is = ended_tree_is (actor p.path) ending.Commit c a.branch a.found in
          let same : ended_b (actor p.path) ending.Commit c.tree a.branch a.found ≡ b = some_is
          (ended_b (actor p.path) ending.Commit c.tree a.branch a.found) b
          (sym (at_u (actor p.path) ending.Commit c.tree a.branch a.found) ∙ ap (branch_of (actor p.path)) (sym tree_is) ∙ at) in
          let path : b.path ≡ p.path = ap (λ (d : Branch). d.path) (sym same) ∙ a.path in
          ended_cut (actor p.path) ending.Commit c a.branch a.found (inr (opened a.branch a.found)) (actor p.path) us
          (its none us (subst (λ q. IsUsed us (root_at (root_of q) c)) path
          (subst (λ rs. IsUsed us (unwrap_or (at_number (root_of b.path).num rs) no_root)) (on_roots (actor p.path)
          (λ (d : Doing). record d { now = Idle }) (record c { tree = ended_at (actor p.path) ending.Commit c.tree })) i)) on))
          but

      its_root : Uses Any r
      its_root = uses_root Any (root_of p.path) (root_after p) took (record { said = λ q. refl; joined = λ q. refl }) its_took

      by : (x : Bool) →
          Uses Any (cond x (record r { telling = put_uid u (record { root = root_of p.path; nodes = participants p }) r.telling }) r)
      by true = record {
        paths = its_root.paths;
        plans = its_root.plans;
        alone = λ w so q. its_root.alone w so (record {
          branch = q.branch;
          doing = q.doing;
          found = q.found;
          does = q.does;
          committed = q.committed;
          unnested = q.unnested;
          unserial = q.unserial;
          took = q.took;
        });
      }
      by false = its_root

-- ---- what a coordinator does and hears

pub uses_asks : (p : Path) (req : ℕ) (asked : List (ℕ × Ask)) (c : Coord) → Uses Any c → Uses Any (asks_all p req asked c).part
uses_asks p req [] c k = k
uses_asks p req (a ∷ rest) c k =
    let went : Went = record { path = uids_of p; node = a.0; invoke = is_invoke_ask a.1 } in
    let d = asks_node p req a c in
    uses_asks p req rest d.part (uses_root Any (root_of p) (with_went went) c (went_keeps went) k)

module _ (acts : List Action) (paths : Paths) (tree : IsTree paths) where
  abbrev Good : Coord → Type 0
  Good c = IsGoodCoord acts paths c

  uses_commits_in : (u : Uid) (m : Machine) (c : Coord) → IsUsing (plan_of m) → Uses Any c → Uses Any (commits_in u m c)
  uses_commits_in u m c uses k = uses_on Any u (λ (d : Doing). record d { req = (plan_of m).req; now = Committing m }) c
      (λ d. (refl, λ n is. inr (subst (λ x. IsUsing (plan_of x)) (same m n is) uses))) k
    where
      same : (m n : Machine) → Committing m ≡ Committing n → m ≡ n
      same m n is = let k : ◌≡◌ {A = Now} (Committing m) (Committing n) = is in cc

  uses_abort : (u : Uid) (c : Coord) → Uses Any c → Uses Any (ended u ending.Abort c)
  uses_abort u c k = uses_ended Any u ending.Abort c (λ b at. (inl refl, inl refl)) k

  -- who commits by a plan goes on by its path
  asks_as : (c : Coord) (u : Uid) (p q : Plan) → Good c → IsVoting c.tree u p → q.path ≡ p.path → IsAsking c.tree (actor q.path) q.path
  asks_as c u p q good v same = let a = v.asking in subst (λ x. IsAsking c.tree (actor x) x) (sym same)
      (subst (λ w. IsAsking c.tree w p.path) (sym (actor_is acts paths tree u p.path c good a)) a)

  uses_step_commit : (u : Uid) (p : Plan) (s : CommitStep) (intents : List (Uid × Intent)) (c : Coord) → Good c → IsVoting c.tree u p →
      IsStepOf acts paths tree p s → IsStepUsing s → Uses Any c → Uses Any (step_commit u s intents c).part
  uses_step_commit u p (Stays m) intents c good v same uses k = uses_commits_in u m c uses k
  uses_step_commit u p (Asks m) intents c good v same uses k =
      uses_asks (plan_of m).path (plan_of m).req (commit.waiting m) (commits_in u m c) (uses_commits_in u m c uses k)
  uses_step_commit u p (Decides q) intents c good v same uses k =
      uses_decide acts paths tree c good k q (asks_as c u p q good v same.0) (λ none. absurd (uses none))
  uses_step_commit u p (Aborts why q) intents c good v same uses k = uses_abort u c k

  all_uses : (us : List Uid) (c : Coord) → Uses Any c → Uses Any (all_aborted us c).part
  all_uses [] c k = k
  all_uses (u ∷ us) c k = all_uses us (ended u ending.Abort c) (uses_abort u c k)

  uses_commit : (b : Branch) (intents : List (Uid × Intent)) (c : Coord) → Good c → branch_of (actor b.path) c.tree ≡ Some b →
      is_some b.ended ≡ false → has_open_child (actor b.path) c.tree ≡ false → Uses Any c → Uses Any (commit_action b intents c).part
  uses_commit b intents c good found opened none k = by b.doomed
    where
      is_open_b : (d : Branch) → branch_of (actor b.path) c.tree ≡ Some d → d.ended ≡ None
      is_open_b d at = by_it d.ended (ap (λ (x : Branch). is_some x.ended) (some_is d b (sym at ∙ found)) ∙ opened)
        where
          by_it : (o : Option End) → is_some o ≡ false → o ≡ None
          by_it None is = refl
          by_it (Some x) is = absurd (cc is)

      plain : (b.kind ≡ kind.Nested) ⊎ (b.kind ≡ kind.Serial) → Uses Any (ended (actor b.path) ending.Commit c)
      plain how =
          uses_ended Any (actor b.path) ending.Commit c (λ d at. (inr (is_open_b d at), inr (kinds d (some_is d b (sym at ∙ found)) how))) k
        where
          kinds : (d : Branch) → d ≡ b → (b.kind ≡ kind.Nested) ⊎ (b.kind ≡ kind.Serial) →
              (d.kind ≡ kind.Nested) ⊎ (d.kind ≡ kind.Serial) ⊎ (Any (actor b.path) → ⊥)
          kinds d same (inl n) = inl (ap (λ (x : Branch). x.kind) same ∙ n)
          kinds d same (inr s) = inr (inl (ap (λ (x : Branch). x.kind) same ∙ s))

      plan : Plan
      plan = plan_for b.path (last_req (doing_of (actor b.path) c)) (root_at (root_of b.path) c) c

      top : b.kind ≢ kind.Serial → b.kind ≢ kind.Nested → Uses Any (commit_top b.path intents c).part
      top unserial unnested = ⊎_elim
          (λ uses. uses_step_commit (actor b.path) plan (commit.start plan).step intents c good voting
          (vote_step acts paths tree (servers_of plan) plan plan (refl, refl)) uses k)
          (λ nothing. subst (λ s. Uses Any (step_commit (actor b.path) s intents c).part) (sym nothing.1)
          (uses_decide acts paths tree c good k plan voting.asking (λ none_took us i on. nothing_left acts paths tree c good k b
          (actor b.path) found none (no_map (used_of (actor b.path) (root_at (root_of b.path) c) c)
          (objects_in (actor b.path) (root_at (root_of b.path) c) c) nothing.0) us i on)))
          (start_uses plan)
        where
          voting : IsVoting c.tree (actor b.path) plan
          voting = voting_at acts paths tree b c found opened none unserial unnested good

      kinds : (h : Kind) → b.kind ≡ h → Uses Any (commit_open b intents c h).part
      kinds kind.Nested is = plain (inl is)
      kinds kind.Serial is = plain (inr is)
      kinds kind.Top is = top (λ e. absurd (cc (sym is ∙ e))) (λ e. absurd (cc (sym is ∙ e)))
      kinds kind.Independent is = top (λ e. absurd (cc (sym is ∙ e))) (λ e. absurd (cc (sym is ∙ e)))
      kinds kind.Constituent is = top (λ e. absurd (cc (sym is ∙ e))) (λ e. absurd (cc (sym is ∙ e)))

      by : (x : Bool) → Uses Any (cond x (aborts_with (actor b.path) cause.Doomed intents c) (commit_open b intents c b.kind)).part
      by true = uses_abort (actor b.path) c k
      by false = kinds b.kind refl

  asking_is : (c : Coord) (u : Uid) (p : Path) → Good c → IsAsking c.tree u p → IsAsking c.tree (actor p) p
  asking_is c u p good a = subst (λ w. IsAsking c.tree w p) (sym (actor_is acts paths tree u p c good a)) a

  pub uses_heard : (from : ℕ) (a : Asked) (r : Reply) (intents : List (Uid × Intent)) (c : Coord) → Good c → Uses Any c →
      Uses Any (heard from a r intents c).part
  uses_heard from a r intents c good k = by (doing_of a.act c) refl
    where
      now : (d : Doing) → doing_of a.act c ≡ Some d → (n : Now) → d.now ≡ n → IsBusy c.tree a.act n →
          Uses Any (heard_now from a r intents c n).part
      now d at Idle is b = k
      now d at (Calling s) is b = one (waits_for_call from a r s)
        where
          one : (w : Bool) → Uses Any (cond {A = Served Coord (Unit {0})} w (heard_by (heard_call s r c)) (heard_none c)).part
          one true =
              let m = answered (is_free (root_of s.path) (actor s.path) s.x c) (kept_at s c) s.goal s.at r in
              uses_step_call acts paths tree s m.step (root_moved s r m) c (moved_keeps s r m) good (asking_is c a.act s.path good b) k
          one false = k
      now d at (Committing m) is b = one (waits_for_commit from a r m)
        where
          one : (w : Bool) → Uses Any (cond {A = Served Coord (Unit {0})} w
              (heard_by (moved_commit a.act (commit.answered from m r) intents c)) (heard_none c)).part
          one true = uses_step_commit a.act (plan_of m) (commit.answered from m r).step intents c good b
              (answer_step acts paths tree from m r) (answer_uses from m r (k.plans a.act d m at is)) k
          one false = k

      by : (o : Option Doing) → doing_of a.act c ≡ o → Uses Any (heard_doing from a r intents c o).part
      by None is = k
      by (Some d) is = now d is d.now refl (good.busy a.act d is)

  uses_give_up : (u : Uid) (intents : List (Uid × Intent)) (c : Coord) → Good c → Uses Any c → Uses Any (give_up u intents c).part
  uses_give_up u intents c good k = by (doing_of u c) refl
    where
      now : (d : Doing) → doing_of u c ≡ Some d → (n : Now) → d.now ≡ n → IsBusy c.tree u n → Uses Any (gives_up u intents c n).part
      now d at Idle is b = k
      now d at (Calling s) is b = uses_step_call acts paths tree s (given_up s.at) (root_lost s (given_up s.at)) c
          (record { said = λ q. refl; joined = λ q. refl }) good (asking_is c u s.path good b) k
      now d at (Committing m) is b = uses_step_commit u (plan_of m) (commit.given_up m).step intents c good b
          (giveup_step acts paths tree m) (giveup_uses m (k.plans u d m at is)) k

      by : (o : Option Doing) → doing_of u c ≡ o → Uses Any (give_up_doing u intents c o).part
      by None is = k
      by (Some d) is = now d is d.now refl (good.busy u d is)

  pub uses_acts : (intents : List (Uid × Intent)) (c : Coord) → Good c → Uses Any c → (hd : Header) (i : Input) → refusal_up hd i c ≡ None →
      ((l : Label) (h : Kind) (parent : Option Label) → i ≡ input.Begin l h parent → ⊥) → Uses Any (acts_of i intents c).part
  uses_acts intents c good k hd (input.Begin l h parent) none other = absurd (other l h parent refl)
  uses_acts intents c good k hd (input.Call l x o) none other = by (branch_named l c)
    where
      by : (f : Option Branch) → Uses Any (on_branch (λ b. call b.path x o c) c f).part
      by None = k
      by (Some b) = uses_call b.path x o c k
  uses_acts intents c good k hd (input.Include l x s) none other = by (branch_named l c)
    where
      by : (f : Option Branch) → Uses Any (on_branch (λ b. include b.path x s c) c f).part
      by None = k
      by (Some b) = uses_include b.path x s c k
  uses_acts intents c good k hd (input.Commit l) none other = by (branch_named l c) refl none
    where
      by : (f : Option Branch) → branch_named l c ≡ f → refused_by commit_reasons c f ≡ None →
          Uses Any (on_branch (λ b. commit_action b intents c) c f).part
      by None is e = k
      by (Some b) is e = uses_commit b intents c good (named_found acts paths tree intents c good l b is) (off (commit_reasons b c) e).0
          (off_third (commit_reasons b c) e) k
  uses_acts intents c good k hd (input.Abort l) none other = by (branch_named l c)
    where
      by : (f : Option Branch) → Uses Any (on_branch (λ b. abort_action (actor b.path) intents c) c f).part
      by None = k
      by (Some b) = all_uses (open_below (actor b.path) c.tree ++ actor b.path ∷ []) c k
  uses_acts intents c good k hd (input.GiveUp l) none other = by (branch_named l c)
    where
      by : (f : Option Branch) → Uses Any (on_branch (λ b. give_up (actor b.path) intents c) c f).part
      by None = k
      by (Some b) = uses_give_up (actor b.path) intents c good k
  uses_acts intents c good k hd (input.Frame n from m) none other = k
  uses_acts intents c good k hd input.Tick none other = k
  uses_acts intents c good k hd input.Restart none other = k
  uses_acts intents c good k hd input.Crash none other = k
  uses_acts intents c good k hd (input.Show x) none other = k
