-- Ends, commits and beginnings of actions leave a coordinator with what it has to know of calls.
use Rattle.arj_law_parts.proofs.Words
use Words.{◌≡◌, ◌⊎◌, ℕ, List, [], ◌∷◌, Bool, true, false, cond, Option, Some, None, refl, sym, ◌∙◌, ap, subst, inl, inr, ⊎_elim, arith}
use Words.{is_some, unwrap_or, uid_cases, Uid, End, is_on, uids_of, actor, Known, Steps, Machine, Plan, has_record, participants, Calling}
use Words.{Committing, Coord, Doing, Idle, Keeping, Root, change_doing, doing_of, kept_of, no_keeping, on_doing, on_root, root_at}
use Words.{all_aborted, decide, ended, keeping_after, kept_after, list_after, root_after, at_number, put_uid, Branch, Tree, at_place}
use Words.{branch_of, ended_at, ended_branch, is_own, root_of, Post}
use Words.ending
use Rattle.arj_law_runs.proofs.Terms
use Terms.{Paths, IsDecided, on_own, stand_ended, on_tree, at_others, at_u, ended_b, after, each_at, end_tree_on, node_on, Call, IsFree}
use Terms.{IsOver, IsOwn, IsWaiting, KnowsCalls, Spent}
use Rattle.arj_law_runs.proofs.calls
use calls.{CoordStarts.telling_known, ServerCalls.some_is}
use calls.CoordCalls.{idle_not, not_idle}
use calls.CoordKnown.{IsLaterWork, doing_here, knows_of, paths_root, paths_same, roots_work}
use calls.CoordSteps.{Goes, IsStill, KeepsAborts, Knowing, goes_root, goes_then, goes_tree, goes_work, knowing_of, knowing_on}
use calls.CoordTrees.{KeepsDoom, doom_ended, doom_is, doom_then}

-- ---- an end

pub aborts_ended : (u : Uid) (t : Tree) → KeepsAborts t (ended_at u ending.Abort t)
aborts_ended u t w d = by (branch_of u t) refl
  where
    by : (o : Option Branch) → branch_of u t ≡ o → IsDecided w ending.Abort (ended_branch u ending.Abort t o)
    by None none = d
    by (Some b) found = ⊎_elim (λ same. (
      ended_b u ending.Abort t b found,
      ap (λ z. branch_of z (after u ending.Abort t b found)) same ∙ at_u u ending.Abort t b found,
      refl,
    )) (λ other. (d.0, at_others u ending.Abort t b found w other ∙ d.1, d.2)) (uid_cases w u)

aborted_now : (u : Uid) (t : Tree) (b : Branch) → branch_of u t ≡ Some b → IsDecided u ending.Abort (ended_at u ending.Abort t)
aborted_now u t b found = subst (λ o. IsDecided u ending.Abort (ended_branch u ending.Abort t o)) (sym found)
    (ended_b u ending.Abort t b found, at_u u ending.Abort t b found, refl)

-- who waits is among the actions of the tree
abbrev pub WaitHere : Coord → Type 0
WaitHere c = (w : Uid) (d : Doing) (s : Steps) → doing_of w c ≡ Some d → d.now ≡ Calling s → (b : Branch) × (branch_of w c.tree ≡ Some b)

module _ (paths : Paths) (sent : List Post) where
  -- an action ends: by an abort, or by a commit while it waits for nothing and isn't doomed
  pub ended_known : (u : Uid) (e : End) (c : Coord) → KeepsAborts c.tree (ended_at u e c.tree) → (e ≡ ending.Commit → IsFree c.tree u) →
      ((d : Doing) (s : Steps) → doing_of u c ≡ Some d → d.now ≡ Calling s → IsDecided u ending.Abort (ended_at u e c.tree)) →
      KnowsCalls paths sent c → KnowsCalls paths sent (ended u e c)
  ended_known u e c aborts free waits knows =
      knows_of paths sent u Q c v g works knows k mine (λ d s at now. absurd (at_rest d at s now)) (λ d m at now.
      absurd (no_commit d at m now)) (paths_same paths mid v (roots_work u idle mid) (paths_same paths c mid refl knows.said))
    where
      idle : Doing → Doing
      idle d = record d { now = Idle }

      mid : Coord
      mid = record c { tree = ended_at u e c.tree }

      v : Coord
      v = ended u e c

      its_tree : (ended u e c).tree ≡ ended_at u e c.tree
      its_tree = on_tree u idle mid

      own : (w : Uid) → is_own w (ended_at u e c.tree) ≡ is_own w c.tree
      own w = (end_tree_on u e c).own w

      same_work : doing_of u mid ≡ doing_of u c
      same_work = λ i. cond (own u i) (at_place u.num c.doings) None

      g : Goes v.tree u c v
      g = goes_then v.tree u c mid v (goes_tree v.tree u c (ended_at u e c.tree) (sym (node_on c mid (end_tree_on u e c))) own)
          (goes_work v.tree u idle mid)

      Q : ℕ → Call → Type 0
      Q to k = IsWaiting c to k × (actor (let h = k.head in h.path) ≡ u)

      to_v : KeepsAborts c.tree v.tree
      to_v w d = subst (IsDecided w ending.Abort) (sym its_tree) (aborts w d)

      doom : KeepsDoom u c.tree v.tree
      doom = doom_then u c.tree (ended_at u e c.tree) v.tree (doom_ended u u e c.tree free)
          (doom_is u (ended_at u e c.tree) v.tree (sym its_tree))

      k : Knowing sent v.tree u Q v
      k = knowing_on sent v.tree u Q c v g (knowing_of paths sent v.tree u Q c to_v doom.doomed
          (λ w d m other at now f. doom.free w other f) (λ to q w same. (w, same)) knows)

      works : (d : Doing) → doing_of u c ≡ Some d → (q : Doing) × (doing_of u v ≡ Some q) × IsLaterWork d q
      works d at = (idle d, doing_here u idle mid d (same_work ∙ at), inr (omega arith, λ s now. absurd (not_idle now)))

      mine : (to : ℕ) (q : Call) → IsOwn sent v to q → Q to q → IsWaiting v to q ⊎ IsOver sent v.tree v to q
      mine to q o (w, same) = inr (Spent (
        u,
        ap (is_on (uids_of (let h = q.head in h.path))) (sym same) ∙ on_own (let h = q.head in h.path),
        subst (IsDecided u ending.Abort) (sym its_tree) (waits w.doing w.step (ap (λ z. doing_of z c) (sym same) ∙ w.found) w.now),
      ))

      here : (d : Doing) → doing_of u v ≡ Some d → d.now ≡ Idle
      here d at = by (doing_of u mid) refl at
        where
          by : (o : Option Doing) → doing_of u mid ≡ o → doing_of u (change_doing idle u mid o) ≡ Some d → d.now ≡ Idle
          by None none it = let no_way : ◌≡◌ {A = Option Doing} None (Some d) = sym none ∙ it in cc
          by (Some q) found it = ap (λ (z : Doing). z.now)
              (some_is (sym it ∙ sym (ap (λ o. doing_of u (change_doing idle u mid o)) found) ∙ doing_here u idle mid q found))

      at_rest : (d : Doing) → doing_of u v ≡ Some d → (s : Steps) → d.now ≡ Calling s → ⊥
      at_rest d at s now = not_idle (sym (here d at) ∙ now)

      no_commit : (d : Doing) → doing_of u v ≡ Some d → (m : Machine) → d.now ≡ Committing m → ⊥
      no_commit d at m now = idle_not (sym (here d at) ∙ now)

  -- these actions are aborted
  pub all_known : (us : List Uid) (c : Coord) → WaitHere c → KnowsCalls paths sent c → KnowsCalls paths sent (all_aborted us c).part
  all_known [] c here knows = knows
  all_known (u ∷ us) c here knows = all_known us v still (ended_known u ending.Abort c (aborts_ended u c.tree) (λ is.
      let no_way : ending.Abort ≡ ending.Commit = is in cc) (λ d s at now. let b = here u d s at now in aborted_now u c.tree b.0 b.1) knows)
    where
      idle : Doing → Doing
      idle d = record d { now = Idle }

      mid : Coord
      mid = record c { tree = ended_at u ending.Abort c.tree }

      v : Coord
      v = ended u ending.Abort c

      own : (w : Uid) → is_own w (ended_at u ending.Abort c.tree) ≡ is_own w c.tree
      own w = (end_tree_on u ending.Abort c).own w

      stays : (w : Uid) (b : Branch) → branch_of w c.tree ≡ Some b → (q : Branch) × (branch_of w (ended_at u ending.Abort c.tree) ≡ Some q)
      stays w b at = by (branch_of u c.tree) refl
        where
          by : (o : Option Branch) → branch_of u c.tree ≡ o → (q : Branch) × (branch_of w (ended_branch u ending.Abort c.tree o) ≡ Some q)
          by None none = (b, at)
          by (Some q) found = ⊎_elim (λ same. (
            ended_b u ending.Abort c.tree q found,
            ap (λ z. branch_of z (after u ending.Abort c.tree q found)) same ∙ at_u u ending.Abort c.tree q found,
          )) (λ other. (b, at_others u ending.Abort c.tree q found w other ∙ at)) (uid_cases w u)

      still : WaitHere (ended u ending.Abort c)
      still w d s at now = ⊎_elim
          (λ same. absurd (rest (doing_of u mid) refl (ap (λ z. doing_of z v) (sym same) ∙ at)))
          (λ other. let g = goes_work v.tree u idle mid in
          let b = here w d s ((λ i. cond (sym (own w) i) (at_place w.num c.doings) None) ∙ sym (g.doings w other) ∙ at) now in
          let q = stays w b.0 b.1 in (q.0, ap (branch_of w) (on_tree u idle mid) ∙ q.1)) (uid_cases w u)
        where
          rest : (o : Option Doing) → doing_of u mid ≡ o → doing_of u (change_doing idle u mid o) ≡ Some d → ⊥
          rest None none it = let no_way : ◌≡◌ {A = Option Doing} None (Some d) = sym none ∙ it in absurd (cc no_way)
          rest (Some q) found it = not_idle (ap (λ (z : Doing). z.now)
              (some_is (sym (sym (ap (λ o. doing_of u (change_doing idle u mid o)) found) ∙ doing_here u idle mid q found) ∙ it)) ∙ now)

  -- ---- a decision

  after_kept : (p : Plan) (x : ℕ) (r : Root) (old : Known) → kept_of x r ≡ Some old → IsStill (kept_of x (root_after p r)) old
  after_kept p x r old is = by (at_number x r.keeping) refl is
    where
      by : (o : Option Keeping) → at_number x r.keeping ≡ o → (unwrap_or o no_keeping).kept ≡ Some old →
          IsStill (kept_of x (root_after p r)) old
      by None none e = let no_way : ◌≡◌ {A = Option Known} None (Some old) = e in absurd (cc no_way)
      by (Some k) found e = (
        list_after p x old,
        ap (λ o. (unwrap_or o no_keeping).kept) (each_at (keeping_after p) x r.keeping k found) ∙ ap (kept_after p x) e,
        refl,
        refl,
      )

  -- what a commit leaves, once its action has ended
  left_known : (p : Plan) (c : Coord) → ((d : Doing) → doing_of (actor p.path) c ≡ Some d → d.now ≡ Idle) → KnowsCalls paths sent c →
      KnowsCalls paths sent
      (on_root (root_of p.path) (root_after p) (on_doing (actor p.path) (λ (d : Doing). record d { took = participants p }) c))
  left_known p c rest knows = knows_of paths sent u (λ to k. ⊥) c v g works knows (knowing_on sent v.tree u (λ to k. ⊥) c v g
      (knowing_of paths sent v.tree u (λ to k. ⊥) c aborts doom.doomed (λ w d m other at now f. doom.free w other f) none knows))
      (λ to k o none. absurd none) (λ d s at now. absurd (not_idle (sym (here d at) ∙ now)))
      (λ d m at now. absurd (idle_not (sym (here d at) ∙ now)))
      (paths_root paths (root_of p.path) (root_after p) mid (λ z i. inl i) (paths_same paths c mid (roots_work u took c) knows.said))
    where
      u : Uid
      u = actor p.path

      took : Doing → Doing
      took d = record d { took = participants p }

      mid : Coord
      mid = on_doing (actor p.path) (λ (d : Doing). record d { took = participants p }) c

      v : Coord
      v = on_root (root_of p.path) (root_after p) mid

      same_tree : v.tree ≡ c.tree
      same_tree = on_tree (actor p.path) (λ (d : Doing). record d { took = participants p }) c

      g : Goes v.tree u c v
      g = goes_then v.tree u c mid v (goes_work v.tree u took c) (goes_root v.tree u (root_of p.path) (root_after p) mid (λ s i. i)
          (λ x old is. inl (after_kept p x (root_at (root_of p.path) mid) old is)))

      aborts : KeepsAborts c.tree v.tree
      aborts w d = subst (IsDecided w ending.Abort) (sym same_tree) d

      doom : KeepsDoom u c.tree v.tree
      doom = doom_is u c.tree v.tree (sym same_tree)

      none : (to : ℕ) (k : Call) → IsWaiting c to k → actor (let h = k.head in h.path) ≡ u → ⊥
      none to k w same = not_idle (sym (rest w.doing (ap (λ z. doing_of z c) (sym same) ∙ w.found)) ∙ w.now)

      works : (d : Doing) → doing_of u c ≡ Some d → (q : Doing) × (doing_of u v ≡ Some q) × IsLaterWork d q
      works d at = (took d, doing_here u took c d at, inr (omega arith, λ s now. absurd (not_idle (sym (rest d at) ∙ now))))

      here : (d : Doing) → doing_of u v ≡ Some d → d.now ≡ Idle
      here d at = by (doing_of u c) refl at
        where
          by : (o : Option Doing) → doing_of u c ≡ o → doing_of u (change_doing took u c o) ≡ Some d → d.now ≡ Idle
          by None none_found it = let no_way : ◌≡◌ {A = Option Doing} None (Some d) = sym none_found ∙ it in cc
          by (Some q) found it = ap (λ (z : Doing). z.now)
              (some_is (sym it ∙ sym (ap (λ o. doing_of u (change_doing took u c o)) found) ∙ doing_here u took c q found)) ∙ rest q found

  pub decide_known : (p : Plan) (c : Coord) → ((b : Branch) → branch_of (actor p.path) c.tree ≡ Some b → is_some b.ended ≡ false) →
      IsFree c.tree (actor p.path) → ((d : Doing) (s : Steps) → doing_of (actor p.path) c ≡ Some d → d.now ≡ Calling s → ⊥) →
      KnowsCalls paths sent c → KnowsCalls paths sent (decide p c).part
  decide_known p c opened free waits knows = by (has_record p)
    where
      u : Uid
      u = actor p.path

      e : Coord
      e = ended (actor p.path) ending.Commit c

      idle : Doing → Doing
      idle d = record d { now = Idle }

      mid : Coord
      mid = record c { tree = ended_at (actor p.path) ending.Commit c.tree }

      rest : (d : Doing) → doing_of (actor p.path) e ≡ Some d → d.now ≡ Idle
      rest d at = one (doing_of (actor p.path) mid) refl at
        where
          one : (o : Option Doing) → doing_of (actor p.path) mid ≡ o →
              doing_of (actor p.path) (change_doing idle (actor p.path) mid o) ≡ Some d → d.now ≡ Idle
          one None none it = let no_way : ◌≡◌ {A = Option Doing} None (Some d) = sym none ∙ it in cc
          one (Some q) found it = ap (λ (z : Doing). z.now) (some_is (sym it ∙ sym (ap
              (λ o. doing_of (actor p.path) (change_doing idle (actor p.path) mid o)) found) ∙ doing_here (actor p.path) idle mid q found))

      r : Coord
      r = on_root (root_of p.path) (root_after p) (on_doing (actor p.path) (λ (d : Doing). record d { took = participants p }) e)

      its : KnowsCalls paths sent r
      its = left_known p e rest (ended_known (actor p.path) ending.Commit c (λ w d. (stand_ended (actor p.path) ending.Commit c.tree
          opened).ends w ending.Abort d) (λ is. free) (λ d s at now. absurd (waits d s at now)) knows)

      by : (b : Bool) → KnowsCalls paths sent
          (cond b (record r { telling = put_uid (actor p.path) (record { root = root_of p.path; nodes = participants p }) r.telling }) r)
      by true = telling_known paths sent r (put_uid (actor p.path) (record { root = root_of p.path; nodes = participants p }) r.telling) its
      by false = its
