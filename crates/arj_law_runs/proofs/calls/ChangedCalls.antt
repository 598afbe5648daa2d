-- What a commit has as changed was called in its top: the call survives there.
use Rattle.arj_law_parts.proofs.Words
use Words.{◌≡◌, ◌≤◌, ◌==◌, ◌&&◌, ◌||◌, ℕ, List, [], ◌∷◌, ◌++◌, Bool, true, false, not, Some, refl, sym, ◌∙◌, ap, subst, length, arith}
use Words.{list_any, uid_same, Ask, Head, Uid, asks, first_uid, is_on, uid_eq, uids_of, actor, Machine, plan_of, Committing, Coord, Doing}
use Words.{Joined, Root, Said, doing_of, root_at, survives, top_uses, behind, ended_so, has_end, is_committed, root_of, Post, Seen}
use Words.list
use Words.ending
use Rattle.arj_law_runs.proofs.Terms
use Terms.{Action, paths_of, IsBusy, IsGoodCoord, IsVoting, IsTree, Paths, IsSaidSo, FitsMessage, Seals, begun_tree, on_own, path_found}
use Terms.{path_some, In, IsCalledBy, KnowsCalls, AllChangesAreCalled, KnowsRun, Trees}
use Rattle.arj_law_runs.proofs.calls
use calls.{CommitPlans.any_in, CoordTrees.nothing_behind, WorldRuns.coord_at, WorldRuns.says_at}
use calls.WorldVotes.{behind_after, on_first, said_commit}

first_of : (us vs : List Uid) → 1 ≤ length us → first_uid (us ++ vs) ≡ first_uid us
first_of [] vs some = absurd (omega (arith, some))
first_of (u ∷ us) vs some = refl

none_such : (f : Uid → Bool) (us : List Uid) → ((w : Uid) → is_on us w ≡ true → f w ≡ true) → list_any (λ w. not (f w)) us ≡ false
none_such f [] all = refl
none_such f (u ∷ us) all = λ i. not (all u (here u us) i) || none_such f us (λ w on. all w (later u us w on)) i
  where
    here : (u : Uid) (us : List Uid) → is_on (u ∷ us) u ≡ true
    here u us = λ i. uid_same u i || is_on us u

    later : (u : Uid) (us : List Uid) (w : Uid) → is_on us w ≡ true → is_on (u ∷ us) w ≡ true
    later u us w on = by (uid_eq u w)
      where
        by : (b : Bool) → (b || is_on us w) ≡ true
        by true = refl
        by false = on

same_number : (n : ℕ) → (n == n) ≡ true
same_number n = grind arith

module _ (acts : List Action) (paths : Paths) (tree : IsTree paths) (sent : List Post) (senders : (p : Post) (h : Head) (a : Ask) →
    In p sent → asks p.message ≡ Some (h, a) → (let u = actor h.path in u.node) ≡ p.from) (fit : (p : Post) → In p sent →
    FitsMessage acts p.message)
    (c : Coord) (good : IsGoodCoord acts paths c) (knows : KnowsCalls paths sent c) (seals : (p : Post) (u : Uid) → In p sent →
    Seals p.message u → u.node ≡ p.from) (says : (p : Post) → In p sent → p.from ≡ c.tree.node → IsSaidSo c.tree p.message) where
  called_uses : (u : Uid) (d : Doing) (m : Machine) (x : ℕ) → doing_of u c ≡ Some d → d.now ≡ Committing m →
      IsCalledBy sent c (uids_of (plan_of m).path) x → top_uses u x (root_at (root_of (plan_of m).path) c) c ≡ true
  called_uses u d m x found now a = ap (λ b. b || list_any (λ (j : Joined). (j.x == x) && survives u j.path c) r.joined)
      (any_in (λ (s : Said). (s.x == x) && survives u s.path c) (let z = a.answered in z.said) r.said there (λ i. number i && lives i))
    where
      r : Root
      r = root_at (root_of (plan_of m).path) c

      voting : IsVoting c.tree u (plan_of m)
      voting = subst (IsBusy c.tree u) now (good.busy u d found)

      path_is : uids_of (plan_of m).path ≡ paths u
      path_is = let b = voting.asking in ap uids_of (sym b.path) ∙ good.tree.lists.paths_are u b.branch b.found

      its_own : is_on (uids_of (plan_of m).path) u ≡ true
      its_own = let b = voting.asking in ap (is_on (uids_of (plan_of m).path))
          (sym (good.tree.lists.places u b.branch b.found) ∙ ap actor b.path) ∙ on_own (plan_of m).path

      there : list.In (let z = a.answered in z.said) (root_at (root_of (plan_of m).path) c).said
      there = subst (λ w. list.In (let z = a.answered in z.said) (root_at w c).said)
          (first_of (uids_of (plan_of m).path) a.rest (path_some (plan_of m).path)) (let z = a.answered in z.there)

      number : ((let z = a.answered in let s = z.said in s.x) == x) ≡ true
      number = ap (λ n. n == x) (let z = a.answered in z.object) ∙ same_number x

      behind_it : behind u (uids_of (plan_of m).path ++ a.rest) ≡ a.rest
      behind_it = behind_after u (uids_of (plan_of m).path) a.rest (ap (behind u) path_is
          ∙ (let b = voting.asking in nothing_behind paths tree c.tree good.tree.lists good.tree.closed u b.branch b.found)) its_own

      committed : (w : Uid) → is_on a.rest w ≡ true → is_committed w c.tree ≡ true
      committed w on =
          let z = said_commit acts paths tree sent senders fit c good knows seals says w (a.own w on) (a.merged w on) in
          ap (ended_so ending.Commit) z.1 ∙ ap (has_end ending.Commit) z.2

      lives : survives u (let z = a.answered in let s = z.said in s.path) c ≡ true
      lives = ap (λ vs. survives u vs c) (let z = a.answered in z.path)
          ∙ (λ i. on_first (uids_of (plan_of m).path) a.rest u its_own i && not (list_any (λ w. not (is_committed w c.tree)) (behind_it i)))
          ∙ ap not (none_such (λ w. is_committed w c.tree) a.rest committed)

-- so it is of each commit under way
pub changes_in : (M : Seen) → KnowsRun M → AllChangesAreCalled M
changes_in M (acts, good, known) k n t at live u d q found now s i =
    let p : Trees acts = (paths_of acts, begun_tree acts good.begun, path_found acts good.begun) in
    let w = known p in
    let j = w.nodes k n at in
    let c = j.coord t live in
    let z = c.plans u d q found now in
    called_uses acts p.0 p.1 M.sent w.senders good.fits t.coord (coord_at acts p.0 p.1 p.2 M good w k n t at live) c good.senders
    (says_at acts p.0 p.1 p.2 M good w k n t at live) u d q s.uid.num found now (z.changed s i)
