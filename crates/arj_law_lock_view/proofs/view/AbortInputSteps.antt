-- A whole coordinator goes in the machine: an action is aborted with all that is open below it.
use Rattle.arj_law_parts.proofs.Words
use Words.{◌≡◌, ◌≢◌, ◌∙◌, ◌++◌, ℕ, List, [], ◌∷◌, true, false, Some, refl, sym, ap, subst, inl, inr, ⊎_elim, is_some, uid_cases, Path, Uid}
use Words.{is_on, uids_of, plan_of, Coord, Doing, Idle, doing_of, Intent, abort_action, all_aborted, ended, Branch, branch_of}
use Words.list
use Words.ending
use Rattle.arj_law_lock_view.proofs.Terms
use Terms.{root, State, differ, Paths, IsAsking, IsBusy, IsVoting, on_own, in_more, work_there, IsSteady, Acts, Codes, SeesWhole}
use Rattle.arj_law_lock_view.proofs.view
use view.{AbortSteps.abortions_go_down, EverSteps.ever, IncludeSteps.includes_stay, OneSteps.OnlyOne, OneSteps.end_changed}
use view.{PlanSteps.commits_stay_seen, WholeSteps.ended_roots}
use view.InputSteps.{only_ended, to_run}
use view.MoveSteps.{Moves, moves_both, moves_end, moves_none}
use Rattle.arj_law_lock_view.specs.view.Inputs.{ActionsAreAborted}
use Rattle.arj_law_lock_view.proofs.view.AbortSteps as abort

-- an action with its work
abbrev IsThere : Coord → Uid → Type 0
IsThere c w = (b : Branch) × (branch_of w c.tree ≡ Some b) × ((d : Doing) × (doing_of w c ≡ Some d))

-- aborts, one after another
moves_aborts : (x : ℕ) (New : Uid → Type 0) (ws : List Uid) (c : Coord) → ((w : Uid) → list.In w ws → New w × IsThere c w) →
    Moves x c (let e = all_aborted ws c in e.part) New New
moves_aborts x New [] c may = moves_none x c New New
moves_aborts x New (w ∷ ws) c may = let a = may w (inl refl) in
    moves_both x c (ended w ending.Abort c) (let e = all_aborted (w ∷ ws) c in e.part) New New
    (moves_end x c New New w a.1.0 a.1.2.0 ending.Abort a.1.1 a.1.2.1 a.0 a.0 (ended_roots w ending.Abort c))
    (moves_aborts x New ws (ended w ending.Abort c) (λ v i. ((may v (inr i)).0, still v a.1 (may v (inr i)).1)))
  where
    still : (v : Uid) → IsThere c w → IsThere c v → IsThere (ended w ending.Abort c) v
    still v (b, found, (d, works)) (q, there, (y, has_it)) = ⊎_elim
        (λ (is : v ≡ w). (
          record b { ended = Some ending.Abort },
          ap (λ (z : Uid). branch_of z (let e = ended w ending.Abort c in e.tree)) is ∙ one.branch,
          (record d { now = Idle }, ap (λ (z : Uid). doing_of z (ended w ending.Abort c)) is ∙ one.doing),
        ))
        (λ (other : v ≢ w). (q, one.branches v other ∙ there, (y, one.doings v other ∙ has_it)))
        (uid_cases v w)
      where
        one : OnlyOne c w (record b { ended = Some ending.Abort }) (record d { now = Idle }) (ended w ending.Abort c)
        one = end_changed c w b d found works ending.Abort

module _ (act : Acts) (code : Codes) (paths : Paths) (x : ℕ) (c : Coord) (u : Uid) (b : Branch) (intents : List (Uid × Intent)) (S : State)
    (steady : IsSteady act paths c) (found : branch_of u c.tree ≡ Some b) (unended : is_some b.ended ≡ false)
    (whole : SeesWhole act code x c S) where
  abbrev us : List Uid
  us = abort.below act code paths x c u b intents S steady found unended whole.units whole.coord ++ u ∷ []

  abbrev E : Coord
  E = let e = abort_action u intents c in e.part

  on_u : (w : Uid) → list.In w us → is_on (paths w) u ≡ true
  on_u w i = ⊎_elim
      (λ j. let q = abort.is_below_it act code paths x c u b intents S steady found unended whole.units whole.coord w j in q.4)
      (λ (is : u ≡ w). subst (λ (v : Uid). is_on (paths v) u ≡ true) is
      (ap (λ (vs : List Uid). is_on vs u) (sym (steady.good.tree.lists.paths_are u b found))
      ∙ ap (is_on (uids_of b.path)) (sym (steady.good.tree.lists.places u b found)) ∙ on_own b.path))
      (in_more w (abort.below act code paths x c u b intents S steady found unended whole.units whole.coord) u i)

  is_there : (w : Uid) → list.In w us → IsThere c w
  is_there w i = ⊎_elim
      (λ j. let q = abort.is_below_it act code paths x c u b intents S steady found unended whole.units whole.coord w j in
      (q.0, q.1, work_there c steady.works w q.0 q.1))
      (λ (is : u ≡ w). subst (IsThere c) is (b, found, work_there c steady.works u b found))
      (in_more w (abort.below act code paths x c u b intents S steady found unended whole.units whole.coord) u i)

  moves : Moves x c E (λ w. list.In w us) (λ w. list.In w us)
  moves = moves_aborts x (λ w. list.In w us) us c (λ w i. (i, is_there w i))

  -- none of them asks for anything then
  asks_none : (w : Uid) (p : Path) → list.In w us → IsAsking E.tree w p → ⊥
  asks_none w p i asks = differ (abort.over_E act code paths x c u b intents S steady found unended whole.units whole.coord w asks.branch
      asks.found (on_u w i)) asks.opened

  busy : (w : Uid) (d : Doing) → doing_of w E ≡ Some d → IsBusy E.tree w d.now
  busy w d works = let g = abort.good_E act code paths x c u b intents S steady found unended whole.units whole.coord in g.busy w d works

pub actions_are_aborted : ActionsAreAborted
actions_are_aborted act code paths x c u b intents S reached steady found unended whole =
    to_run (abortions_go_down act code paths x c u b intents S steady found unended whole.units whole.coord) (λ T run h. (
      record {
        coord = h.0;
        includes = includes_stay act x c (E act code paths x c u b intents S steady found unended whole) S T
            (λ w. list.In w (us act code paths x c u b intents S steady found unended whole)) (λ w.
            list.In w (us act code paths x c u b intents S steady found unended whole)) (moves act code paths x c u b intents S steady found
            unended whole) (let v = ever reached run in v.sent) (ap (λ (s : State). s.includes) (let o = h.1 in o.rest)) whole.includes
            (λ w d s k new works is load. absurd (asks_none act code paths x c u b intents S steady found unended whole w s.path new
            (subst (IsBusy (let e = E act code paths x c u b intents S steady found unended whole in e.tree) w) is
            (busy act code paths x c u b intents S steady found unended whole w d works))));
        commits = λ w d m works is. ⊎_elim
            (λ old. commits_stay_seen x (act w) m S T reached run (whole.commits w old.0 m old.1 old.2))
            (λ new. absurd (let v : IsVoting (let e = E act code paths x c u b intents S steady found unended whole in
            e.tree) w (plan_of m) = subst (IsBusy (let e = E act code paths x c u b intents S steady found unended whole in e.tree) w)
            is (busy act code paths x c u b intents S steady found unended whole w d works) in
            asks_none act code paths x c u b intents S steady found unended whole w (let p = plan_of m in p.path) new v.asking))
            (let q = moves act code paths x c u b intents S steady found unended whole in q.commits w d m works is);
        units = h.4;
      },
      (only_ended (root (act u)) S T h.1, (h.2, h.3, h.5)),
    ))
