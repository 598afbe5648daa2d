-- An action goes in the machine with all that is open below it.
use Rattle.arj_law_parts.proofs.Words
use Words.{◌≡◌, ◌≢◌, ◌≤◌, ◌⊎◌, ◌∙◌, ◌==◌, ◌&&◌, ◌++◌, not, filter, ℕ, List, [], ◌∷◌, Bool, true, false, cond, length, Option, Some, None}
use Words.{refl, sym, ap, subst, inl, inr, ⊎_elim, is_some, arith, and_parts, uid_cases, uid_same, in_filter, in_to, Uid, first_uid, is_on}
use Words.{uid_eq, uids_of, actor, Coord, Doing, Idle, doing_of, Intent, abort_action, all_aborted, ended, Branch, Tree, at_place}
use Words.{branch_of, ended_so, is_open_below, open_below, root_of}
use Words.list
use Words.ending
use Rattle.arj_law_lock_view.proofs.Terms
use Terms.{Act, Root, is_action, on, root, same, stay, State, by_cases, differ, on_root, root_is, same_is, Paths, GoesOn, IsGoodCoord}
use Terms.{HasLists, on_own, path_some, in_more, over_below, placed, work_there, OnlyActed, IsPlaced, IsSteady, SeesAction, SeesActions}
use Terms.{stage_of, Acts, AreOne, Codes, AbortsOnly, ChangesOne, IsOpenAt, KeepsActions, aborted, Goes, SeesCoord, AreAborted}
use Terms.{AreUnitsOver}
use Rattle.arj_law_lock.specs.machine.State.{Action}
use Rattle.arj_law_lock_view.proofs.view
use view.{RunSteps.goes_then, RunSteps.goes_to, TreeSteps.first_on}
use view.ActingSteps.{abort_goes, own_root, plain_goes, unit_ends, unit_open}
use view.OneSteps.{OnlyOne, end_changed, one_changed}
use view.WholeSteps.{ended_roots, one_stays, units_keep_roots}
use Rattle.arj_law_lock_view.specs.view.Stops.{AbortionsGoDown}
use Rattle.arj_law_parts.proofs.parts
use parts.{GoodCoords.good_abort, Truths.well_abort}
use parts.GoodTrees.{aborted_tree, all_left, in_latest}
use Rattle.arj_protocol.specs.Tree.{is_below}
use Rattle.std.proofs.lemmas.List.Elements.{Contains-append_left, Contains-append_right}

-- ---- what changes of actions

pub acted_none : (unit : ℕ) (S : State) → OnlyActed unit S S
acted_none unit S = record { rest = refl; others = λ a away. refl; ended = λ a over. refl }

pub acted_both : (unit : ℕ) (S T V : State) → OnlyActed unit S T → OnlyActed unit T V → OnlyActed unit S V
acted_both unit S T V a b = record {
  rest = b.rest ∙ ap (λ (s : State). record s { action = V.action; now = V.now }) a.rest;
  others = λ q away. b.others q away ∙ a.others q away;
  ended = λ q over. b.ended q (subst (λ (k : ℕ). 3 ≤ k) (ap (λ (v : Action). v.stage) (sym (a.ended q over))) over) ∙ a.ended q over;
}

-- ---- a list of actions

abbrev gone_of : Branch → Branch
gone_of r = record r { ended = Some ending.Abort }

-- an action that is open, or was aborted before
record IsAbortable (act : Acts) (c : Coord) (w : Uid) : Type 0 where
  pub branch : Branch
  pub work : Doing
  pub there : branch_of w c.tree ≡ Some branch
  pub works : doing_of w c ≡ Some work
  pub left : (is_some branch.ended ≡ false) ⊎ (branch.ended ≡ Some ending.Abort)
  pub its : is_action (act w) ≡ true

module _ (act : Acts) (code : Codes) (x : ℕ) (apart : AreOne act) where
  -- as it was, or aborted as one of these
  abbrev IsGoneOr : List Uid → State → Act → Action → Type 0
  IsGoneOr ws S a v = (v ≡ S.action a) ⊎ ((v ≡ aborted (S.action a)) × ((w : Uid) × list.In w ws × (a ≡ act w)))

  -- what the aborts of these actions, all of one unit, leave
  record AreGone (unit : ℕ) (ws : List Uid) (c e : Coord) (S T : State) : Type 0 where
    sees : SeesCoord act code x e T
    only : OnlyActed unit S T
    now : T.now ≡ S.now
    units : (n : ℕ) → T.action (Root n) ≡ S.action (Root n)
    was : (w : Uid) (q : Branch) → branch_of w e.tree ≡ Some q →
        (r : Branch) × (branch_of w c.tree ≡ Some r) × ((q ≡ r) ⊎ (q ≡ record r { ended = Some ending.Abort }))
    works : (w : Uid) (d : Doing) → doing_of w c ≡ Some d → (k : Doing) × (doing_of w e ≡ Some k)
    elsewhere : (w : Uid) → (list.In w ws → ⊥) → branch_of w e.tree ≡ branch_of w c.tree
    ends : (a : Act) → is_action a ≡ true → IsGoneOr ws S a (T.action a)

  -- ---- one of them

  module _ (c : Coord) (S : State) (sees : SeesCoord act code x c S) (w : Uid) (a : IsAbortable act c w) where
    abbrev e : Coord
    e = ended w ending.Abort c

    abbrev b' : Branch
    b' = let q = a.branch in record q { ended = Some ending.Abort }

    abbrev d' : Doing
    d' = let q = a.work in record q { now = Idle }

    only_one : OnlyOne c w b' d' e
    only_one = end_changed c w a.branch a.work a.there a.works ending.Abort

    gone : (T : State) → SeesActions act x e T.action → OnlyActed (root (act w)) S T → T.now ≡ S.now → ((n : ℕ) → T.action (Root n) ≡
        S.action (Root n)) → ((a : Act) → is_action a ≡ true → IsGoneOr (w ∷ []) S a (T.action a)) → AreGone (root (act w)) (w ∷ []) c e S T
    gone T acts only now units ends = record {
      sees = one_stays act code x c e w a.branch b' d' S T a.there (λ h. ap (ended_so ending.Abort) only_one.branch) sees only.rest acts
          only_one refl (ended_roots w ending.Abort c) (λ s is. absurd (cc is));
      only = only;
      now = now;
      units = units;
      was = λ v q there. ⊎_elim
          (λ (is : v ≡ w).
          let two : ◌≡◌ {A = Option Branch} (Some b') (Some q) = sym only_one.branch ∙ ap (λ (y : Uid). branch_of y e.tree) (sym is)
          ∙ there in
          let same : b' ≡ q = cc two in
          (a.branch, ap (λ (y : Uid). branch_of y c.tree) is ∙ a.there, inr (sym same)))
          (λ (other : v ≢ w). (q, sym (only_one.branches v other) ∙ there, inl refl))
          (uid_cases v w);
      works = λ v d found. ⊎_elim
          (λ (is : v ≡ w). (d', ap (λ (y : Uid). doing_of y e) is ∙ only_one.doing))
          (λ (other : v ≢ w). (d, only_one.doings v other ∙ found))
          (uid_cases v w);
      elsewhere = λ v other. only_one.branches v (λ is. other (inl (sym is)));
      ends = ends;
    }

    its_was : SeesAction x a.branch a.work (S.action (act w))
    its_was = let s = sees.actions in s.each w a.branch a.work a.there a.works a.its

    -- it was aborted before: the machine waits
    again : (let q = a.branch in q.ended) ≡ Some ending.Abort → SeesActions act x e S.action
    again is = one_changed c w a.branch b' d' e a.there only_one refl (λ un. absurd (cc un)) act x S.action S.action apart sees.actions
        (λ h. let s = its_was in record {
          stage = s.stage ∙ (λ i. stage_of (is i) (let k = a.work in k.now));
          request = s.request;
          waits = λ k. absurd (cc k);
          last = λ k. absurd (cc k);
          doomed = s.doomed;
        })
        (λ v other h. refl) (λ v q r there root_is_there un. refl) (λ n. refl)

    one_gone : Goes S (AreGone (root (act w)) (w ∷ []) c e S)
    one_gone = ⊎_elim
        (λ un. goes_to (abort_goes act x c S apart sees.actions w a.branch a.work a.there a.works a.its un)
        (λ T h. gone T h.0 h.1 h.2.0 h.2.2 (gone_one T h.2.3)))
        (λ is.
        record { state = S; run = stay; holds = gone S (again is) (acted_none (root (act w)) S) refl (λ n. refl) (λ q its. inl refl) })
        a.left
      where
        gone_one : (T : State) → ChangesOne (act w) (aborted (S.action (act w))) S T → (q : Act) → is_action q ≡ true →
            IsGoneOr (w ∷ []) S q (T.action q)
        gone_one T o q its = ⊎_elim
            (λ (is : same q (act w) ≡ true). inr (
              subst (λ (k : Act). T.action k ≡ aborted (S.action k)) (sym (same_is q (act w) is))
                  (o.one (ap is_action (sym (same_is q (act w) is)) ∙ its)),
              (w, inl refl, same_is q (act w) is),
            ))
            (λ (isnt : same q (act w) ≡ false). inl (o.others q its isnt))
            (by_cases (same q (act w)))

  -- ---- one after another

  still_may : (c : Coord) (S : State) (sees : SeesCoord act code x c S) (w v : Uid) (a : IsAbortable act c w) → IsAbortable act c v →
      IsAbortable act (ended w ending.Abort c) v
  still_may c S sees w v a may = ⊎_elim
      (λ (is : v ≡ w). record {
        branch = let q = a.branch in record q { ended = Some ending.Abort };
        work = let q = a.work in record q { now = Idle };
        there = ap (λ (y : Uid). branch_of y (let k = ended w ending.Abort c in k.tree)) is ∙ one.branch;
        works = ap (λ (y : Uid). doing_of y (ended w ending.Abort c)) is ∙ one.doing;
        left = inr refl;
        its = may.its;
      })
      (λ (other : v ≢ w). record {
        branch = may.branch;
        work = may.work;
        there = one.branches v other ∙ may.there;
        works = one.doings v other ∙ may.works;
        left = may.left;
        its = may.its;
      })
      (uid_cases v w)
    where
      one : OnlyOne c w (let q = a.branch in record q { ended = Some ending.Abort }) (let q = a.work in
          record q { now = Idle }) (ended w ending.Abort c)
      one = only_one c S sees w a

  both_gone : (unit : ℕ) (w : Uid) (ws : List Uid) (c d e : Coord) (S T V : State) → AreGone unit (w ∷ []) c d S T →
      AreGone unit ws d e T V → AreGone unit (w ∷ ws) c e S V
  both_gone unit w ws c d e S T V g h = record {
    sees = h.sees;
    only = acted_both unit S T V g.only h.only;
    now = h.now ∙ g.now;
    units = λ n. h.units n ∙ g.units n;
    was = λ v q there. (let r = h.was v q there in let p = g.was v r.0 r.1 in (p.0, p.1, last p.0 r.0 q p.2 r.2));
    works = λ v k found. (let r = g.works v k found in h.works v r.0 r.1);
    elsewhere = λ v other. h.elsewhere v (λ i. other (inr i)) ∙ g.elsewhere v (λ i. ⊎_elim (λ is. other (inl is)) (λ none. none) i);
    ends = λ q its. both_ends q (g.ends q its) (h.ends q its);
  }
    where
      both_ends : (q : Act) → IsGoneOr (w ∷ []) S q (T.action q) → IsGoneOr ws T q (V.action q) → IsGoneOr (w ∷ ws) S q (V.action q)
      both_ends q (inl is) (inl then) = inl (then ∙ is)
      both_ends q (inr (is, (v, inl i, at))) (inl then) = inr (then ∙ is, (v, inl i, at))
      both_ends q (inr (is, (v, inr none, at))) (inl then) = absurd none
      both_ends q (inl is) (inr (then, (v, i, at))) = inr (then ∙ ap aborted is, (v, inr i, at))
      both_ends q (inr (is, more)) (inr (then, (v, i, at))) = inr (then ∙ ap aborted is, (v, inr i, at))

      last : (p r q : Branch) → (r ≡ p) ⊎ (r ≡ gone_of p) → (q ≡ r) ⊎ (q ≡ gone_of r) → (q ≡ p) ⊎ (q ≡ gone_of p)
      last p r q (inl is) (inl same) = inl (same ∙ is)
      last p r q (inr is) (inl same) = inr (same ∙ is)
      last p r q (inl is) (inr same) = inr (same ∙ ap gone_of is)
      last p r q (inr is) (inr same) = inr (same ∙ ap gone_of is)

  all_gone : (ws : List Uid) (unit : ℕ) (c : Coord) (S : State) → ((w : Uid) → list.In w ws → IsAbortable act c w × (root (act w) ≡ unit)) →
      SeesCoord act code x c S → Goes S (AreGone unit ws c (let d = all_aborted ws c in d.part) S)
  all_gone [] unit c S may sees = record {
    state = S;
    run = stay;
    holds = record {
      sees = sees;
      only = acted_none unit S;
      now = refl;
      units = λ n. refl;
      was = λ w q there. (q, there, inl refl);
      works = λ w d found. (d, found);
      elsewhere = λ w other. refl;
      ends = λ q its. inl refl;
    };
  }
  all_gone (w ∷ ws) unit c S may sees =
      let a = may w (inl refl) in
      goes_then (one_gone c S sees w a.0) (λ T g. goes_to
      (all_gone ws unit (ended w ending.Abort c) T (λ v i. (still_may c S sees w v a.0 (may v (inr i)).0, (may v (inr i)).1)) g.sees)
      (λ V h. both_gone unit w ws c (ended w ending.Abort c) (let d = all_aborted ws (ended w ending.Abort c) in
      d.part) S T V (subst (λ (n : ℕ). AreGone n (w ∷ []) c (ended w ending.Abort c) S T) a.1 g) h))

-- ---- what is open below an action

-- a branch of the tree is found by its action
pub branch_found : (paths : Paths) (t : Tree) (lists : HasLists paths t) (b : Branch) → list.In b t.branches →
    branch_of (actor b.path) t ≡ Some b
branch_found paths t lists b i = subst (λ (v : Uid). branch_of v t ≡ Some b) (sym (lists.places it b there)) there
  where
    k : (n : ℕ) × (at_place n t.branches ≡ Some b)
    k = placed b t.branches i

    it : Uid
    it = record { node = t.node; inc = t.inc; num = k.0 }

    itself : (n : ℕ) → (n == n) ≡ true
    itself n = grind arith

    there : branch_of it t ≡ Some b
    there = (λ j. cond (itself t.node j && itself t.inc j) (at_place k.0 t.branches) None) ∙ k.1

-- the last of a list of aborts
aborted_last : (ws : List Uid) (u : Uid) (c : Coord) →
    (let d = all_aborted (ws ++ u ∷ []) c in d.part) ≡ ended u ending.Abort (let d = all_aborted ws c in d.part)
aborted_last [] u c = refl
aborted_last (w ∷ ws) u c = aborted_last ws u (ended w ending.Abort c)

module _ (act : Acts) (code : Codes) (paths : Paths) (x : ℕ) (c : Coord) (u : Uid) (b : Branch) (intents : List (Uid × Intent)) (S : State)
    (steady : IsSteady act paths c) (found : branch_of u c.tree ≡ Some b) (unended : is_some b.ended ≡ false)
    (units : AreUnitsOver act c.tree S) (sees : SeesCoord act code x c S) where
  abbrev pub below : List Uid
  below = open_below u c.tree

  abbrev unit : ℕ
  unit = root (act u)

  abbrev pub E : Coord
  E = let e = abort_action u intents c in e.part

  d0 : (d : Doing) × (doing_of u c ≡ Some d)
  d0 = work_there c steady.works u b found

  -- one of them is another action of the unit, and open
  pub is_below_it : (w : Uid) → list.In w below →
      (q : Branch) × (branch_of w c.tree ≡ Some q) × (is_some q.ended ≡ false) × (w ≢ u) × (is_on (paths w) u ≡ true)
  is_below_it w i = ⊎_elim (λ none. absurd none) (λ f. by f.0 f.1 f.2) (in_latest w (filter (is_open_below u) c.tree.branches) [] i)
    where
      not_true : (t : Bool) → not t ≡ true → t ≡ false
      not_true true h = absurd (cc h)
      not_true false h = refl

      by : (q : Branch) → list.In q (filter (is_open_below u) c.tree.branches) → actor q.path ≡ w →
          (q : Branch) × (branch_of w c.tree ≡ Some q) × (is_some q.ended ≡ false) × (w ≢ u) × (is_on (paths w) u ≡ true)
      by q j is =
          let f = in_filter (is_open_below u) q c.tree.branches j in
          let two = and_parts (is_below u q) (not (is_some q.ended)) f.1 in
          let more = and_parts (is_on (uids_of q.path) u) (not (uid_eq (actor q.path) u)) two.0 in
          let there = ap (λ (v : Uid). branch_of v c.tree) (sym is) ∙ branch_found paths c.tree steady.good.tree.lists q f.0 in (
            q,
            there,
            not_true (is_some q.ended) two.1,
            (λ same. differ (uid_same u) (sym (ap (λ (v : Uid). uid_eq v u) (is ∙ same)) ∙ not_true (uid_eq (actor q.path) u) more.1)),
            ap (λ (us : List Uid). is_on us u) (sym (steady.good.tree.lists.paths_are w q there)) ∙ more.0,
          )

  may_go : (w : Uid) → list.In w below → IsAbortable act c w × (root (act w) ≡ unit)
  may_go w i = (record { branch = q.0; work = d.0; there = q.1; works = d.1; left = inl q.2; its = its }, on_root (act w) (act u) on_u)
    where
      q : (q : Branch) × (branch_of w c.tree ≡ Some q) × (is_some q.ended ≡ false) × (w ≢ u) × (is_on (paths w) u ≡ true)
      q = is_below_it w i

      d : (d : Doing) × (doing_of w c ≡ Some d)
      d = work_there c steady.works w q.0 q.1

      on_u : on (act w) (act u) ≡ true
      on_u = steady.alike.above w u ∙ q.4

      its : is_action (act w) ≡ true
      its = ⊎_elim (λ holds. holds) (λ isnt. absurd (q.3 (steady.alike.one w u (root_is (act w) isnt ∙ same_is (Root (root (act w))) (act u)
          (ap (λ (a : Act). on a (act u)) (sym (root_is (act w) isnt)) ∙ on_u))))) (by_cases (is_action (act w)))

  -- ---- the coordinator after it

  pub good_E : IsGoodCoord steady.actions paths E
  good_E = good_abort steady.actions paths steady.whole u intents c steady.good

  on_E : GoesOn c E
  on_E = let w = well_abort steady.actions paths steady.whole u intents c steady.good in w.on

  own_ended : (q : Branch) → branch_of u E.tree ≡ Some q → is_some q.ended ≡ true
  own_ended q there = let l = all_left paths steady.whole (below ++ u ∷ []) c.tree steady.good.tree.lists in
      l.done u q (last_in below) (ap (branch_of u) (sym (aborted_tree (below ++ u ∷ []) c)) ∙ there)
    where
      last_in : (ws : List Uid) → list.In u (ws ++ u ∷ [])
      last_in [] = inl refl
      last_in (w ∷ ws) = inr (last_in ws)

  still_there : (w : Uid) (r : Branch) → branch_of w c.tree ≡ Some r → (q : Branch) × (branch_of w E.tree ≡ Some q)
  still_there w r there = let g = on_E.kinds w r there in (g.0, g.1)

  -- all at the action and below it has ended
  pub over_E : (w : Uid) (q : Branch) → branch_of w E.tree ≡ Some q → is_on (paths w) u ≡ true → is_some q.ended ≡ true
  over_E w q there above = let k = still_there u b found in
      over_below paths steady.whole E.tree good_E.tree.lists good_E.tree.closed u k.0 k.1 (own_ended k.0 k.1) w q there above

  -- of a root's unit is whoever has it on its path
  in_unit : root_of b.path ≡ u → (w : Uid) (q : Branch) → uids_of q.path ≡ paths w → root (act w) ≡ unit → is_on (paths w) u ≡ true
  in_unit own w q path home =
      ap (is_on (paths w)) (sym first_is) ∙ first_on (paths w) (subst (λ (us : List Uid). 1 ≤ length us) path (path_some q.path))
    where
      first_is : first_uid (paths w) ≡ u
      first_is = steady.alike.units w u home ∙ ap first_uid (sym (steady.good.tree.lists.paths_are u b found)) ∙ own

  -- another root doesn't stand below it
  root_apart : (w : Uid) (r : Branch) → branch_of w c.tree ≡ Some r → root_of r.path ≡ w → w ≢ u → is_on (paths w) u ≡ true → ⊥
  root_apart w r there own other above =
      let home : root (act w) ≡ root (act u) = on_root (act w) (act u) (steady.alike.above w u ∙ above) in
      let first_is : first_uid (paths u) ≡ w = sym (steady.alike.units w u home)
      ∙ ap first_uid (sym (steady.good.tree.lists.paths_are w r there)) ∙ own in
      let some : 1 ≤ length (paths u) = subst (λ (us : List Uid). 1 ≤ length us) (steady.good.tree.lists.paths_are u b found)
      (path_some b.path) in
      other (steady.whole.anti w u above (ap (is_on (paths u)) (sym first_is) ∙ first_on (paths u) some))

  unit_zero : (S.action (Root unit)).stage ≡ 0
  unit_zero = unit_open act paths x c S steady sees.actions u b d0.0 found d0.1 unended

  -- what became of a branch
  abbrev Was : Uid → Branch → Type 0
  Was w q = (r : Branch) × (branch_of w c.tree ≡ Some r) × ((q ≡ r) ⊎ (q ≡ record r { ended = Some ending.Abort }))

  path_is : (w : Uid) (q : Branch) (r : Was w q) → q.path ≡ (let v = r.0 in v.path)
  path_is w q (r, there, inl is) = ap (λ (v : Branch). v.path) is
  path_is w q (r, there, inr is) = ap (λ (v : Branch). v.path) is

  kind_is : (w : Uid) (q : Branch) (r : Was w q) → q.kind ≡ (let v = r.0 in v.kind)
  kind_is w q (r, there, inl is) = ap (λ (v : Branch). v.kind) is
  kind_is w q (r, there, inr is) = ap (λ (v : Branch). v.kind) is

  abbrev Result : State → Type 0
  Result T = SeesCoord act code x E T × OnlyActed unit S T × (T.now ≡ S.now) × AreAborted act paths c.tree u T × AreUnitsOver act E.tree T
      × AbortsOnly act paths c.tree u S T

  -- those of a list are open at the action or below it
  aborts_of : (ws : List Uid) → ((w : Uid) → list.In w ws → IsOpenAt act paths c.tree u (act w)) → (T V : State) → ((a : Act) →
      is_action a ≡ true → IsGoneOr act code x steady.alike.one ws S a (T.action a)) → KeepsActions T V → AbortsOnly act paths c.tree u S V
  aborts_of ws opens T V ends keeps a its = ⊎_elim
      (λ is. inl (keeps a its ∙ is))
      (λ g. inr (keeps a its ∙ g.0, subst (IsOpenAt act paths c.tree u) (sym g.1.2) (opens g.1.0 g.1.1)))
      (ends a its)

  open_below_it : (w : Uid) → list.In w below → IsOpenAt act paths c.tree u (act w)
  open_below_it w i = let q = is_below_it w i in record {
    uid = w;
    branch = q.0;
    there = q.1;
    unended = q.2;
    below = q.4;
    is = refl;
    listed = Contains-append_left below (u ∷ []) w (in_to w below i);
  }

  open_there : (w : Uid) → list.In w (below ++ u ∷ []) → IsOpenAt act paths c.tree u (act w)
  open_there w i = ⊎_elim (λ j. open_below_it w j) (λ (is : u ≡ w). subst (λ (v : Uid). IsOpenAt act paths c.tree u (act v)) is (record {
    uid = u;
    branch = b;
    there = found;
    unended = unended;
    below = on_itself;
    is = refl;
    listed = Contains-append_right below (u ∷ []) u (in_to u (u ∷ []) (inl refl));
  })) (in_more w below u i)
    where
      on_itself : is_on (paths u) u ≡ true
      on_itself = ap (λ (vs : List Uid). is_on vs u) (sym (steady.good.tree.lists.paths_are u b found))
          ∙ ap (is_on (uids_of b.path)) (sym (steady.good.tree.lists.places u b found)) ∙ on_own b.path

  module _ (was : (w : Uid) (q : Branch) → branch_of w E.tree ≡ Some q → Was w q) (elsewhere : (w : Uid) → w ≢ u → (list.In w below → ⊥) →
      branch_of w E.tree ≡ branch_of w c.tree) where
    steady_E : IsSteady act paths E
    steady_E = record {
      actions = steady.actions;
      good = good_E;
      alike = steady.alike;
      whole = steady.whole;
      works = on_E.works ∙ steady.works ∙ sym on_E.branches;
      placed = λ w q there. (let r = was w q there in subst (IsPlaced (act w)) (sym (kind_is w q r)) (steady.placed w r.0 r.1));
    }

    all_aborted_now : (T : State) → SeesCoord act code x E T → AreAborted act paths c.tree u T
    all_aborted_now T sees_E w r there un above its = by q.0 q.1 (was w q.0 q.1) (over_E w q.0 q.1 above)
      where
        q : (q : Branch) × (branch_of w E.tree ≡ Some q)
        q = still_there w r there

        by : (q : Branch) → branch_of w E.tree ≡ Some q → Was w q → is_some q.ended ≡ true → (T.action (act w)).stage ≡ 4
        by q found_q (r', there', inl is) gone = let two : ◌≡◌ {A = Option Branch} (Some r) (Some r') = sym there ∙ there' in
            let same : r ≡ r' = cc two in differ gone (ap (λ (v : Branch). is_some v.ended) (is ∙ sym same) ∙ un)
        by q found_q (r', there', inr is) gone =
            let d = work_there E steady_E.works w q found_q in
            let a = sees_E.actions in
            let y = a.each w q d.0 found_q d.1 its in
            y.stage ∙ (λ i. (let v = is i in stage_of v.ended (let k = d.0 in k.now)))

    units_then : (T : State) → OnlyActed unit S T → (root_of b.path ≡ u → (T.action (Root unit)).stage ≡ 3) → AreUnitsOver act E.tree T
    units_then T only mine w q there own gone = ⊎_elim
        (λ (is : w ≡ u).
        let r = was w q there in
        let two : ◌≡◌ {A = Option Branch} (Some b) (Some r.0) = sym found ∙ ap (λ (v : Uid). branch_of v c.tree) (sym is) ∙ r.1 in
        let same : b ≡ r.0 = cc two in
        ap (λ (v : Uid). (T.action (Root (root (act v)))).stage) is
        ∙ mine (ap (λ (v : Branch). root_of v.path) same ∙ ap (λ p. root_of p) (sym (path_is w q r)) ∙ own ∙ is))
        (λ (other : w ≢ u).
        let r = was w q there in
        let own_before = ap (λ p. root_of p) (sym (path_is w q r)) ∙ own in
        let k = units w q (sym (elsewhere w other (λ i. root_apart w r.0 r.1 own_before other (is_below_it w i).4)) ∙ there) own gone in
        ap (λ (a : Action). a.stage) (only.ended (Root (root (act w))) (omega (arith, k))) ∙ k)
        (uid_cases w u)

  -- ---- the action is one of the machine's

  module _ (its : is_action (act u) ≡ true) where
    abbrev us : List Uid
    us = below ++ u ∷ []

    may_all : (w : Uid) → list.In w us → IsAbortable act c w × (root (act w) ≡ unit)
    may_all w i = ⊎_elim (λ j. may_go w j)
        (λ (is : u ≡ w). (
          record {
            branch = b;
            work = d0.0;
            there = ap (λ (v : Uid). branch_of v c.tree) (sym is) ∙ found;
            works = ap (λ (v : Uid). doing_of v c) (sym is) ∙ d0.1;
            left = inl unended;
            its = ap (λ (v : Uid). is_action (act v)) (sym is) ∙ its;
          },
          ap (λ (v : Uid). root (act v)) (sym is),
        ))
        (in_more w below u i)

    ends_action : Goes S Result
    ends_action = goes_then (all_gone act code x steady.alike.one us unit c S may_all sees) (λ T g. ⊎_elim (unit_too T g) (λ other. record {
      state = T;
      run = stay;
      holds =
          all T g.sees g.only g.now g.was g.elsewhere (λ own. absurd (other own)) (aborts_of us open_there T T g.ends (λ a its_one. refl));
    }) (uid_cases (root_of b.path) u))
      where
        not_in : (w : Uid) → w ≢ u → (list.In w below → ⊥) → list.In w us → ⊥
        not_in w other none i = ⊎_elim none (λ is. other (sym is)) (in_more w below u i)

        all : (T : State) → SeesCoord act code x E T → OnlyActed unit S T → T.now ≡ S.now → ((w : Uid) (q : Branch) →
            branch_of w E.tree ≡ Some q → Was w q) → ((w : Uid) → (list.In w us → ⊥) → branch_of w E.tree ≡ branch_of w c.tree) →
            (root_of b.path ≡ u → (T.action (Root unit)).stage ≡ 3) → AbortsOnly act paths c.tree u S T → Result T
        all T sees_E only now was elsewhere mine ends = (
          sees_E,
          only,
          now,
          all_aborted_now was (λ w other none. elsewhere w (not_in w other none)) T sees_E,
          units_then was (λ w other none. elsewhere w (not_in w other none)) T only mine,
          ends,
        )

        unit_too : (T : State) → AreGone act code x steady.alike.one unit us c E S T → root_of b.path ≡ u → Goes T Result
        unit_too T g own =
            let k = still_there u b found in
            goes_to (plain_goes act paths x E u k.0 unit T (steady_E g.was (λ w other none. g.elsewhere w (not_in w other none)))
            g.sees.actions k.1 refl (λ w e there home. over_E w e there (in_unit own w e (good_E.tree.lists.paths_are w e there) home))
            (ap (λ (a : Action). a.stage) (g.units unit) ∙ unit_zero))
            (λ V h. all V (units_keep_roots act code x unit E T V g.sees h.1 h.0) (acted_both unit S T V g.only h.1) (h.2 ∙ g.now) g.was
            g.elsewhere (λ is. h.3) (aborts_of us open_there T V g.ends h.4))

  -- ---- or a unit

  module _ (its : is_action (act u) ≡ false) where
    own : root_of b.path ≡ u
    own = own_root act paths x c S steady sees.actions u b d0.0 found d0.1 its

    abbrev c1 : Coord
    c1 = let d = all_aborted below c in d.part

    unit_after : (T : State) → AreGone act code x steady.alike.one unit below c c1 S T → Goes T Result
    unit_after T g = goes_to (unit_ends act paths x c1 T steady.alike g.sees.actions u b d1.0 found_1 d1.1 its own
        (λ w q there. (let r = g.was w q there in ap uids_of (path_is w q r) ∙ steady.good.tree.lists.paths_are w r.0 r.1))
        (λ w q there. (let r = g.was w q there in let k = work_there c steady.works w r.0 r.1 in g.works w k.0 k.1))
        (λ w q there home other. over_E w q (ap (λ (v : Coord). branch_of w v.tree) last ∙ one.branches w other ∙ there)
        (in_unit own w q (let r = g.was w q there in ap uids_of (path_is w q r) ∙ steady.good.tree.lists.paths_are w r.0 r.1) home))
        (ap (λ (a : Action). a.stage) (g.units unit) ∙ unit_zero) ending.Abort) (λ V h. all V h.0 h.1 h.2.0 h.2.1 h.2.2)
      where
        d1 : (k : Doing) × (doing_of u c1 ≡ Some k)
        d1 = g.works u d0.0 d0.1

        found_1 : branch_of u c1.tree ≡ Some b
        found_1 = g.elsewhere u (λ i. (is_below_it u i).3 refl) ∙ found

        last : E ≡ ended u ending.Abort c1
        last = aborted_last below u c

        one : OnlyOne c1 u (record b { ended = Some ending.Abort }) (let k = d1.0 in record k { now = Idle }) (ended u ending.Abort c1)
        one = end_changed c1 u b d1.0 found_1 d1.1 ending.Abort

        was : (w : Uid) (q : Branch) → branch_of w E.tree ≡ Some q → Was w q
        was w q there = ⊎_elim
            (λ (is : w ≡ u).
            let two : ◌≡◌ {A = Option Branch} (Some (record b { ended = Some ending.Abort })) (Some q) = sym one.branch
            ∙ ap (λ (v : Coord). branch_of u v.tree) (sym last) ∙ ap (λ (v : Uid). branch_of v E.tree) (sym is) ∙ there in
            let same : record b { ended = Some ending.Abort } ≡ q = cc two in
            (b, ap (λ (v : Uid). branch_of v c.tree) is ∙ found, inr (sym same)))
            (λ (other : w ≢ u). g.was w q (sym (one.branches w other) ∙ ap (λ (v : Coord). branch_of w v.tree) (sym last) ∙ there))
            (uid_cases w u)

        elsewhere : (w : Uid) → w ≢ u → (list.In w below → ⊥) → branch_of w E.tree ≡ branch_of w c.tree
        elsewhere w other none = ap (λ (v : Coord). branch_of w v.tree) last ∙ one.branches w other ∙ g.elsewhere w none

        all : (V : State) → SeesActions act x (ended u ending.Abort c1) V.action → OnlyActed unit T V → V.now ≡ T.now →
            (V.action (act u)).stage ≡ 3 → KeepsActions T V → Result V
        all V acts only now stage keeps =
            let sees_E : SeesCoord act code x E V = subst (λ (e : Coord). SeesCoord act code x e V) (sym last)
            (one_stays act code x c1 (ended u ending.Abort c1) u b (record b { ended = Some ending.Abort }) (let k = d1.0 in
            record k { now = Idle }) T V found_1 (λ h. ap (ended_so ending.Abort) one.branch) g.sees only.rest acts one refl
            (ended_roots u ending.Abort c1) (λ s is. absurd (cc is))) in
            let both = acted_both unit S T V g.only only in (
              sees_E,
              both,
              now ∙ g.now,
              all_aborted_now was elsewhere V sees_E,
              units_then was elsewhere V both (λ is. ap (λ (a : Act). (V.action a).stage) (sym (root_is (act u) its)) ∙ stage),
              aborts_of below open_below_it T V g.ends keeps,
            )

    ends_unit : Goes S Result
    ends_unit = goes_then (all_gone act code x steady.alike.one below unit c S may_go sees) unit_after

pub abortions_go_down : AbortionsGoDown
abortions_go_down act code paths x c u b intents S steady found unended units sees = ⊎_elim
    (ends_action act code paths x c u b intents S steady found unended units sees)
    (ends_unit act code paths x c u b intents S steady found unended units sees)
    (by_cases (is_action (act u)))
