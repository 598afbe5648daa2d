-- A coordinator's lines about an abort with all that is open below it.
use Rattle.arj_law_parts.proofs.Words
use Words.{◌≡◌, ◌≢◌, ◌≤◌, ◌⊎◌, ℕ, List, [], ◌∷◌, ◌++◌, true, false, Option, Some, refl, sym, ◌∙◌, ap, subst, inl, inr, ⊎_elim, arith}
use Words.{is_some, uid_cases, Body, in_from, Uid, is_on, uids_of, Coord, Doing, Idle, doing_of, Intent, all_aborted, ended, says, Branch}
use Words.{branch_of, open_below, numbered}
use Words.list
use Words.cause
use Words.ending
use Rattle.arj_law_lock_view.proofs.Terms
use Terms.{Act, Root, at_act, is_action, root, same, State, act_here, act_other, by_cases, differ, root_is, same_is, same_self, Paths}
use Terms.{on_own, in_more, work_there, IsSteady, Acts, Codes, AbortsOnly, ChangesOne, IsOpenAt, SameEnd, aborted, OnlyEnded, SeesWhole}
use Terms.{AreAborted, IsLabelled, IsOnPage, Page, bodies_of, IsTiedToLines, AreNamed, EndsStay}
use Terms.body
use Rattle.arj_law_lock.specs.machine.State.{Action}
use Rattle.arj_law_lock_view.proofs.journal
use journal.{EndTies.calls_stay, EndTies.first_stays, Reading.more, Saying.bodies_app, Saying.say_one}
use journal.Pages.{behind, behind_none, behind_one, named_still, one_tied, page_still, tied_same}
use Rattle.arj_law_lock_view.proofs.view.{ActingSteps.low_stage, ActingSteps.unit_open, OneSteps.OnlyOne, OneSteps.end_changed}
use Rattle.arj_law_lock_view.specs.journal.Coordinators.{KnowsLabels}
use Rattle.arj_law_lock_view.proofs.view.AbortSteps as abort

-- an action with its work
abbrev IsThere : Coord → Uid → Type 0
IsThere c w = (b : Branch) × (branch_of w c.tree ≡ Some b) × ((d : Doing) × (doing_of w c ≡ Some d))

there_still : (c : Coord) (w v : Uid) → IsThere c w → IsThere c v → IsThere (ended w ending.Abort c) v
there_still c w v (b, found, (d, works)) (q, there, (y, has_it)) = ⊎_elim
    (λ (is : v ≡ w). (
      record b { ended = Some ending.Abort },
      ap (λ (z : Uid). branch_of z (let e = ended w ending.Abort c in e.tree)) is ∙ one.branch,
      (record d { now = Idle }, ap (λ (z : Uid). doing_of z (ended w ending.Abort c)) is ∙ one.doing),
    ))
    (λ (other : v ≢ w). (q, one.branches v other ∙ there, (y, one.doings v other ∙ has_it)))
    (uid_cases v w)
  where
    one : OnlyOne c w (record b { ended = Some ending.Abort }) (record d { now = Idle }) (ended w ending.Abort c)
    one = end_changed c w b d found works ending.Abort

-- an end leaves labels
labels_still : (ls : Page) (c : Coord) (w : Uid) → IsThere c w → KnowsLabels ls.lines c → KnowsLabels ls.lines (ended w ending.Abort c)
labels_still ls c w (b, found, (d, works)) labels v q y there has_it = ⊎_elim
    (λ (is : v ≡ w).
    let two : ◌≡◌ {A = Option Branch} (Some (record b { ended = Some ending.Abort })) (Some q) = sym one.branch
    ∙ ap (λ (z : Uid). branch_of z (let e = ended w ending.Abort c in e.tree)) (sym is) ∙ there in
    let same_q : record b { ended = Some ending.Abort } ≡ q = cc two in
    let twice : ◌≡◌ {A = Option Doing} (Some (record d { now = Idle })) (Some y) = sym one.doing
    ∙ ap (λ (z : Uid). doing_of z (ended w ending.Abort c)) (sym is) ∙ has_it in
    let same_y : record d { now = Idle } ≡ y = cc twice in
    let l = labels w b d found works in
    subst (λ (z : Uid). IsLabelled ls.lines z q y) (sym is) (subst (λ (z : Doing). IsLabelled ls.lines w q z) same_y
    (subst (λ (z : Branch). IsLabelled ls.lines w z (record d { now = Idle })) same_q (l.0, l.1, l.2, l.3))))
    (λ (other : v ≢ w). labels v q y (sym (one.branches v other) ∙ there) (sym (one.doings v other) ∙ has_it))
    (uid_cases v w)
  where
    one : OnlyOne c w (record b { ended = Some ending.Abort }) (record d { now = Idle }) (ended w ending.Abort c)
    one = end_changed c w b d found works ending.Abort

-- ---- aborts, one after another

-- the machine with these actions aborted
abbrev without : Acts → List Uid → State → State
without act [] S = S
without act (w ∷ ws) S = without act ws (record S { action = at_act S.action (act w) (aborted (S.action (act w))) })

-- it is as it was but for these
abbrev Without : Acts → List Uid → State → Act → Type 0
Without act ws S a = (((without act ws S).action a ≡ S.action a) × ((w : Uid) → list.In w ws → same a (act w) ≡ false))
    ⊎ (((without act ws S).action a ≡ aborted (S.action a)) × ((w : Uid) × list.In w ws × (a ≡ act w)))

stands : (act : Acts) (ws : List Uid) (S : State) (a : Act) → Without act ws S a
stands act [] S a = inl (refl, λ w none. absurd none)
stands act (w ∷ ws) S a = by (by_cases (same a (act w))) (stands act ws behind_first a)
  where
    behind_first : State
    behind_first = record S { action = at_act S.action (act w) (aborted (S.action (act w))) }

    by : (same a (act w) ≡ true) ⊎ (same a (act w) ≡ false) → Without act ws behind_first a → Without act (w ∷ ws) S a
    by (inl is) (inl (then, none)) = inr (then ∙ here, (w, inl refl, e))
      where
        e : a ≡ act w
        e = same_is a (act w) is

        here : behind_first.action a ≡ aborted (S.action a)
        here = subst (λ (k : Act). behind_first.action k ≡ aborted (S.action k)) (sym e)
            (act_here S.action (act w) (aborted (S.action (act w))))
    by (inl is) (inr (then, (v, i, at))) = inr (then ∙ ap aborted here, (v, inr i, at))
      where
        e : a ≡ act w
        e = same_is a (act w) is

        here : behind_first.action a ≡ aborted (S.action a)
        here = subst (λ (k : Act). behind_first.action k ≡ aborted (S.action k)) (sym e)
            (act_here S.action (act w) (aborted (S.action (act w))))
    by (inr isnt) (inl (then, none)) = inl (
      then ∙ act_other S.action (act w) (aborted (S.action (act w))) a isnt,
      λ v i. ⊎_elim (λ (is : w ≡ v). subst (λ (z : Uid). same a (act z) ≡ false) is isnt) (none v) i,
    )
    by (inr isnt) (inr (then, (v, i, at))) =
        inr (then ∙ ap aborted (act_other S.action (act w) (aborted (S.action (act w))) a isnt), (v, inr i, at))

without_rest : (act : Acts) (ws : List Uid) (S : State) → without act ws S ≡ record S { action = (without act ws S).action }
without_rest act [] S = refl
without_rest act (w ∷ ws) S = without_rest act ws (record S { action = at_act S.action (act w) (aborted (S.action (act w))) })

module _ (act : Acts) (code : Codes) (x : ℕ) where
  all_tied : (ws : List Uid) (p : Page) (c : Coord) (S : State) →
      ((w : Uid) → list.In w ws → IsThere c w × ((S.action (act w)).stage ≢ 3)) → IsOnPage act code x p c S →
      IsTiedToLines act code p.values x (p.lines ++ numbered p.event (bodies_of (let t = all_aborted ws c in t.outs))) (without act ws S)
  all_tied [] p c S may on = subst (λ (q : Page). IsTiedToLines act code p.values x q.lines S) (sym (behind_none p)) on.tied
  all_tied (w ∷ ws) p c S may on =
      subst (λ bs. IsTiedToLines act code p.values x (p.lines ++ numbered p.event bs) (without act ws behind_first)) (sym says_it)
      (subst (λ (q : Page). IsTiedToLines act code p.values x q.lines (without act ws behind_first))
      (behind_one p line (bodies_of (let t = all_aborted ws (ended w ending.Abort c) in t.outs)))
      (all_tied ws p1 (ended w ending.Abort c) behind_first
      (λ v i. (there_still c w v (may w (inl refl)).0 (may v (inr i)).0, not_done v (may v (inr i)).1)) on1))
    where
      it : IsThere c w
      it = (may w (inl refl)).0

      d : Doing
      d = it.2.0

      line : Body
      line = body.Aborted d.label cause.Asked

      p1 : Page
      p1 = record p { lines = more p.lines p.event line }

      behind_first : State
      behind_first = record S { action = at_act S.action (act w) (aborted (S.action (act w))) }

      l : IsLabelled p.lines w it.0 d
      l = on.labels w it.0 d it.1 it.2.1

      on1 : IsOnPage act code x p1 (ended w ending.Abort c) behind_first
      on1 = let y = page_still act code x p c S behind_first line refl on
          (one_tied act code x p c S behind_first on line refl (let t = on.tied in let k = t.now in omega (arith, k)) (
            (refl, refl),
            (
              l.0,
              l.1,
              subst (λ (v : Uid). is_action (act v) ≡ true → (S.action (act v)).stage ≢ 3) (sym l.2) (λ its. (may w (inl refl)).1),
              subst (λ (v : Uid). ChangesOne (act v) (aborted (S.action (act v))) S behind_first) (sym l.2) (record {
                one = λ its. act_here S.action (act w) (aborted (S.action (act w)));
                others = λ a its other. act_other S.action (act w) (aborted (S.action (act w))) a other;
              }),
            ),
          )) in
          record { named = y.named; labels = labels_still p1 c w it y.labels; tied = y.tied }

      not_done : (v : Uid) → (S.action (act v)).stage ≢ 3 → (behind_first.action (act v)).stage ≢ 3
      not_done v other = ⊎_elim
          (λ (is : same (act v) (act w) ≡ true) e.
          let f : (behind_first.action (act v)).stage ≡ 4 = ap (λ (k : Act). (behind_first.action k).stage) (same_is (act v) (act w) is)
          ∙ ap (λ (y : Action). y.stage) (act_here S.action (act w) (aborted (S.action (act w)))) in omega (arith, e, f))
          (λ (isnt : same (act v) (act w) ≡ false) e.
          other (ap (λ (y : Action). y.stage) (sym (act_other S.action (act w) (aborted (S.action (act w))) (act v) isnt)) ∙ e))
          (by_cases (same (act v) (act w)))

      says_it : bodies_of (let t = all_aborted (w ∷ ws) c in t.outs)
          ≡ line ∷ bodies_of (let t = all_aborted ws (ended w ending.Abort c) in t.outs)
      says_it = bodies_app (says w (λ k. body.Aborted k cause.Asked) c) (let t = all_aborted ws (ended w ending.Abort c) in t.outs)
          ∙ ap (λ bs. bs ++ bodies_of (let t = all_aborted ws (ended w ending.Abort c) in t.outs))
          (say_one w (λ k. body.Aborted k cause.Asked) c d it.2.1)

-- their lines begin no action
named_all : (act : Acts) (ws : List Uid) (p : Page) (c : Coord) → ((w : Uid) → list.In w ws → IsThere c w) → AreNamed act p.lines →
    AreNamed act (p.lines ++ numbered p.event (bodies_of (let t = all_aborted ws c in t.outs)))
named_all act [] p c may named = subst (λ (q : Page). AreNamed act q.lines) (sym (behind_none p)) named
named_all act (w ∷ ws) p c may named = subst (λ bs. AreNamed act (p.lines ++ numbered p.event bs)) (sym says_it)
    (subst (λ (q : Page). AreNamed act q.lines) (behind_one p line (bodies_of (let t = all_aborted ws (ended w ending.Abort c) in t.outs)))
    (named_all act ws (record p { lines = more p.lines p.event line }) (ended w ending.Abort c)
    (λ v i. there_still c w v it (may v (inr i))) (named_still act p.lines p.event line refl named)))
  where
    it : IsThere c w
    it = may w (inl refl)

    line : Body
    line = body.Aborted (let d = it.2.0 in d.label) cause.Asked

    says_it :
        bodies_of (let t = all_aborted (w ∷ ws) c in t.outs) ≡ line ∷ bodies_of (let t = all_aborted ws (ended w ending.Abort c) in t.outs)
    says_it = bodies_app (says w (λ k. body.Aborted k cause.Asked) c) (let t = all_aborted ws (ended w ending.Abort c) in t.outs)
        ∙ ap (λ bs. bs ++ bodies_of (let t = all_aborted ws (ended w ending.Abort c) in t.outs))
        (say_one w (λ k. body.Aborted k cause.Asked) c it.2.0 it.2.1)

-- an action is aborted with all that is open below it, by their lines
pub abort_said : (act : Acts) (code : Codes) (paths : Paths) (x : ℕ) (p : Page) (c : Coord) (u : Uid) (b : Branch)
    (intents : List (Uid × Intent)) (S T : State) → IsSteady act paths c → branch_of u c.tree ≡ Some b → is_some b.ended ≡ false →
    IsOnPage act code x p c S → SeesWhole act code x c S
    → OnlyEnded (root (act u)) S T → T.now ≡ S.now → AreAborted act paths c.tree u T → AbortsOnly act paths c.tree u S T → IsTiedToLines
    act code p.values x (p.lines ++ numbered p.event (bodies_of (let t = all_aborted (open_below u c.tree ++ u ∷ []) c in t.outs))) T
abort_said act code paths x p c u b intents S T steady found unended on whole only now gone aborts =
    tied_same act code (behind p (bodies_of (let t = all_aborted us c in t.outs))) x W T named_W (let t = tied_W in let k = t.now in
    let e : W.now ≡ S.now = ap (λ (s : State). s.now) (without_rest act us S) in omega (arith, k, e, now))
    (first_stays (root (act u)) S T only ∙ sym (ap (λ (s : State). s.initial) (without_rest act us S))) (
      (calls_stay (root (act u)) S T only).0 ∙ sym (ap (λ (s : State). s.calls) (without_rest act us S)),
      (calls_stay (root (act u)) S T only).1 ∙ sym (ap (λ (s : State). s.includes) (without_rest act us S)),
    )
    ends tied_W
  where
    us : List Uid
    us = open_below u c.tree ++ u ∷ []

    -- each of them is open
    open_one : (w : Uid) → list.In w us →
        (q : Branch) × (branch_of w c.tree ≡ Some q) × (is_some q.ended ≡ false) × (is_on (paths w) u ≡ true)
    open_one w i = ⊎_elim
        (λ j. let q = abort.is_below_it act code paths x c u b intents S steady found unended whole.units whole.coord w j in
        (q.0, q.1, q.2, q.4))
        (λ (is : u ≡ w).
        subst (λ (v : Uid). (q : Branch) × (branch_of v c.tree ≡ Some q) × (is_some q.ended ≡ false) × (is_on (paths v) u ≡ true)) is (
          b,
          found,
          unended,
          ap (λ (vs : List Uid). is_on vs u) (sym (steady.good.tree.lists.paths_are u b found))
              ∙ ap (is_on (uids_of b.path)) (sym (steady.good.tree.lists.places u b found)) ∙ on_own b.path,
        ))
        (in_more w (open_below u c.tree) u i)

    stage_low : (w : Uid) → list.In w us → is_action (act w) ≡ true → (S.action (act w)).stage ≤ 1
    stage_low w i its = let q = open_one w i in let d = work_there c steady.works w q.0 q.1 in let k = whole.coord in let a = k.actions in
        low_stage x q.0 d.0 (S.action (act w)) (a.each w q.0 d.0 q.1 d.1 its) q.2

    not_done : (w : Uid) → list.In w us → (S.action (act w)).stage ≢ 3
    not_done w i e = ⊎_elim (λ (its : is_action (act w) ≡ true). let l = stage_low w i its in
        omega (arith, l, e)) (λ (isnt : is_action (act w) ≡ false). unit w i isnt e) (by_cases (is_action (act w)))
      where
        unit : (w : Uid) → list.In w us → is_action (act w) ≡ false → (S.action (act w)).stage ≡ 3 → ⊥
        unit w i isnt e =
            let q = open_one w i in
            let d = work_there c steady.works w q.0 q.1 in
            let k = whole.coord in
            let z = unit_open act paths x c S steady k.actions w q.0 d.0 q.1 d.1 q.2 in
            let f : (S.action (act w)).stage ≡ (S.action (Root (root (act w)))).stage = ap (λ (a : Act). (S.action a).stage)
            (root_is (act w) isnt) in
            omega (arith, e, f, z)

    tied_W :
        IsTiedToLines act code p.values x (p.lines ++ numbered p.event (bodies_of (let t = all_aborted us c in t.outs))) (without act us S)
    tied_W =
        all_tied act code x us p c S (λ w i. ((let q = open_one w i in (q.0, q.1, work_there c steady.works w q.0 q.1)), not_done w i)) on

    W : State
    W = without act us S

    named_W : AreNamed act (p.lines ++ numbered p.event (bodies_of (let t = all_aborted us c in t.outs)))
    named_W = named_all act us p c (λ w i. (let q = open_one w i in (q.0, q.1, work_there c steady.works w q.0 q.1))) on.named

    ends : EndsStay W T
    ends a its = by (stands act us S a) (aborts a its)
      where
        same_ends : (m n : Action) → n ≡ m → SameEnd m n
        same_ends m n is = subst (SameEnd m) (sym is) (record { stage = refl; place = refl; done = refl })

        by : Without act us S a → (T.action a ≡ S.action a) ⊎ ((T.action a ≡ aborted (S.action a)) × IsOpenAt act paths c.tree u a) →
            SameEnd (W.action a) (T.action a)
        by (inl (same_W, none)) (inl same_T) = same_ends (W.action a) (T.action a) (same_T ∙ sym same_W)
        by (inl (same_W, none)) (inr (gone_T, o)) =
            absurd (differ (ap (same a) (sym o.is) ∙ same_self a) (none o.uid (in_from o.uid us o.listed)))
        by (inr (gone_W, more_W)) (inr (gone_T, o)) = same_ends (W.action a) (T.action a) (gone_T ∙ sym gone_W)
        by (inr (gone_W, (w, i, at))) (inl same_T) =
            let q = open_one w i in
            let its_w : is_action (act w) ≡ true = ap is_action (sym at) ∙ its in
            let four : (T.action (act w)).stage ≡ 4 = gone w q.0 q.1 q.2 q.3 its_w in
            let low_w = stage_low w i its_w in
            let e : (T.action (act w)).stage ≡ (S.action (act w)).stage = ap (λ (y : Act). (T.action y).stage) (sym at)
            ∙ ap (λ (y : Action). y.stage) same_T ∙ ap (λ (y : Act). (S.action y).stage) at in
            absurd (omega (arith, four, low_w, e))
