-- A stop ends all actions of a coordinator in the machine, and a restart commits the one whose record it finds.
use Rattle.arj_law_parts.proofs.Words
use Words.{◌≡◌, ◌≢◌, ◌≤◌, ◌+◌, ◌⊎◌, ◌∙◌, ◌==◌, ℕ, List, [], ◌∷◌, Bool, true, false, cond, Option, Some, None, refl, sym, ap, subst, inl}
use Words.{inr, ⊎_elim, is_some, arith, eqb-true, uid_cases, Uid, first_uid, is_on, actor, Coord, new_coord, Branch, Tree, branch_of}
use Words.{new_tree, root_of}
use Words.list
use Rattle.arj_law_lock_view.proofs.Terms
use Terms.{Act, Root, Sub, at_act, is_action, is_top, root, same, next, stay, step, State, Abort, Decide, EndUnit, Report, act_here}
use Terms.{act_other, by_cases, differ, on_root, same_is, same_self, top_action, Paths, found_by, place_in, work_there, OnlyActed, IsHere}
use Terms.{IsSteady, stage_of, Acts, Codes, ChangesOne, aborted, committed_at, Goes, SeesCoord, AreUnitsOver, HasStopped, IfDecided}
use Terms.{IsDecided, IsUnitOf, OnlyStopped}
use Rattle.arj_law_lock.specs.machine.State.{Action}
use Rattle.arj_law_lock_view.proofs.view
use view.{BeginSteps.same_coord, NewSteps.new_coords_are_seen, OneSteps.over_stage, RunSteps.goes_then, RunSteps.goes_to}
use view.AbortSteps.{acted_both, branch_found}
use view.ActingSteps.{changes_one, low_stage, only_acted, unended_none, unit_open, unit_other}
use view.TreeSteps.{root_there, top_kind}
use Rattle.arj_law_lock_view.specs.{view.Ending.decided, view.Inputs.StopsAreTaken}
use Rattle.arj_law_lock_view.specs.view.Stops.{HasEnded, RecordsAreFound, RestartedCoordsAreSeen, StopsAreSeen, StopsStay}

-- who is decided, where somebody is
decided_one : (act : Acts) (c : Coord) (S : State) (last : Option Uid) → IfDecided act c last S → (u : Uid) → last ≡ Some u →
    IsDecided act c u S
decided_one act c S None one u is = absurd (cc is)
decided_one act c S (Some v) one u is = let same : v ≡ u = cc is in subst (λ (w : Uid). IsDecided act c w S) same one

unit_is_not : (m n : ℕ) → (m ≡ n) ⊎ (m ≢ n)
unit_is_not m n = grind arith

module _ (act : Acts) (code : Codes) (paths : Paths) (x : ℕ) (c : Coord) (last : Option Uid) (S : State) (steady : IsSteady act paths c)
    (one : (u : Uid) → last ≡ Some u → IsDecided act c u S) (over : AreUnitsOver act c.tree S) (sees : SeesCoord act code x c S) where
  abbrev t : Tree
  t = c.tree

  -- ---- what has changed so far

  -- as it was, aborted, or decided
  abbrev EndsSo : Act → Action → Type 0
  EndsSo a v = (v ≡ S.action a) ⊎ (IsHere act t a × ((v ≡ aborted (S.action a)) ⊎ (v ≡ decided (S.action a))))

  record Frame (T : State) : Type 0 where
    rest : T ≡ record S { action = T.action }
    others : (a : Act) → (IsUnitOf act t (root a) → ⊥) → T.action a ≡ S.action a
    ended : (a : Act) → 3 ≤ (S.action a).stage → T.action a ≡ S.action a
    idle : (a : Act) → is_action a ≡ true → IsHere act t a ⊎ (T.action a ≡ S.action a)
    units : (n : ℕ) → (T.action (Root n) ≡ S.action (Root n)) ⊎ ((T.action (Root n)).stage ≡ 3)
    spared : (u : Uid) → last ≡ Some u → T.action (Root (root (act u))) ≡ S.action (Root (root (act u)))
    ends : (a : Act) → is_action a ≡ true → EndsSo a (T.action a)

  -- how an action stands
  abbrev Stands : State → Uid → Type 0
  Stands T u = ((last ≡ Some u) × ((T.action (act u)).stage ≡ 2))
      ⊎ ((last ≢ Some u) × (((T.action (act u)).stage ≤ 1) ⊎ HasEnded (T.action (act u))))

  abbrev AllStand : State → Type 0
  AllStand T = (u : Uid) (b : Branch) → branch_of u t ≡ Some b → is_action (act u) ≡ true → Stands T u

  abbrev Keeps : State → State → Type 0
  Keeps T V = (a : Act) → 2 ≤ (T.action a).stage → V.action a ≡ T.action a

  abbrev with_one : State → Act → Action → State
  with_one T a v = record T { action = at_act T.action a v }

  keeps_one : (T : State) (a : Act) (v : Action) → (T.action a).stage ≤ 1 → Keeps T (with_one T a v)
  keeps_one T a v low q high = act_other T.action a v q (⊎_elim (λ same_one. absurd (let e : (T.action q).stage ≡ (T.action a).stage = ap
      (λ (r : Act). (T.action r).stage) (same_is q a same_one) in omega (arith, high, e, low))) (λ none. none) (by_cases (same q a)))

  -- an action of the tree changes that isn't decided
  frame_one : (T : State) → Frame T → (w : Uid) (b : Branch) → branch_of w t ≡ Some b → is_action (act w) ≡ true →
      (T.action (act w)).stage ≤ 1 → (v : Action) → EndsSo (act w) v → Frame (with_one T (act w) v)
  frame_one T g w b there its low v so = record {
    rest = ap (λ (s : State). record s { action = at_act T.action (act w) v }) g.rest;
    others = λ a far. act_other T.action (act w) v a (⊎_elim (λ same_one. absurd (far (w, b, there, ap root (same_is a (act w) same_one))))
        (λ none. none) (by_cases (same a (act w)))) ∙ g.others a far;
    ended = λ a high. act_other T.action (act w) v a (⊎_elim (λ same_one. absurd (let e : (T.action a).stage ≡ (T.action (act w)).stage = ap
        (λ (r : Act). (T.action r).stage) (same_is a (act w) same_one) in let k : (T.action a).stage ≡ (S.action a).stage = ap (λ (r :
        Action). r.stage) (g.ended a high) in omega (arith, high, e, k, low))) (λ none. none) (by_cases (same a (act w)))) ∙ g.ended a high;
    idle = λ a is. ⊎_elim (λ same_one. inl (w, b, there, same_is a (act w) same_one)) (λ none.
        ⊎_elim (λ here. inl here) (λ old. inr (act_other T.action (act w) v a none ∙ old)) (g.idle a is)) (by_cases (same a (act w)));
    units = λ n. (let e = act_other T.action (act w) v (Root n) (unit_other n (act w) its) in
        ⊎_elim (λ old. inl (e ∙ old)) (λ three. inr (ap (λ (r : Action). r.stage) e ∙ three)) (g.units n));
    spared = λ u is. act_other T.action (act w) v (Root (root (act u))) (unit_other (root (act u)) (act w) its) ∙ g.spared u is;
    ends = λ a is. ⊎_elim (λ same_one. subst (λ (k : Act). EndsSo k (at_act T.action (act w) v k)) (sym (same_is a (act w) same_one))
        (subst (EndsSo (act w)) (sym (act_here T.action (act w) v)) so))
        (λ none. subst (EndsSo a) (sym (act_other T.action (act w) v a none)) (g.ends a is)) (by_cases (same a (act w)));
  }

  stand_one : (T : State) (w : Uid) (v : Action) → ((u : Uid) (b : Branch) → branch_of u t ≡ Some b → is_action (act u) ≡ true → u ≢ w →
      Stands T u) → ((last ≡ Some w) × (v.stage ≡ 2)) ⊎ ((last ≢ Some w) × HasEnded v) → AllStand (with_one T (act w) v)
  stand_one T w v old new u b there its = ⊎_elim
      (λ (is : u ≡ w). let e : at_act T.action (act w) v (act u) ≡ v = ap (at_act T.action (act w) v) (ap act is)
      ∙ act_here T.action (act w) v in ⊎_elim
      (λ (d : (last ≡ Some w) × (v.stage ≡ 2)). inl (d.0 ∙ ap Some (sym is), ap (λ (r : Action). r.stage) e ∙ d.1))
      (λ (d : (last ≢ Some w) × HasEnded v). inr ((λ k. d.0 (k ∙ ap Some is)), inr (subst HasEnded (sym e) d.1)))
      new)
      (λ (other : u ≢ w). let e = act_other T.action (act w) v (act u) (⊎_elim (λ same_one. absurd (other (steady.alike.one u w
      (same_is (act u) (act w) same_one)))) (λ none. none) (by_cases (same (act u) (act w)))) in subst (λ (r : Action).
      ((last ≡ Some u) × (r.stage ≡ 2)) ⊎ ((last ≢ Some u) × ((r.stage ≤ 1) ⊎ HasEnded r))) (sym e) (old u b there its other))
      (uid_cases u w)

  -- ---- the decision

  frame_none : Frame S
  frame_none = record {
    rest = refl;
    others = λ a far. refl;
    ended = λ a high. refl;
    idle = λ a is. inr refl;
    units = λ n. inl refl;
    spared = λ u is. refl;
    ends = λ a is. inl refl;
  }

  seen : (u : Uid) (b : Branch) → branch_of u t ≡ Some b → is_action (act u) ≡ true →
      ((S.action (act u)).stage ≤ 1) ⊎ HasEnded (S.action (act u))
  seen u b there its =
      let d = work_there c steady.works u b there in
      let a = sees.actions in
      let s = a.each u b d.0 there d.1 its in
      ⊎_elim (λ un. inl (low_stage x b d.0 (S.action (act u)) s un)) (λ gone. inr (over_stage x b d.0 (S.action (act u)) s gone))
      (cases (is_some b.ended))
    where
      cases : (v : Bool) → (v ≡ false) ⊎ (v ≡ true)
      cases true = inr refl
      cases false = inl refl

  begins : (o : Option Uid) → last ≡ o → Goes S (λ T. Frame T × AllStand T)
  begins None is = record { state = S; run = stay; holds = (frame_none, λ u b there its. inr ((λ k. cc (sym is ∙ k)), seen u b there its)) }
  begins (Some v) is = record {
    state = with_one S (act v) mid;
    run = step (Decide (act v)) (top, at_one, it.backed.calls, it.backed.includes) stay;
    holds = (
      frame_one S frame_none v it.branch it.there (top_action (act v) top) (omega (arith, at_one)) mid
          (inr ((v, it.branch, it.there, refl), inr refl)),
      stand_one S v mid (λ u b there its other. inr ((λ k. other (cc (sym k ∙ is))), seen u b there its)) (inl (is, refl)),
    );
  }
    where
      it : IsDecided act c v S
      it = one v is

      mid : Action
      mid = record (S.action (act v)) { stage = 2 }

      top : is_top (act v) ≡ true
      top = top_kind (act v) (let b = it.branch in b.kind) it.unserial it.unnested (steady.placed v it.branch it.there)

      at_one : (S.action (act v)).stage ≡ 1
      at_one = let a = sees.actions in let s = a.each v it.branch it.work it.there it.works (top_action (act v) top) in
          s.stage ∙ (λ i. stage_of (unended_none (let b = it.branch in b.ended) it.unended i) (it.at_commit i))

  -- ---- the aborts

  abbrev IsSettled : State → Uid → Type 0
  IsSettled T w = (last ≡ Some w) ⊎ HasEnded (T.action (act w))

  settled_still : (T V : State) (w : Uid) → Keeps T V → IsSettled T w → IsSettled V w
  settled_still T V w keeps (inl is) = inl is
  settled_still T V w keeps (inr (inl three)) = inr (subst HasEnded (sym (keeps (act w) (omega (arith, three)))) (inl three))
  settled_still T V w keeps (inr (inr four)) = inr (subst HasEnded (sym (keeps (act w) (omega (arith, four)))) (inr four))

  keeps_both : (T V W : State) → Keeps T V → Keeps V W → Keeps T W
  keeps_both T V W first second a high = let e = first a high in second a (subst (λ (r : Action). 2 ≤ r.stage) (sym e) high) ∙ e

  abbrev Further : State → (State → Type 0) → State → Type 0
  Further T P V = Frame V × AllStand V × Keeps T V × P V

  settle : (T : State) (w : Uid) (b : Branch) → branch_of w t ≡ Some b → Frame T → AllStand T →
      Goes T (Further T (λ V. is_action (act w) ≡ true → IsSettled V w))
  settle T w b there g all = ⊎_elim action (λ isnt. nothing (λ its. differ its isnt)) (by_cases (is_action (act w)))
    where
      nothing : (is_action (act w) ≡ true → IsSettled T w) → Goes T (Further T (λ V. is_action (act w) ≡ true → IsSettled V w))
      nothing done = record { state = T; run = stay; holds = (g, all, (λ a high. refl), done) }

      action : is_action (act w) ≡ true → Goes T (Further T (λ V. is_action (act w) ≡ true → IsSettled V w))
      action its = by (all w b there its)
        where
          gone : Action
          gone = record (T.action (act w)) { stage = 4 }

          so : EndsSo (act w) (T.action (act w)) → EndsSo (act w) gone
          so (inl is) = inr ((w, b, there, refl), inl (ap aborted is))
          so (inr (here, inl is)) = inr (here, inl (ap aborted is))
          so (inr (here, inr is)) = inr (here, inl (ap aborted is))

          by : Stands T w → Goes T (Further T (λ V. is_action (act w) ≡ true → IsSettled V w))
          by (inl d) = nothing (λ h. inl d.0)
          by (inr (other, inr done)) = nothing (λ h. inr done)
          by (inr (other, inl low)) = record {
            state = with_one T (act w) gone;
            run = step (Abort (act w)) (its, low) stay;
            holds = (
              frame_one T g w b there its low gone (so (g.ends (act w) its)),
              stand_one T w gone (λ u q found h apart. all u q found h) (inr (other, inr refl)),
              keeps_one T (act w) gone low,
              λ h. inr (inr (ap (λ (r : Action). r.stage) (act_here T.action (act w) gone))),
            );
          }

  abbrev AllSettled : List Branch → State → Type 0
  AllSettled bs T = (b : Branch) → list.In b bs → is_action (act (actor b.path)) ≡ true → IsSettled T (actor b.path)

  settle_all : (bs : List Branch) → ((b : Branch) → list.In b bs → branch_of (actor b.path) t ≡ Some b) → (T : State) → Frame T →
      AllStand T → Goes T (Further T (AllSettled bs))
  settle_all [] there T g all = record { state = T; run = stay; holds = (g, all, (λ a high. refl), λ b i. absurd i) }
  settle_all (b ∷ bs) there T g all =
      goes_then (settle T (actor b.path) b (there b (inl refl)) g all) (λ V h. goes_to (settle_all bs (λ q i. there q (inr i)) V h.0 h.1)
      (λ W k. (
        k.0,
        k.1,
        keeps_both T V W h.2 k.2,
        λ q i its. ⊎_elim
            (λ (is : b ≡ q). subst (λ (y : Branch). IsSettled W (actor y.path)) is
            (settled_still V W (actor b.path) k.2 (h.3 (ap (λ (y : Branch). is_action (act (actor y.path))) is ∙ its))))
            (λ j. k.3 q j its)
            i,
      )))

  -- ---- the units

  -- all actions of the tree are settled
  abbrev AreSettled : State → Type 0
  AreSettled T = (u : Uid) (b : Branch) → branch_of u t ≡ Some b → is_action (act u) ≡ true → IsSettled T u

  still_settled : (T V : State) → Keeps T V → AreSettled T → AreSettled V
  still_settled T V keeps all u b there its = settled_still T V u keeps (all u b there its)

  abbrev IsUnitDone : State → ℕ → Type 0
  IsUnitDone T n = ((w : Uid) × (last ≡ Some w) × (root (act w) ≡ n)) ⊎ ((T.action (Root n)).stage ≡ 3)

  done_still : (T V : State) (n : ℕ) → Keeps T V → IsUnitDone T n → IsUnitDone V n
  done_still T V n keeps (inl l) = inl l
  done_still T V n keeps (inr three) = inr (ap (λ (r : Action). r.stage) (keeps (Root n) (omega (arith, three))) ∙ three)

  -- the unit is the last one's
  last_unit : (o : Option Uid) → last ≡ o → (n : ℕ) →
      ((w : Uid) × (last ≡ Some w) × (root (act w) ≡ n)) ⊎ ((w : Uid) → last ≡ Some w → root (act w) ≢ n)
  last_unit None is n = inr (λ w k. cc (sym is ∙ k))
  last_unit (Some v) is n = ⊎_elim (λ same. inl (v, is, same)) (λ other. inr (λ w k. (let one_is : v ≡ w = cc (sym is ∙ k) in
      λ e. other (ap (λ (y : Uid). root (act y)) one_is ∙ e)))) (unit_is_not (root (act v)) n)

  end_unit : (T : State) (u : Uid) (b : Branch) → branch_of u t ≡ Some b → Frame T → AllStand T → AreSettled T →
      Goes T (Further T (λ V. IsUnitDone V (root (act u))))
  end_unit T u b there g all settled = ⊎_elim (λ mine. nothing (inl mine))
      (λ free. ⊎_elim (same_unit free) (λ three. nothing (inr three)) (g.units n)) (last_unit last refl n)
    where
      n : ℕ
      n = root (act u)

      nothing : IsUnitDone T n → Goes T (Further T (λ V. IsUnitDone V n))
      nothing done = record { state = T; run = stay; holds = (g, all, (λ a high. refl), done) }

      over_now : Action
      over_now = record (T.action (Root n)) { stage = 3 }

      V : State
      V = with_one T (Root n) over_now

      same_unit : ((w : Uid) → last ≡ Some w → root (act w) ≢ n) → T.action (Root n) ≡ S.action (Root n) →
          Goes T (Further T (λ V. IsUnitDone V n))
      same_unit free same_now = by (is_some (let r = r0.0 in r.ended)) refl
        where
          r0 : (r : Branch) × (branch_of (root_of b.path) t ≡ Some r) × (is_on (paths u) (root_of b.path) ≡ true)
          r0 = root_there act paths x c S.action steady sees.actions u b there

          home : root (act (root_of b.path)) ≡ n
          home = sym (on_root (act u) (act (root_of b.path)) (steady.alike.above u (root_of b.path) ∙ r0.2))

          own : root_of (let r = r0.0 in r.path) ≡ root_of b.path
          own = ap first_uid (steady.good.tree.lists.paths_are (root_of b.path) r0.0 r0.1) ∙ steady.alike.units (root_of b.path) u home
              ∙ ap first_uid (sym (steady.good.tree.lists.paths_are u b there))

          by : (v : Bool) → is_some (let r = r0.0 in r.ended) ≡ v → Goes T (Further T (λ V. IsUnitDone V n))
          by true gone = nothing (inr (ap (λ (r : Action). r.stage) same_now
              ∙ subst (λ (k : ℕ). (S.action (Root k)).stage ≡ 3) home (over (root_of b.path) r0.0 r0.1 own gone)))
          by false un = record {
            state = V;
            run = step (EndUnit n) (zero_now, tops) stay;
            holds = (
              frame,
              stands,
              keeps_one T (Root n) over_now (omega (arith, zero_now)),
              inr (ap (λ (r : Action). r.stage) (act_here T.action (Root n) over_now)),
            );
          }
            where
              zero_now : (T.action (Root n)).stage ≡ 0
              zero_now = ap (λ (r : Action). r.stage) same_now ∙ (let a = sees.actions in a.opened u b r0.0 there r0.1 un)

              tops : (m : Act) → is_top m ≡ true → root m ≡ n → ((T.action m).stage ≢ 1) × ((T.action m).stage ≢ 2)
              tops m top of = ⊎_elim here (λ idle. ⊎_elim here (λ old. let z = idle.stage in let e : (T.action m).stage ≡
                  (S.action m).stage = ap (λ (r : Action). r.stage) old in ((λ k. omega (arith, z, e, k)), (λ k. omega (arith, z, e, k))))
                  (g.idle m (top_action m top))) (let a = sees.actions in a.others u b m there of (top_action m top))
                where
                  here : IsHere act t m → ((T.action m).stage ≢ 1) × ((T.action m).stage ≢ 2)
                  here (w, q, found, is) = ⊎_elim
                      (λ mine. absurd (free w mine (ap root (sym is) ∙ of)))
                      (λ done. let e : (T.action m).stage ≡ (T.action (act w)).stage = ap (λ (a : Act). (T.action a).stage) is in ⊎_elim
                      (λ (three : (T.action (act w)).stage ≡ 3). ((λ k. omega (arith, e, three, k)), (λ k. omega (arith, e, three, k))))
                      (λ (four : (T.action (act w)).stage ≡ 4). ((λ k. omega (arith, e, four, k)), (λ k. omega (arith, e, four, k))))
                      done)
                      (settled w q found (ap is_action (sym is) ∙ top_action m top))

              stands : AllStand V
              stands w q found its = subst (λ (r : Action). ((last ≡ Some w) × (r.stage ≡ 2)) ⊎ ((last ≢ Some w) ×
                  ((r.stage ≤ 1) ⊎ HasEnded r))) (sym (act_other T.action (Root n) over_now (act w) (off (act w) its))) (all w q found its)
                where
                  off : (a : Act) → is_action a ≡ true → same a (Root n) ≡ false
                  off (Root k) h = absurd (cc h)
                  off (Sub a k) h = refl

              frame : Frame V
              frame = record {
                rest = ap (λ (s : State). record s { action = at_act T.action (Root n) over_now }) g.rest;
                others = λ a far. act_other T.action (Root n) over_now a (⊎_elim (λ same_one. absurd (far
                    (u, b, there, ap root (same_is a (Root n) same_one)))) (λ none. none) (by_cases (same a (Root n)))) ∙ g.others a far;
                ended = λ a high. act_other T.action (Root n) over_now a (⊎_elim (λ same_one.
                    absurd (let e : (T.action a).stage ≡ (T.action (Root n)).stage = ap (λ (r : Act). (T.action r).stage) (same_is a
                    (Root n) same_one) in let k : (T.action a).stage ≡ (S.action a).stage = ap (λ (r : Action). r.stage) (g.ended a high) in
                    omega (arith, high, e, k, zero_now))) (λ none. none) (by_cases (same a (Root n)))) ∙ g.ended a high;
                idle =
                    λ a is. ⊎_elim (λ here. inl here) (λ old. inr (act_other T.action (Root n) over_now a (off a is) ∙ old)) (g.idle a is);
                units = λ k. units_then k (same (Root k) (Root n)) refl;
                spared =
                    λ w is. act_other T.action (Root n) over_now (Root (root (act w))) (apart (root (act w)) (free w is)) ∙ g.spared w is;
                ends = λ a is. subst (EndsSo a) (sym (act_other T.action (Root n) over_now a (off a is))) (g.ends a is);
              }
                where
                  off : (a : Act) → is_action a ≡ true → same a (Root n) ≡ false
                  off (Root k) h = absurd (cc h)
                  off (Sub a k) h = refl

                  apart : (k : ℕ) → k ≢ n → same (Root k) (Root n) ≡ false
                  apart k other = ⊎_elim (λ (e : (k == n) ≡ true). absurd (other (eqb-true k n e))) (λ e. e) (by_cases (k == n))

                  units_then : (k : ℕ) (v : Bool) → same (Root k) (Root n) ≡ v →
                      (cond v over_now (T.action (Root k)) ≡ S.action (Root k)) ⊎ ((cond v over_now (T.action (Root k))).stage ≡ 3)
                  units_then k true e = inr refl
                  units_then k false e = g.units k

  abbrev AreDone : List Branch → State → Type 0
  AreDone bs T = (b : Branch) → list.In b bs → IsUnitDone T (root (act (actor b.path)))

  end_units : (bs : List Branch) → ((b : Branch) → list.In b bs → branch_of (actor b.path) t ≡ Some b) → (T : State) → Frame T →
      AllStand T → AreSettled T → Goes T (Further T (AreDone bs))
  end_units [] there T g all settled = record { state = T; run = stay; holds = (g, all, (λ a high. refl), λ b i. absurd i) }
  end_units (b ∷ bs) there T g all settled = goes_then (end_unit T (actor b.path) b (there b (inl refl)) g all settled)
      (λ V h. goes_to (end_units bs (λ q i. there q (inr i)) V h.0 h.1 (still_settled T V h.2 settled))
      (λ W k. (
        k.0,
        k.1,
        keeps_both T V W h.2 k.2,
        λ q i. ⊎_elim
            (λ (is : b ≡ q).
            subst (λ (y : Branch). IsUnitDone W (root (act (actor y.path)))) is (done_still V W (root (act (actor b.path))) k.2 h.3))
            (λ j. k.3 q j)
            i,
      )))

  -- ---- all of it

  found_all : (b : Branch) → list.In b t.branches → branch_of (actor b.path) t ≡ Some b
  found_all b i = branch_found paths t steady.good.tree.lists b i

  listed : (u : Uid) (b : Branch) → branch_of u t ≡ Some b → list.In b t.branches
  listed u b there = place_in u.num b t.branches (found_by u t b there).1

  result : (T : State) → Frame T → AllStand T → AreSettled T → AreDone t.branches T → HasStopped act t last T × OnlyStopped act t S T
  result T g all settled done = (
    record {
      top = λ u is. (let it = one u is in let top = top_kind (act u) (let b = it.branch in b.kind) it.unserial it.unnested (steady.placed u
          it.branch it.there) in (it.branch, it.there, top, decided u is (all u it.branch it.there (top_action (act u) top))));
      each = settled;
      units = λ u b there. ⊎_elim (λ l. inl (l.0, l.1, l.2, spare l.0 l.1 u l.2)) (λ three. inr three)
          (subst (λ (w : Uid). IsUnitDone T (root (act w))) (steady.good.tree.lists.places u b there) (done b (listed u b there)));
      others = λ u b a there home its. ⊎_elim (λ here. inl here) (λ idle. ⊎_elim (λ here. inl here) (λ old.
          inr (ap (λ (r : Action). r.stage) old ∙ idle.stage)) (g.idle a its)) (let k = sees.actions in k.others u b a there home its);
    },
    record { rest = g.rest; others = g.others; ended = g.ended; ends = g.ends },
  )
    where
      decided : (u : Uid) → last ≡ Some u → Stands T u → (T.action (act u)).stage ≡ 2
      decided u is (inl d) = d.1
      decided u is (inr d) = absurd (d.0 is)

      spare : (w : Uid) → last ≡ Some w → (u : Uid) → root (act w) ≡ root (act u) → (T.action (Root (root (act u)))).stage ≡ 0
      spare w is u home = let it = one w is in subst (λ (n : ℕ). (T.action (Root n)).stage ≡ 0) home (ap (λ (r : Action). r.stage)
          (g.spared w is) ∙ unit_open act paths x c S steady sees.actions w it.branch it.work it.there it.works it.unended)

  stops : Goes S (λ T. HasStopped act t last T × OnlyStopped act t S T)
  stops = goes_then (begins last refl) (λ T h. goes_then (settle_all t.branches found_all T h.0 h.1)
      (λ V k. let settled : AreSettled V = λ u b there its. subst (IsSettled V) (steady.good.tree.lists.places u b there)
      (k.3 b (listed u b there) (ap (λ (w : Uid). is_action (act w)) (steady.good.tree.lists.places u b there) ∙ its)) in
      goes_to (end_units t.branches found_all V k.0 k.1 settled) (λ W j. result W j.0 j.1 (still_settled V W j.2 settled) j.3)))

pub stops_are_seen : StopsAreSeen
stops_are_seen act code paths x c last S steady decided over sees =
    stops act code paths x c last S steady (decided_one act c S last decided) over sees

pub stops_are_taken : StopsAreTaken
stops_are_taken act code paths x c last S steady decided whole =
    stops_are_seen act code paths x c last S steady decided whole.units whole.coord

pub stops_stay : StopsStay
stops_stay act t last S T same_there h = record {
  top = λ u is. (let k = h.top u is in (k.0, k.1, k.2, ap (λ (r : Action). r.stage) (same_there (act u) (u, k.0, k.1, refl)) ∙ k.3));
  each = λ u b there its.
      ⊎_elim (λ l. inl l) (λ done. inr (subst HasEnded (sym (same_there (act u) (u, b, there, refl))) done)) (h.each u b there its);
  units = λ u b there. (let e : (T.action (Root (root (act u)))).stage ≡ (S.action (Root (root (act u)))).stage = ap
      (λ (r : Action). r.stage) (same_there (Root (root (act u))) (u, b, there, refl)) in
      ⊎_elim (λ l. inl (l.0, l.1, l.2, e ∙ l.3)) (λ three. inr (e ∙ three)) (h.units u b there));
  others = λ u b a there home its. ⊎_elim (λ here. inl here)
      (λ zero_one. inr (ap (λ (r : Action). r.stage) (same_there a (u, b, there, home)) ∙ zero_one)) (h.others u b a there home its);
}

-- ---- a restart

module _ (act : Acts) (t : Tree) (u : Uid) (p : ℕ) (S : State) (h : HasStopped act t (Some u) S) (now : S.now ≤ p) where
  abbrev n : ℕ
  n = root (act u)

  its : (b : Branch) × (branch_of u t ≡ Some b) × (is_top (act u) ≡ true) × ((S.action (act u)).stage ≡ 2)
  its = h.top u refl

  abbrev done : Action
  done = record (S.action (act u)) { stage = 3; done = p }

  abbrev told : State
  told = next (Report (act u) p) S

  same_one : (w : Uid) → ◌≡◌ {A = Option Uid} (Some u) (Some w) → u ≡ w
  same_one w is = cc is

  -- nobody else of the unit is at its commit
  settled : (a : Act) → is_action a ≡ true → root a ≡ n → same a (act u) ≡ false → ((S.action a).stage ≡ 0) ⊎ HasEnded (S.action a)
  settled a acts home other = ⊎_elim
      (λ (here : IsHere act t a). let w = here.0 in ⊎_elim
      (λ (mine : ◌≡◌ {A = Option Uid} (Some u) (Some w)).
      absurd (differ (ap (λ (v : Act). same v (act u)) (here.3 ∙ sym (ap act (same_one w mine))) ∙ same_self (act u)) other))
      (λ ended. inr (subst (λ (v : Act). HasEnded (S.action v)) (sym here.3) ended))
      (h.each w here.1 here.2 (ap is_action (sym here.3) ∙ acts)))
      (λ zero_one. inl zero_one)
      (h.others u its.0 a its.1 home acts)

  all_ended : (T : State) → (T.action (act u)).stage ≡ 3 → (T.action (Root n)).stage ≡ 3 → ((a : Act) → is_action a ≡ true → same a (act u)
      ≡ false → T.action a ≡ S.action a) → ((k : ℕ) → k ≢ n → T.action (Root k) ≡ S.action (Root k)) → HasStopped act t None T
  all_ended T mine unit acts units = record {
    top = λ w is. absurd (cc is);
    each = λ w b there is. ⊎_elim
        (λ (e : same (act w) (act u) ≡ true). inr (inl (ap (λ (a : Act). (T.action a).stage) (same_is (act w) (act u) e) ∙ mine)))
        (λ (e : same (act w) (act u) ≡ false). ⊎_elim
        (λ (l : ◌≡◌ {A = Option Uid} (Some u) (Some w)).
        absurd (differ (ap (λ (v : Uid). same (act v) (act u)) (sym (same_one w l)) ∙ same_self (act u)) e))
        (λ ended. inr (subst HasEnded (sym (acts (act w) is e)) ended))
        (h.each w b there is))
        (by_cases (same (act w) (act u)));
    units = λ w b there. ⊎_elim
        (λ (is : root (act w) ≡ n). inr (ap (λ (k : ℕ). (T.action (Root k)).stage) is ∙ unit))
        (λ (other : root (act w) ≢ n). ⊎_elim
        (λ l. absurd (other (sym l.2 ∙ ap (λ (v : Uid). root (act v)) (sym (same_one l.0 l.1)))))
        (λ three. inr (ap (λ (a : Action). a.stage) (units (root (act w)) other) ∙ three))
        (h.units w b there))
        (unit_is_not (root (act w)) n);
    others = λ w b a there home is. ⊎_elim
        (λ (e : same a (act u) ≡ true). inl (u, its.0, its.1, same_is a (act u) e))
        (λ (e : same a (act u) ≡ false). ⊎_elim (λ here. inl here) (λ zero_one. inr (ap (λ (k : Action). k.stage) (acts a is e) ∙ zero_one))
        (h.others w b a there home is))
        (by_cases (same a (act u)));
  }

  abbrev Found : State → Type 0
  Found T = HasStopped act t None T × OnlyActed n S T × (T.now ≡ p + 1) × ((T.action (act u)).stage ≡ 3)
      × ChangesOne (act u) (committed_at p (S.action (act u))) S T

  told_run : Goes S (λ T. T ≡ told)
  told_run = record { state = told; run = step (Report (act u) p) (its.2, its.3, now) stay; holds = refl }

  told_only : OnlyActed n S told
  told_only = only_acted S (act u) done (p + 1) (let k = its.3 in omega (arith, k))

  told_unit : (k : ℕ) → told.action (Root k) ≡ S.action (Root k)
  told_unit k = act_other S.action (act u) done (Root k) (unit_other k (act u) (top_action (act u) its.2))

  told_here : (told.action (act u)).stage ≡ 3
  told_here = ap (λ (a : Action). a.stage) (act_here S.action (act u) done)

  records_found : Goes S Found
  records_found = ⊎_elim unit_zero unit_over (h.units u its.0 its.1)
    where
      unit_over : (S.action (Root n)).stage ≡ 3 → Goes S Found
      unit_over three = goes_to told_run (λ T is. subst Found (sym is) (
        all_ended told told_here (ap (λ (a : Action). a.stage) (told_unit n) ∙ three)
            (λ a acts other. act_other S.action (act u) done a other) (λ k other. told_unit k),
        told_only,
        refl,
        told_here,
        changes_one S (act u) done (p + 1),
      ))

      over_now : Action
      over_now = record (told.action (Root n)) { stage = 3 }

      V : State
      V = next (EndUnit n) told

      unit_zero : (w : Uid) × (◌≡◌ {A = Option Uid} (Some u) (Some w)) × (root (act w) ≡ root (act u))
          × ((S.action (Root (root (act u)))).stage ≡ 0) → Goes S Found
      unit_zero l = record {
        state = V;
        run = step (Report (act u) p) (its.2, its.3, now) (step (EndUnit n) (zero_now, tops) stay);
        holds = (
          all_ended V mine (ap (λ (a : Action). a.stage) (act_here told.action (Root n) over_now))
              (λ a acts other. act_other told.action (Root n) over_now a (off a acts) ∙ act_other S.action (act u) done a other)
              (λ k other. act_other told.action (Root n) over_now (Root k) (apart k other) ∙ told_unit k),
          acted_both n S told V told_only (only_acted told (Root n) over_now (p + 1) (omega (arith, zero_now))),
          refl,
          mine,
          record {
            one = λ e. act_other told.action (Root n) over_now (act u) (off (act u) e) ∙ act_here S.action (act u) done;
            others = λ a acts other. act_other told.action (Root n) over_now a (off a acts) ∙ act_other S.action (act u) done a other;
          },
        );
      }
        where
          zero_now : (told.action (Root n)).stage ≡ 0
          zero_now = ap (λ (a : Action). a.stage) (told_unit n) ∙ l.3

          off : (a : Act) → is_action a ≡ true → same a (Root n) ≡ false
          off (Root k) e = absurd (cc e)
          off (Sub a k) e = refl

          apart : (k : ℕ) → k ≢ n → same (Root k) (Root n) ≡ false
          apart k other = ⊎_elim (λ (e : (k == n) ≡ true). absurd (other (eqb-true k n e))) (λ e. e) (by_cases (k == n))

          mine : (V.action (act u)).stage ≡ 3
          mine = ap (λ (a : Action). a.stage) (act_other told.action (Root n) over_now (act u) (off (act u) (top_action (act u) its.2)))
              ∙ told_here

          tops : (m : Act) → is_top m ≡ true → root m ≡ n → ((told.action m).stage ≢ 1) × ((told.action m).stage ≢ 2)
          tops m top home = ⊎_elim
              (λ (e : same m (act u) ≡ true). let k : (told.action m).stage ≡ 3 = ap (λ (a : Act). (told.action a).stage)
              (same_is m (act u) e) ∙ told_here in ((λ o. omega (arith, k, o)), (λ o. omega (arith, k, o))))
              (λ (e : same m (act u) ≡ false). let k : (told.action m).stage ≡ (S.action m).stage = ap (λ (a : Action). a.stage)
              (act_other S.action (act u) done m e) in ⊎_elim
              (λ (z : (S.action m).stage ≡ 0). ((λ o. omega (arith, k, z, o)), (λ o. omega (arith, k, z, o))))
              (λ ended. ⊎_elim
              (λ (z : (S.action m).stage ≡ 3). ((λ o. omega (arith, k, z, o)), (λ o. omega (arith, k, z, o))))
              (λ (z : (S.action m).stage ≡ 4). ((λ o. omega (arith, k, z, o)), (λ o. omega (arith, k, z, o))))
              ended)
              (settled m (top_action m top) home e))
              (by_cases (same m (act u)))

pub records_are_found : RecordsAreFound
records_are_found act t u p S h now = records_found act t u p S h now

pub restarted_coords_are_seen : RestartedCoordsAreSeen
restarted_coords_are_seen act code x node inc records S = (
  same_coord act code x (new_coord node inc) (record (new_coord node inc) { telling = records }) S refl (λ w. refl) (λ w. refl)
      (new_coords_are_seen act code x node inc S),
  λ u b there. absurd (place_in u.num b [] (found_by u (new_tree node inc) b there).1),
)
