-- What each clause of a coordinator's step leaves, as a step in the whole world.
use Rattle.arj_law_parts.proofs.Words
use Words.{◌≡◌, ◌≢◌, ◌≤◌, ◌⊎◌, ◌∙◌, ◌+◌, ℕ, true, false, Some, refl, sym, ap, inl, inr, ⊎_elim, arith, length, Contains, Uid, is_on, Coord}
use Words.{Parts, Branch, branch_of}
use Rattle.arj_law_lock_view.proofs.Terms
use Terms.{Act, In, Root, is_action, on, root, same, Run, stay, State, by_cases, differ, on_base, root_is, same_is, Action, act_of}
use Terms.{action_of, GoesOn, AreAlike, IsHere, IsReached, OnlyCalled, AbortsOnly, ChangesOne, KeepsEnds, OnlyIncluded, OnlyEnded}
use Terms.{SeesWhole, Case, IsSeenIn, Spot, world_at, HasStepped, OnlyUnit, Fixed, IsUnbegun}
use Terms.machine as state
use Rattle.arj_law_lock_view.proofs.running
use running.{CoordSteps.branch_back, GoodSteps.good_node, GoodSteps.steady}
use running.UnitSteps.{called_unit, ended_unit, included_unit}
use Rattle.arj_law_lock_view.proofs.view.TreeSteps.{above_there}

module _ (c : Case) (s : Spot) (is_seen : IsSeenIn c (world_at s)) (u : Uid) (b : Branch)
    (found : branch_of u (let t = s.parts in let q = t.coord in q.tree) ≡ Some b) where
  abbrev f : Fixed
  f = c.fixed

  abbrev t : Parts
  t = s.parts

  abbrev S : State
  S = c.state

  abbrev unit : ℕ
  unit = root (f.act u)

  alike : AreAlike f.act f.paths
  alike = let a = is_seen.agrees in let g = a.whole in g.alike

  reached : IsReached S
  reached = let z = is_seen.sees in (f.first, z.run)

  -- an action of the tree was begun
  was_begun : (w : Uid) (q : Branch) → branch_of w t.coord.tree ≡ Some q → (a : Action) × Contains c.begun a × (act_of a ≡ w)
  was_begun w q there = (
    action_of q,
    (let g = good_node c s is_seen in let h = g.coord in h.known w q there),
    (let g = steady c s is_seen in g.good.tree.lists.places w q there),
  )

  unbegun_off : (w v : Uid) (q : Branch) → IsUnbegun c.begun w → branch_of v t.coord.tree ≡ Some q → w ≢ v
  unbegun_off w v q un there is = let a = was_begun v q there in un a.0 a.1 (a.2 ∙ sym is)

  -- who stands in the unit, and isn't an action of the machine, was begun
  unit_begun : (w : Uid) → is_action (f.act w) ≡ false → root (f.act w) ≡ unit → (q : Branch) × (branch_of w t.coord.tree ≡ Some q)
  unit_begun w isnt same_unit =
      let stands : f.act w ≡ Root (root (f.act u)) = root_is (f.act w) isnt ∙ ap Root same_unit in
      let up : is_on (f.paths u) w ≡ true = sym (alike.above u w) ∙ ap (on (f.act u)) stands ∙ on_base (f.act u) in
      above_there f.paths (let g = steady c s is_seen in g.whole) t.coord.tree (let g = steady c s is_seen in
      g.good.tree.lists) w u b found up

  -- whoever wasn't begun is no action that the machine changed
  module _ (T : State) (only : OnlyUnit f c.x unit S T) where
    away_or : (w : Uid) → (T.action (f.act w) ≡ S.action (f.act w)) ⊎ (root (f.act w) ≡ unit)
    away_or w = ⊎_elim (λ is. inr is) (λ off. inl (only.actions (f.act w) off)) (unit_cases (root (f.act w)) unit)
      where
        unit_cases : (m n : ℕ) → (m ≡ n) ⊎ (m ≢ n)
        unit_cases m n = grind arith

    -- where only actions changed that are in the tree
    changed_here : ((a : Act) → is_action a ≡ true → (T.action a ≡ S.action a) ⊎ IsHere f.act t.coord.tree a) → (w : Uid) →
        IsUnbegun c.begun w → T.action (f.act w) ≡ S.action (f.act w)
    changed_here acts w un = ⊎_elim (λ same_one. same_one) (λ mine. ⊎_elim
        (λ its. ⊎_elim (λ same_one. same_one) (λ h. absurd (unbegun_off w h.0 h.1 un h.2 (alike.one w h.0 h.3))) (acts (f.act w) its))
        (λ isnt. absurd (let q = unit_begun w isnt mine in unbegun_off w w q.0 un q.1 refl))
        (by_cases (is_action (f.act w)))) (away_or w)

    -- where whoever changed waits
    changed_waits : (C : Coord) → GoesOn t.coord C → SeesWhole f.act f.code c.x C T → KeepsEnds S T → (w : Uid) → IsUnbegun c.begun w →
        T.action (f.act w) ≡ S.action (f.act w)
    changed_waits C on whole keeps w un = ⊎_elim (λ same_one. same_one) (λ mine. (let k = keeps (f.act w) in
        ⊎_elim (λ same_one. same_one) (λ waits. absurd (⊎_elim before (behind mine) waits)) k.waited)) (away_or w)
      where
        before : (S.action (f.act w)).waits ≡ true → ⊥
        before h = let z = is_seen.sees in let r = z.fresh in let q = r.actions w un in differ h q.waits

        u_there : (q : Branch) × (branch_of u C.tree ≡ Some q)
        u_there = let r = on.kinds u b found in (r.0, r.1)

        behind : root (f.act w) ≡ unit → (T.action (f.act w)).waits ≡ true → ⊥
        behind mine h = ⊎_elim action_one unit_one (by_cases (is_action (f.act w)))
          where
            action_one : is_action (f.act w) ≡ true → ⊥
            action_one its = ⊎_elim (λ here. (let a = branch_back t.coord C on here.0 here.1 here.2 in
                unbegun_off w here.0 a.0 un a.1 (alike.one w here.0 here.3))) (λ idle. differ h idle.waits) (let k = whole.coord in
                let a = k.actions in a.others u u_there.0 (f.act w) u_there.1 mine its)

            unit_one : is_action (f.act w) ≡ false → ⊥
            unit_one isnt = let q = unit_begun w isnt mine in unbegun_off w w q.0 un q.1 refl

  -- ---- the clauses

  pub called_stepped : (says : ℕ) (C : Coord) (T : State) → GoesOn t.coord C → Run S T → SeesWhole f.act f.code c.x C T →
      OnlyCalled unit S T → KeepsEnds S T → T.now ≤ length (let M = s.seen in M.lines) + says + 1 → HasStepped c s u says C T
  called_stepped says C T on run whole only keeps now = let o = called_unit f c.x unit S T reached run only in
      record { run = run; coord = whole; only = o; changed = changed_waits T o C on whole keeps; now = now }

  pub ended_stepped : (says : ℕ) (C : Coord) (T : State) (new : state.Action) → Run S T → SeesWhole f.act f.code c.x C T →
      OnlyEnded unit S T → ChangesOne (f.act u) new S T → T.now ≤ length (let M = s.seen in M.lines) + says + 1 → HasStepped c s u says C T
  ended_stepped says C T new run whole only one now = let o = ended_unit f c.x unit S T reached run only in record {
    run = run;
    coord = whole;
    only = o;
    changed = changed_here T o (λ a its.
        ⊎_elim (λ is. inr (u, b, found, same_is a (f.act u) is)) (λ isnt. inl (one.others a its isnt)) (by_cases (same a (f.act u))));
    now = now;
  }

  pub aborted_stepped : (says : ℕ) (C : Coord) (T : State) → Run S T → SeesWhole f.act f.code c.x C T → OnlyEnded unit S T →
      AbortsOnly f.act f.paths t.coord.tree u S T → T.now ≤ length (let M = s.seen in M.lines) + says + 1 → HasStepped c s u says C T
  aborted_stepped says C T run whole only aborts now = let o = ended_unit f c.x unit S T reached run only in record {
    run = run;
    coord = whole;
    only = o;
    changed =
        changed_here T o (λ a its. ⊎_elim (λ is. inl is) (λ gone. (let q = gone.1 in inr (q.uid, q.branch, q.there, q.is))) (aborts a its));
    now = now;
  }

  pub included_stepped : (says : ℕ) (C : Coord) (T : State) → Run S T → SeesWhole f.act f.code c.x C T → OnlyIncluded S T →
      ((k : state.Include) → In k T.includes → In k S.includes ⊎ (root k.act ≡ unit)) →
      T.now ≤ length (let M = s.seen in M.lines) + says + 1 → HasStepped c s u says C T
  included_stepped says C T run whole only fresh now = record {
    run = run;
    coord = whole;
    only = included_unit f c.x unit S T reached run only fresh;
    changed = λ w un. ap (λ (z : State). z.action (f.act w)) only;
    now = now;
  }

  -- the machine waits
  pub waits_stepped : (says : ℕ) (C : Coord) → SeesWhole f.act f.code c.x C S → HasStepped c s u says C S
  waits_stepped says C whole = record {
    run = stay;
    coord = whole;
    only = included_unit f c.x unit S S reached stay refl (λ k i. inl i);
    changed = λ w un. refl;
    now = (let z = is_seen.sees in let n = z.now in omega (arith, n));
  }
