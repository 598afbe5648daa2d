-- A node stops: its open actions are aborted in the machine, and all others are seen as they were.
use Rattle.arj_law_parts.proofs.Words
use Words.{◌≡◌, ◌≤◌, ◌∙◌, ℕ, List, [], ◌∷◌, true, false, Option, Some, None, refl, sym, ap, subst, ⊎_elim, arith, Contains, is_some, Uid}
use Words.{is_on, Disk, Parts, at_uid, Branch, branch_of, Seen}
use Words.body
use Rattle.arj_law_lock_view.proofs.Terms
use Terms.{Act, In, Root, is_action, on, root, Run, stay, State, go_on, by_cases, on_base, root_is, Action, act_of, action_of, halted}
use Terms.{IsIdle, IsSteady, IsUntouched, NobodyConfirmed, IfDecided, IsUnitOf, OnlyStopped, View, HoldsNamingIn, Fixed, view_of}
use Terms.{AreRecordsOf, HaveConfirms, IsFresh, IsUnbegun, SeesDown, SeesLocks, SeesUp, AreTied}
use Terms.machine as state
use Rattle.arj_law_lock_view.proofs.running
use running.{FallSteps.fallen, MoveSteps.memory_stopped, MoveSteps.up_stopped, NameSteps.confirms_later}
use running.OtherSteps.{SeesOthers, others_go, past_on, reached_of, records_on, said_others, with_here}
use running.TieSteps.{IsTiedNow, tied_behind, tied_down, tied_halts, tied_moved}
use Rattle.arj_law_lock_view.proofs.view.{StopSteps.stops_are_taken, StopSteps.stops_stay, TreeSteps.above_there}

module _ (f : Fixed) (x : ℕ) (begun : List Action) (k : ℕ) where
  abbrev v : View
  v = view_of f x begun k

  -- ---- a node that is down

  down_halted : (e : ℕ) (S : State) (d : Disk) (M : Seen) → SeesOthers f x begun k S M → SeesDown v S d →
      HaveConfirms f x k S M.sent d None → SeesLocks f x begun S (halted e k d M)
  down_halted e S d M others s confirms =
      with_here f x begun k d None S _ (said_others f x begun k e (body.Halted k ∷ []) S M others) s confirms

  pub halt_down : (e : ℕ) (S : State) (d : Disk) (M : Seen) → SeesOthers f x begun k S M → SeesDown v S d →
      HaveConfirms f x k S M.sent d None → IsTiedNow f x begun S M.lines →
      (T : State) × SeesLocks f x begun T (halted e k d M) × AreTied f x (let N = halted e k d M in N.lines) T × Run S T
  halt_down e S d M others s confirms now =
      (S, down_halted e S d M others s confirms, tied_down f x begun e k s.tree s.last S M.lines s.past s.stopped now, stay)

  -- ---- a node that is up

  module _ (S T : State) (t : Parts) (steady : IsSteady f.act f.paths t.coord) (of : (u : Uid) (b : Branch) →
      branch_of u t.coord.tree ≡ Some b → Contains begun (action_of b)) (only : OnlyStopped f.act t.coord.tree S T) where
    -- an action of the tree was begun
    was_begun : (u : Uid) (b : Branch) → branch_of u t.coord.tree ≡ Some b → (a : Action) × Contains begun a × (act_of a ≡ u)
    was_begun u b found = (action_of b, of u b found, (let g = steady.good in let r = g.tree in let l = r.lists in l.places u b found))

    -- who stands in a unit of the tree, and isn't an action of the machine, was begun
    unit_begun : (u : Uid) → is_action (f.act u) ≡ false → IsUnitOf f.act t.coord.tree (root (f.act u)) →
        (a : Action) × Contains begun a × (act_of a ≡ u)
    unit_begun u isnt (w, b, found, same) =
        let stands : f.act u ≡ Root (root (f.act w)) = root_is (f.act u) isnt ∙ ap Root same in
        let up : is_on (f.paths w) u ≡ true = sym (steady.alike.above w u) ∙ ap (on (f.act w)) stands ∙ on_base (f.act w) in
        let c = above_there f.paths steady.whole t.coord.tree (let g = steady.good in let r = g.tree in r.lists) u w b found up in
        was_begun u c.0 c.1

    same_untouched : (u : Uid) → IsUnbegun begun u → T.action (f.act u) ≡ S.action (f.act u)
    same_untouched u un = ⊎_elim action unit (by_cases (is_action (f.act u)))
      where
        action : is_action (f.act u) ≡ true → T.action (f.act u) ≡ S.action (f.act u)
        action holds = ⊎_elim (λ same. same) (λ h. (let w = h.0 in let q = was_begun w.0 w.1 w.2 in
            absurd (un q.0 q.1 (q.2 ∙ sym (steady.alike.one u w.0 w.3))))) (only.ends (f.act u) holds)

        unit : is_action (f.act u) ≡ false → T.action (f.act u) ≡ S.action (f.act u)
        unit isnt = only.others (f.act u) (λ its. (let q = unit_begun u isnt its in un q.0 q.1 q.2))

    fresh_stopped : IsFresh f begun S → IsFresh f begun T
    fresh_stopped fresh = record {
      actions = λ u un. subst IsUntouched (sym (same_untouched u un)) (fresh.actions u un);
      units = λ n none. (let o = fresh.units n none in record {
        stage = ap (λ (a : state.Action). a.stage) (same_in n none (Root n) refl) ∙ o.stage;
        waits = ap (λ (a : state.Action). a.waits) (same_in n none (Root n) refl) ∙ o.waits;
        idle = λ a home its. subst IsIdle (sym (same_in n none a home)) (o.idle a home its);
        kept = ap (λ (s : State). s.kept n) only.rest ∙ o.kept;
        calls = λ d there. o.calls d (subst (λ (s : State). In d s.calls) only.rest there);
        includes = λ d there. o.includes d (subst (λ (s : State). In d s.includes) only.rest there);
      });
    }
      where
        same_in : (n : ℕ) → ((a : Action) → Contains begun a → root (f.act (act_of a)) ≡ n → ⊥) → (a : Act) → root a ≡ n →
            T.action a ≡ S.action a
        same_in n none a home = only.others a
            (λ (w, b, found, same). (let q = was_begun w b found in none q.0 q.1 (ap (λ (z : Uid). root (f.act z)) q.2 ∙ sym same ∙ home)))

  -- where a top's record is on the disk that is left, it is decided, and has no line yet
  pub halt_last : (last : Option Uid) (e : ℕ) (R S : State) (d g : Disk) (t : Parts) (M : Seen) → IfDecided f.act t.coord last S →
      g.inc ≡ d.inc → ((u : Uid) → last ≡ Some u → is_some (at_uid u g.intents) ≡ true) → AreRecordsOf v last g.intents S
      → IsSteady f.act f.paths t.coord → ((u : Uid) (b : Branch) → branch_of u t.coord.tree ≡ Some b → Contains begun (action_of b)) →
      t.server.inc ≡ d.inc → t.coord.tree.node ≡ k
      → HoldsNamingIn (record { fixed = f; x = x; begun = begun; state = R }) k t.naming → SeesOthers f x begun k S M → SeesUp v S d t →
      HaveConfirms f x k S M.sent g None → IsTiedNow f x begun S M.lines →
      (T : State) × SeesLocks f x begun T (halted e k g M) × AreTied f x (let N = halted e k g M in N.lines) T × Run S T
  halt_last last e R S d g t M decided inc there records steady of level node holds others s confirms now =
      let h = stops_are_taken f.act f.code f.paths x t.coord last S steady decided s.coord in
      let T = h.state in
      let only = h.holds.1 in
      let nobody : NobodyConfirmed S T = ap (λ (z : State). z.confirmed) only.rest in
      let reached = reached_of f x begun k S M others in
      let next = others_go f x begun k S T M others h.run (λ elsewhere. nobody) (λ j disk live other seen. memory_stopped S T reached h.run
      v t.coord.tree steady.alike s.home only j disk live other seen) (fresh_stopped S T t steady of only others.fresh)
      (let q = others.now in let e : T.now ≡ S.now = ap (λ (z : State). z.now) only.rest in omega (arith, q, e)) in
      let sees = up_stopped S T reached h.run v t.coord.tree only d t s in
      let fall = fallen f x begun k R T M t g.inc next (level ∙ sym inc) holds s.place (λ n is. s.inc n is ∙ sym inc) sees.0 sees.1 in
      let U = fall.0 in
      let z = fall.1 in
      let ends : (a : Act) → 3 ≤ (S.action a).stage → U.action a ≡ S.action a = λ a ended.
      ap (λ (q : Act → state.Action). q a) (let y = z.moved in y.action) ∙ only.ended a ended in (
        U,
        down_halted e U g M z.others (record {
          server = z.server;
          naming = z.naming;
          tree = t.coord.tree;
          last = last;
          stopped = stops_stay f.act t.coord.tree last T U (λ a its. ap (λ (q : Act → state.Action). q a) (let y = z.moved in y.action))
              h.holds.0;
          decided = there;
          home = s.home;
          past = past_on S U ends v t.coord.tree s.past;
          records = records_on S U ends v last g.intents records;
        }) (confirms_later f x k S U reached (go_on h.run z.run) (λ one. z.nobody ∙ nobody) M.sent M.sent (λ r i. i) g None confirms),
        (let y = tied_moved f x begun T U (let N = halted e k g M in N.lines) z.moved (tied_behind f x begun e (body.Halted k ∷ []) S T
            M.lines (refl, tt) now (tied_halts f x begun e k t.coord.tree last S T M.lines node s.past h.holds.0 only now)) in y.tied),
        go_on h.run z.run,
      )

  pub halt_up : (e : ℕ) (R S : State) (d : Disk) (t : Parts) (M : Seen) → IsSteady f.act f.paths t.coord → ((u : Uid) (b : Branch) →
      branch_of u t.coord.tree ≡ Some b → Contains begun (action_of b)) → t.server.inc ≡ d.inc → t.coord.tree.node ≡ k
      → HoldsNamingIn (record { fixed = f; x = x; begun = begun; state = R }) k t.naming → SeesOthers f x begun k S M → SeesUp v S d t →
      HaveConfirms f x k S M.sent d None → IsTiedNow f x begun S M.lines →
      (T : State) × SeesLocks f x begun T (halted e k d M) × AreTied f x (let N = halted e k d M in N.lines) T × Run S T
  halt_up e R S d t M steady of level node holds others s confirms now =
      halt_last None e R S d d t M tt refl (λ u is. absurd (cc is)) s.records steady of level node holds others s confirms now
