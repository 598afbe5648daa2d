-- On one node what a call, an include or a commit asks is answered in its own event, unless a request of it is void.
use Rattle.arj_law_parts.proofs.Words
use Words.{◌≡◌, ◌∙◌, ◌+◌, ◌-◌, ◌==◌, ◌&&◌, ◌||◌, not, ℕ, Bool, true, false, cond, List, [], ◌∷◌, refl, sym, ap, subst, arith, nat_tests}
use Words.{Option, Some, None, ◌⊎◌, inl, inr, ⊎_elim, AllByRecursion, and_parts, eqb-true, nat_le, Body, Header, Line, Uid}
use Words.{actor, Steps, next_node, Machine, left_of, Calling, Committing, Idle, Coord}
use Words.{Doing, Now, doing_of, has, Did, Say, Parts, Ran, with_coord}
use Words.{whole, Input, Node, acts, is_waiting_now, at_place, place_other, set_place, World, Seen, see}
use Words.{IsOvertaken, IsSaid, step, steps, step_node, step_with, done_step, halted_at, armed, disarmed, cut, count_works, at_number}
use Words.{Arm, nat_lt, refusal}
use Words.{Branch, Intent}
use Words.{Label, name, Step, branch_named, branch_numbered, branch_of, coord_did, counted, first_reason, giving, happens, is_empty}
use Words.{is_own, lacks_labels}
use Words.{limited, no_labels, number_of, reasons, refusal_at, refusal_up, run_unless, step_of, step_unless, step_up, uid_at, moved}
use Words.{world_by, Move}
use Words.{Event, is_known, was_given, call_reasons, commit_reasons, include_reasons, is_some, on_branch, refused_by, uid_eq, uid_same}
use Words.{is_node as world_is, node_of as world_node}
use Words.list as members
use Words.event
use Words.input
use Words.body
use Rattle.arj_protocol.specs.Asking as asking_of
use Rattle.arj_law_parts.proofs.moves.Places.{place_same}
use Rattle.arj_law_parts.proofs.Terms.{says as world_says}
use Rattle.arj_law_parts.proofs.Terms.which
use Rattle.arj_law_parts.specs.moves.Keeps.{AsksNode, is_act}
use Rattle.arj_law_promise.proofs.Terms.{Holds, IsNumbered, IsGood, move_asked, moves_asked}
use Rattle.arj_law_promise.proofs.waiting.Untold.{its_coord as good_coord, its_up}
use Rattle.arj_law_runs.proofs.addresses.Calls.{node_of}
use Rattle.arj_law_runs.proofs.follow.Along.{event_of}
use Rattle.arj_law_runs.proofs.follow.Labeled.{place_there}
use Rattle.arj_law_runs.proofs.kept.Walked.{same_number as kept_same}
use Rattle.arj_law_runs.specs.addresses.Addresses.{IsNode, MachineOf, NowOf, PartsOf, StepsOf, UpOf}
use Rattle.arj_promise.specs.Runs.{HeaderFits, Run}
use Rattle.arj_protocol.specs.Step.{step_down}
use Rattle.arj_law.proofs.Reading.{acts-append}
use Rattle.arj_law_parts.proofs.moves.Reasons.{first_not, not_not}
use Rattle.arj_law_runs.proofs.Terms.{Act, acts as all_acts, AreDistinct, has_act}
use Rattle.arj_law_runs.proofs.journal.Models.{its_sound}
use Rattle.arj_model.specs.Actions.{Begun, acts_after, acts_from, begun_of, numbered as numbered_acts}
use Rattle.arj_model.specs.Past.{Past, block, next}
use Rattle.arj_model.specs.Refusals.{is_waiting}
use Rattle.arj_law_parts.proofs.moves.Happens.{keeps_asked}
use Rattle.arj_law_runs.proofs.calls.WholeRuns.{few_before}
use Rattle.arj_law_runs.specs.calls.Bindings.{HasFewBindings}
use Rattle.arj_law_cause.proofs.bindings.Latest.{KnowsLatest, latest_keep}
use Rattle.arj_law_cause.proofs.quiesces.Answered.{Kept}
use Rattle.arj_law_cause.proofs.quiesces.Binds.{NoneOver, call_over, commits_over, include_over}
use Rattle.arj_law_cause.proofs.quiesces.Ties as ties
use Rattle.arj_law_cause.proofs.quiesces.Walked as walked
use Rattle.arj_law_cause.specs.rounds.Alone.{AloneStep, RunsAnswerAlone, asking}
use Rattle.arj_law_cause.specs.waits.waiting.Waits.{IsAt, IsAtWork}
use Rattle.arj_law_runs.proofs.Terms.{Walks, Up}
use Rattle.arj_law_runs.proofs.resting
use resting.{Hearing.IsHome, Hearing.Moves}
use resting.{Worlds.Of}
use Rattle.arj_law_cause.proofs.quiesces.Asking.{Acts, P, called, calls_left, commits_left, committed, here, homes, included, keeps}

-- ---- what an event leaves at a node

-- a node that did a step
record HasStepped (n : ℕ) (i : Input) (w : World) (k : ℕ) (x : Node) : Type 0 where
  pub node : Node
  pub same : k ≡ n
  pub there : at_place n w.nodes ≡ Some node
  pub is : x ≡ (step w.header node i).after

-- where a node takes this input the node behind it is as it was, or down, or has done a step
abbrev IsLeft : ℕ → Input → World → ℕ → Node → Type 0
IsLeft n i w k x = (at_place k w.nodes ≡ Some x) ⊎ ((x.live ≡ None) ⊎ HasStepped n i w k x)

steps_left : (n : ℕ) (i : Input) (w : World) (k : ℕ) (x : Node) → at_place k (steps n i w).nodes ≡ Some x → IsLeft n i w k x
steps_left n i w k x = by (at_place n w.nodes) refl
  where
    some_node : (y z : Node) → Some y ≡ Some z → y ≡ z
    some_node y z is = cc is

    apart : (k == n) ≡ false → k ≡ n → ⊥
    apart off same = grind (arith, nat_tests, off, same)

    placed : (a y : Node) → at_place n w.nodes ≡ Some a → at_place k (set_place n y w.nodes) ≡ Some x →
        ((k ≡ n) × (y ≡ x)) ⊎ (at_place k w.nodes ≡ Some x)
    placed a y there at = one (k == n) refl
      where
        one : (b : Bool) → (k == n) ≡ b → ((k ≡ n) × (y ≡ x)) ⊎ (at_place k w.nodes ≡ Some x)
        one true same = inl (
          eqb-true k n same,
          some_node y x (sym (ap (λ j. at_place j (set_place n y w.nodes)) (eqb-true k n same)
              ∙ place_same n y a w.nodes there) ∙ at),
        )
        one false off = inr (sym (place_other n k y w.nodes (apart off)) ∙ at)

    done : (a : Node) → at_place n w.nodes ≡ Some a → at_place k (set_place n (step w.header a i).after w.nodes) ≡ Some x →
        IsLeft n i w k x
    done a there at = ⊎_elim (λ p. inr (inr (record { node = a; same = p.0; there = there; is = sym p.1 }))) (λ o. inl o)
        (placed a (step w.header a i).after there at)

    down : (a y : Node) → at_place n w.nodes ≡ Some a → y.live ≡ None → at_place k (set_place n y w.nodes) ≡ Some x →
        IsLeft n i w k x
    down a y there is at = ⊎_elim (λ p. inr (inl (ap (λ (z : Node). z.live) (sym p.1) ∙ is))) (λ o. inl o) (placed a y there at)

    with_arm : (a : Node) → at_place n w.nodes ≡ Some a → (o : Option Arm) → at_place k (step_with n a (step w.header a i) w o).nodes
        ≡ Some x →
        IsLeft n i w k x
    with_arm a there None at = done a there at
    with_arm a there (Some arm) at = one (nat_lt (count_works (step w.header a i).halting) arm.works) at
      where
        one : (b : Bool) → at_place k (cond b (done_step n (step w.header a i)
            (armed n (record arm { works = arm.works - count_works (step w.header a i).halting }) w))
            (halted_at n a (cut (arm.works - 1) arm.how (step w.header a i).halting a.disk) (disarmed n w))).nodes ≡ Some x →
            IsLeft n i w k x
        one true at = done a there at
        one false at = down a (record a {
          disk = (let c = cut (arm.works - 1) arm.how (step w.header a i).halting a.disk in c.disk);
          live = None;
        }) there refl at

    by : (o : Option Node) → at_place n w.nodes ≡ o → at_place k (step_node n i w o).nodes ≡ Some x → IsLeft n i w k x
    by None none at = inl at
    by (Some a) there at = with_arm a there (at_number n w.arms) at

-- ---- an event on one node

-- a commit that waits waits for some node
pub some_left : (M : Seen) → IsGood M → (k : ℕ) (n : Node) (t : Parts) → M.nodes k ≡ Some n → n.live ≡ Some t →
    (u : Uid) (q : Doing) (m : Machine) →
    doing_of u t.coord ≡ Some q → q.now ≡ Committing m → left_of m ≡ [] → ⊥
some_left M good k n t found live u q m does now none =
    let x = (its_up good.0 M good.1 k n t found live).numbered u q does in
    let w = subst (IsNumbered q.req) now x in
    let no_way : true ≡ false = ap is_empty (sym none) ∙ w.1.1 in cc no_way

module _ (hd : Header) (form : HeaderFits hd) (front : Run hd) (m : Move) (p : Past) (s : Kept hd form p (world_by hd front))
    (on : (let x = world_by hd front in x.over) ≡ false) (few : HasFewBindings (world_by hd front).lines) (alone : hd.nodes ≡ 1) where
  abbrev w : World
  w = world_by hd front

  abbrev v : World
  v = moved m (world_by hd front)

  abbrev u : World
  u = record (world_by hd front) { arms = m.falls }

  abbrev arm : Arm
  arm = let a = m.asked in a.arm

  abbrev t : World
  t = counted (record (world_by hd front) { arms = m.falls })

  -- ---- what is known

  held : Holds hd (P hd form) (world_by hd front)
  held = moves_asked hd (P hd form) (keeps hd form) front

  held_on : Holds hd (P hd form) (moved m (world_by hd front))
  held_on = move_asked hd (P hd form) (keeps hd form) m (world_by hd front) held

  one_node : (k : ℕ) → Of hd k → k ≡ 1
  one_node k of = at (subst (λ n. (nat_le 1 k && nat_le k n) ≡ true) alone of)
    where
      at : (nat_le 1 k && nat_le k 1) ≡ true → k ≡ 1
      at is = let q = and_parts (nat_le 1 k) (nat_le k 1) is in let low = q.0 in let high = q.1 in grind (arith, nat_tests, low, high)

  first_of : Of hd 1
  first_of = subst (λ n. (nat_le 1 1 && nat_le 1 n) ≡ true) (sym alone) refl

  place_of : (k : ℕ) (n : Node) → at_place k (world_by hd front).nodes ≡ Some n → Of hd k
  place_of k n there = sym (ties.node_so hd form p (world_by hd front) s.all k) ∙ ties.node_there hd form p
      (world_by hd front) s.all k n there

  -- whom a call at the end waits for is a node
  next_of : (k : ℕ) (x : Node) (z : Parts) (a : Uid) (d : Doing) (c : Steps) → at_place k (moved m (world_by hd front)).nodes ≡ Some x →
      x.live ≡ Some z →
      doing_of a z.coord ≡ Some d → d.now ≡ Calling c → Of hd (next_node c)
  next_of k x z a d c there live does now =
      let known = held_on.holds.0.0.0.0.1 in
      let node = known.1.0 k x there in
      let parts : PartsOf (IsNode hd) x.disk z = subst (UpOf (IsNode hd) x.disk) live node.2 in
      let its : NowOf (IsNode hd) d.now = parts.coord.works a d does in
      let step_of : StepsOf (IsNode hd) c = subst (NowOf (IsNode hd)) now its in
      node_of (IsNode hd) first_of c.goal c.at step_of.at

  -- and so is each node that a commit waits for, of which there is one
  left_at : (k : ℕ) (x : Node) (z : Parts) (a : Uid) (d : Doing) (c : Machine) → at_place k (moved m (world_by hd front)).nodes ≡ Some x →
      x.live ≡ Some z →
      doing_of a z.coord ≡ Some d → d.now ≡ Committing c → (j : ℕ) × (has (left_of c) j ≡ true) × Of hd j
  left_at k x z a d c there live does now = by (left_of c) refl of_left
    where
      of_left : AllByRecursion (IsNode hd) (left_of c)
      of_left =
          let known = held_on.holds.0.0.0.0.1 in
          let node = known.1.0 k x there in
          let parts : PartsOf (IsNode hd) x.disk z = subst (UpOf (IsNode hd) x.disk) live node.2 in
          let its : NowOf (IsNode hd) d.now = parts.coord.works a d does in
          let machine : MachineOf (IsNode hd) c = subst (NowOf (IsNode hd)) now its in machine.1

      same : (j : ℕ) → (j == j) ≡ true
      same j = grind (arith, nat_tests)

      by : (ns : List ℕ) → left_of c ≡ ns → AllByRecursion (IsNode hd) ns → (j : ℕ) × (has (left_of c) j ≡ true) × Of hd j
      by [] none all = absurd (some_left (see held_on.sent (moved m (world_by hd front))) held_on.holds.1 k x z there live a d c does now
          none)
      by (j ∷ ns) is all = (j, ap (λ xs. has xs j) is ∙ (λ i. same j i || has ns j), all.0)

  -- the action waited before
  abbrev pub WaitedAt : Uid → Type 0
  WaitedAt a = (k : ℕ) × (n : Node) × (z : Parts) × (d : Doing) × (at_place k (world_by hd front).nodes ≡ Some n) × (n.live ≡ Some z)
      × (doing_of a z.coord ≡ Some d) × (is_waiting_now d.now ≡ true)

  -- what is known of naming's bindings
  pub latest : Holds hd KnowsLatest (world_by hd front)
  latest = moves_asked hd KnowsLatest (keeps_asked hd KnowsLatest (latest_keep hd)) front

  home_at : (n : ℕ) (b : Node) (y : Parts) → at_place n (world_by hd front).nodes ≡ Some b → b.live ≡ Some y → IsHome y.coord
  home_at n b y there live = homes hd form n b.disk y (see held.sent (world_by hd front)) (here hd form w held n b y there live)

  -- whoever is overtaken behind the step that an input makes of a node waited before
  abbrev pub NoneOvertaken : Input → ℕ → Node → Parts → Type 0
  NoneOvertaken i n b y = (there : at_place n (world_by hd front).nodes ≡ Some b) (live : b.live ≡ Some y) (home : IsHome y.coord) →
      NoneOver hd (world_by hd front) latest few n b y there live home (whole n (with_coord y (acts i
      (let d = b.disk in d.intents) y.coord).part)
      (acts i (let d = b.disk in d.intents) y.coord).outs b.disk)

  -- ---- an input that asks something of the action with this label

  module _ (i : Input) (l : Label) (n : ℕ) (does_it : happens (event_of m) (let a = m.asked in a.arm)
      (counted (record (world_by hd front) { arms = m.falls })) ≡ steps n i (counted (record (world_by hd front) { arms = m.falls })))
      (up_is : (a : Node) (z : Parts) → step_up i a z ≡ coord_did a z (acts i (let d = a.disk in d.intents) z.coord))
      (down_is : (h : Header) (a : Node) → (step_down h i a).after ≡ a) (about : is_act i ≡ true)
      (asks_it : first_reason (reasons (event_of m) (record (world_by hd front) { arms = m.falls })) ≡ None → AsksNode hd i)
      (branch : (c : Coord) → refusal_up hd i c ≡ None → (br : Branch) × (branch_named l c ≡ Some br))
      (acts_so : (c : Coord) (intents : List (Uid × Intent)) (br : Branch) (b : Doing) → branch_named l c ≡ Some br →
      Acts (actor br.path) b c (acts i intents c))
      (none_so : (b : Node) (y : Parts) (br : Branch) → branch_named l y.coord ≡ Some br → AsksNode hd i →
      refusal_up hd i y.coord ≡ None → n ≡ 1 →
      NoneOvertaken i n b y) where
    -- what the event leaves at a place
    abbrev Behind : ℕ → Node → Type 0
    Behind k x = (at_place k (world_by hd front).nodes ≡ Some x) ⊎ ((x.live ≡ None)
        ⊎ ((first_reason (reasons (event_of m) (record (world_by hd front) { arms = m.falls })) ≡ None)
        × HasStepped n i (counted (record (world_by hd front) { arms = m.falls })) k x))

    behind_it : (k : ℕ) (x : Node) → at_place k (moved m (world_by hd front)).nodes ≡ Some x → Behind k x
    behind_it k x at = by (first_reason (reasons (event_of m) u)) refl
      where
        now_is : (y : World) → run_unless (event_of m) arm u (first_reason (reasons (event_of m) u)) ≡ y → v ≡ record y { arms = [] }
        now_is y is = ap (λ (z : World). record z { arms = [] })
            ((λ j. cond (on j) u (run_unless (event_of m) arm u (first_reason (reasons (event_of m) u)))) ∙ is)

        old : (y : World) → v ≡ record y { arms = [] } → y.nodes ≡ w.nodes → Behind k x
        old y is same = inl (ap (at_place k) (sym same ∙ sym (ap (λ (z : World). z.nodes) is)) ∙ at)

        run : first_reason (reasons (event_of m) u) ≡ None → v ≡ record (limited (happens (event_of m) arm t)) { arms = [] } → Behind k x
        run none is = full (happens (event_of m) arm t).full refl
          where
            stepped : v.nodes ≡ (happens (event_of m) arm t).nodes → Behind k x
            stepped nodes = ⊎_elim (λ o. inl o) (⊎_elim (λ d. inr (inl d)) (λ h. inr (inr (none, h))))
                (steps_left n i t k x (ap (at_place k) (sym (nodes ∙ ap (λ (z : World). z.nodes) does_it)) ∙ at))

            full : (b : Bool) → (happens (event_of m) arm t).full ≡ b → Behind k x
            full true met = stepped (ap (λ (z : World). z.nodes) (is ∙ (λ j. record (cond (met j) (world_says (body.Limit which.Frames ∷ [])
                (record (happens (event_of m) arm t) { over = true })) (happens (event_of m) arm t)) { arms = [] })))
            full false fits = stepped (ap (λ (z : World). z.nodes) (is ∙ (λ j. record (cond (fits j) (world_says
                (body.Limit which.Frames ∷ [])
                (record (happens (event_of m) arm t) { over = true })) (happens (event_of m) arm t)) { arms = [] })))

        labels : first_reason (reasons (event_of m) u) ≡ None → (b : Bool) → lacks_labels (giving (event_of m) u) u ≡ b → Behind k x
        labels none true lacks = old (no_labels u) (now_is (no_labels u) (ap (run_unless (event_of m) arm u) none
            ∙ (λ j. cond (lacks j) (no_labels u) (limited (happens (event_of m) arm t))))) refl
        labels none false has_one = run none (now_is (limited (happens (event_of m) arm t)) (ap (run_unless (event_of m) arm u) none
            ∙ (λ j. cond (has_one j) (no_labels u) (limited (happens (event_of m) arm t)))))

        by : (o : Option ℕ) → first_reason (reasons (event_of m) u) ≡ o → Behind k x
        by (Some c) refused = old (world_says (body.Refused c ∷ []) t) (now_is (world_says (body.Refused c ∷ []) t) (ap (run_unless
            (event_of m) arm u) refused)) refl
        by None none = labels none (lacks_labels (giving (event_of m) u) u) refl

    -- ---- who waits behind it

    module _ (k : ℕ) (x : Node) (z : Parts) (at : at_place k (moved m (world_by hd front)).nodes ≡ Some x) (live : x.live
        ≡ Some z) (a : Uid) (d : Doing)
        (does : doing_of a z.coord ≡ Some d) (waits : is_waiting_now d.now ≡ true) where
      abbrev Found : Type 0
      Found = WaitedAt a

      as_before : (n : Node) → at_place k w.nodes ≡ Some n → n.live ≡ Some z → WaitedAt a
      as_before n there is = (k, n, z, d, there, is, does, waits)

      -- a step of the coordinator
      asked_here : (b : Node) (y : Parts) → k ≡ n → at_place n w.nodes ≡ Some b → b.live ≡ Some y → refusal_up hd i y.coord ≡ None →
          first_reason (reasons (event_of m) u) ≡ None → (q : Ran) → q ≡ whole n (with_coord y (acts i
          (let e = b.disk in e.intents) y.coord).part)
          (acts i (let e = b.disk in e.intents) y.coord).outs b.disk → z ≡ (let h = q.here in h.parts) → Found
      asked_here b y same there up_it free none q is z_is = by d.now refl
        where
          did : Did Coord
          did = acts i (let e = b.disk in e.intents) y.coord

          br : (br : Branch) × (branch_named l y.coord ≡ Some br)
          br = branch y.coord free

          found : (j : ℕ) × (number_of l y.coord ≡ Some j) × (at_place j y.coord.tree.branches ≡ Some br.0)
          found = number (number_of l y.coord) refl br.1
            where
              number : (o : Option ℕ) → number_of l y.coord ≡ o → branch_numbered y.coord o ≡ Some br.0 →
                  (j : ℕ) × (number_of l y.coord ≡ Some j) × (at_place j y.coord.tree.branches ≡ Some br.0)
              number None is none = let no_way : ◌≡◌ {A = Option Branch} None (Some br.0) = none in absurd (cc no_way)
              number (Some j) is there = (j, is, there)

          own : is_own (uid_at found.0 y.coord) y.coord.tree ≡ true
          own = λ j. kept_same y.coord.tree.node j && kept_same y.coord.tree.inc j

          its_branch : branch_of (uid_at found.0 y.coord) y.coord.tree ≡ Some br.0
          its_branch = (λ j. cond (own j) (at_place found.0 y.coord.tree.branches) None) ∙ found.2

          actor_is : actor br.0.path ≡ uid_at found.0 y.coord
          actor_is = (good_coord held.holds.1.0 (see held.sent w) held.holds.1.1 n b y there up_it).tree.lists.places
              (uid_at found.0 y.coord) br.0 its_branch

          doing : (e : Doing) × (at_place found.0 y.coord.doings ≡ Some e)
          doing =
              let known = (let h = ties.base hd form p w s.all in let j = h.halts in j.holds.0.1) in
              let up_so = (let g = known.nodes n b there in g.live y up_it) in
              place_there y.coord.tree.branches y.coord.doings found.0 br.0 (sym (let x = up_so.tops in let g = x.names in g.count)) found.2

          does_so : doing_of (actor br.0.path) y.coord ≡ Some doing.0
          does_so = ap (λ g. doing_of g y.coord) actor_is ∙ (λ j. cond (own j) (at_place found.0 y.coord.doings) None) ∙ doing.1

          walks : Walks (P hd form) w.event n did.outs (Up (P hd form) n (with_coord y did.part)) b.disk (see held.sent w)
          walks = (let g = keeps hd form in g.act w.event n b.disk y i (see held.sent w) about (asks_it none) free
              (here hd form w held n b y there up_it))

          only : (j : ℕ) → Of hd j → j ≡ n
          only j of = one_node j of ∙ sym (one_node n (place_of n b there))

          moves : Moves 0 (let g = doing.0 in g.now) (actor br.0.path) y.coord did.part did.outs
          moves = acts_so y.coord (let e = b.disk in e.intents) br.0 doing.0 br.1

          its_does : doing_of a (let g = whole n (with_coord y did.part) did.outs b.disk in let h = g.here in let f = h.parts in f.coord)
              ≡ Some d
          its_does = ap (λ (g : Ran). let h = g.here in let f = h.parts in doing_of a f.coord) (sym is)
              ∙ ap (λ (g : Parts). doing_of a g.coord) (sym z_is) ∙ does

          back : (f : Doing) × (doing_of a y.coord ≡ Some f) × (is_waiting_now f.now ≡ true) → WaitedAt a
          back f = (n, b, y, f.0, there, up_it, f.1, f.2)

          first_node : n ≡ 1
          first_node = one_node n (place_of n b there)

          over : (c : Steps) → d.now ≡ Calling c →
              IsOvertaken (λ g. IsSaid w.lines g ⊎ members.In (Say g) (whole n (with_coord y did.part) did.outs b.disk).outs) c → WaitedAt a
          over c now o = back (none_so b y br.0 br.1 (asks_it none) free first_node there up_it
              (home_at n b y there up_it) a d c its_does now o)

          by : (g : Now) → d.now ≡ g → Found
          by Idle now = let no_way : false ≡ true = ap is_waiting_now (sym now) ∙ waits in absurd (cc no_way)
          by (Calling c) now = ⊎_elim (over c now) back
              (calls_left hd form w held n b y there up_it did (actor br.0.path) doing.0 does_so moves w.event walks only
              (place_of n b there)
              a d c its_does now (next_of k x z a d c at live does now))
          by (Committing c) now =
              let j = left_at k x z a d c at live does now in
              back (commits_left hd form w held n b y there up_it did (actor br.0.path) doing.0 does_so moves w.event walks only
              (place_of n b there)
              a d c j.0 its_does now j.1 j.2)

      -- the node's step
      stepped : HasStepped n i (counted (record (world_by hd front) { arms = m.falls })) k x →
          first_reason (reasons (event_of m) (record (world_by hd front) { arms = m.falls })) ≡ None → Found
      stepped h none = by (refusal w.header i h.node) refl h.is
        where
          stays : x ≡ h.node → Found
          stays is = as_before x (ap (λ j. at_place j w.nodes) h.same ∙ h.there ∙ ap Some (sym is)) live

          header : w.header ≡ hd
          header = (let g = ties.told hd form p w s.all in g.is)

          some_parts : (e y : Parts) → Some e ≡ Some y → e ≡ y
          some_parts e y is = cc is

          up_one : (y : Parts) → (let b = h.node in b.live) ≡ Some y → refusal_up w.header i y.coord ≡ None →
              x ≡ (step_up i h.node y).after → Found
          up_one y up_it free is =
              asked_here h.node y h.same h.there up_it (subst (λ g. refusal_up g i y.coord ≡ None) header free) none
              (whole n (with_coord y did.part) did.outs b.disk) refl
              (some_parts z (let h = q.here in h.parts) (sym live ∙ ap (λ (e : Node). e.live) (is ∙ ap (λ (e : Step). e.after) (up_is b y))
              ∙ (λ j. Some (let f = whole (number j) (with_coord y did.part) did.outs b.disk in let g = f.here in g.parts))))
            where
              b : Node
              b = h.node

              did : Did Coord
              did = acts i (let e = b.disk in e.intents) y.coord

              number : b.number ≡ n
              number = held.stands.numbers n b h.there

              q : Ran
              q = whole n (with_coord y did.part) did.outs b.disk

          live_by : (o : Option Parts) → (let b = h.node in b.live) ≡ o → refusal_at w.header i o ≡ None →
              x ≡ (step_of w.header i h.node o).after → Found
          live_by None down free is = stays (is ∙ down_is w.header h.node)
          live_by (Some y) up_it free is = up_one y up_it free is

          by : (r : Option ℕ) → refusal w.header i h.node ≡ r → x ≡ (step_unless w.header i h.node r).after → Found
          by (Some c) refused is = stays is
          by None free is = live_by (let b = h.node in b.live) refl free is

      pub found_so : WaitedAt a
      found_so = ⊎_elim (λ same. as_before x same live) (⊎_elim (λ down. gone down) (λ r. stepped r.1 r.0)) (behind_it k x at)
        where
          gone : x.live ≡ None → Found
          gone down = let no_way : ◌≡◌ {A = Option Parts} (Some z) None = sym live ∙ down in absurd (cc no_way)

-- ---- by the journal

-- who began is there behind more lines
still_there : (a : Act) (xs : List Act) (ls : List Line) → members.In a xs → members.In a (acts_from xs ls)
still_there a xs [] i = i
still_there a xs (l ∷ ls) i = still_there a (acts_after xs l.body) ls (by (begun_of l.body))
  where
    by : (o : Option Begun) → members.In a (numbered_acts xs o)
    by None = i
    by (Some b) = inr i

-- an action that is in a list is found in it
there_on : (xs : List Act) (a : Act) → members.In a xs → has_act xs a.uid ≡ true
there_on [] a i = absurd i
there_on (x ∷ xs) a (inl same) = ap (λ (z : Act). uid_eq z.uid a.uid || has_act xs a.uid) same ∙ (λ i. uid_same a.uid i || has_act xs a.uid)
there_on (x ∷ xs) a (inr i) = by (uid_eq x.uid a.uid) (there_on xs a i)
  where
    by : (b : Bool) → has_act xs a.uid ≡ true → b || has_act xs a.uid ≡ true
    by true more = refl
    by false more = more

-- a Uid is that of one action
one_act : (xs : List Act) (a b : Act) → AreDistinct xs → members.In a xs → members.In b xs → a.uid ≡ b.uid → a ≡ b
one_act [] a b apart i j same = absurd i
one_act (x ∷ xs) a b apart (inl one) (inl two) same = sym one ∙ two
one_act (x ∷ xs) a b apart (inl one) (inr j) same =
    let no_way : true ≡ false = sym (there_on xs b j) ∙ ap (has_act xs) (sym same ∙ ap (λ (z : Act). z.uid) (sym one))
    ∙ apart.2 in absurd (cc no_way)
one_act (x ∷ xs) a b apart (inr i) (inl two) same =
    let no_way : true ≡ false = sym (there_on xs a i) ∙ ap (has_act xs) (same ∙ ap (λ (z : Act). z.uid) (sym two))
    ∙ apart.2 in absurd (cc no_way)
one_act (x ∷ xs) a b apart (inr i) (inr j) same = one_act xs a b apart.3 i j same

-- an action that isn't there is refused
pub named_branch : (r : Branch → Coord → List (ℕ × Bool)) (c : Coord) (o : Option Branch) → refused_by r c o ≡ None →
    (br : Branch) × (o ≡ Some br)
named_branch r c None free = let no_way : ◌≡◌ {A = Option ℕ} (Some 6) None = free in absurd (cc no_way)
named_branch r c (Some br) free = (br, refl)

module _ (hd : Header) (form : HeaderFits hd) (front : Run hd) (m : Move) (p : Past) (bodies : List Body) (s : Kept hd form p
    (world_by hd front))
    (on : (let x = world_by hd front in x.over) ≡ false) (after : Kept hd form (next p (event_of m) bodies) (moved m (world_by hd front)))
    (few : HasFewBindings (moved m (world_by hd front)).lines) where
  few_before_it : HasFewBindings (world_by hd front).lines
  few_before_it = subst HasFewBindings (ties.same_lines hd form p (world_by hd front) s.all)
      (few_before p.lines (block (p.count + 1) bodies) (subst HasFewBindings
      (sym (ties.same_lines hd form (next p (event_of m) bodies) (moved m (world_by hd front)) after.all)) few))

  found_by : (alone : hd.nodes ≡ 1) (e : Event) → event_of m ≡ e → (l : List ℕ) → asking e ≡ Some l → (k : ℕ) (x : Node) (z : Parts) →
      at_place k (moved m (world_by hd front)).nodes ≡ Some x → x.live ≡ Some z → (a : Uid) (d : Doing) → doing_of a z.coord ≡ Some d →
      is_waiting_now d.now ≡ true → WaitedAt hd form front m p s on few_before_it alone a
  found_by alone (event.Call l x o) is name_is asks_it = found_so hd form front m p s on few_before_it alone (input.Call l x o) l
      (world_node l (counted (record (world_by hd front) { arms = m.falls })))
      (ap (λ e. happens e (let g = m.asked in g.arm) (counted (record (world_by hd front) { arms = m.falls }))) is)
      (λ a z. refl) (λ h a. refl) refl (λ none. tt) (λ c free. named_branch (call_reasons hd x o) c (branch_named l c) free)
      (λ c intents br b found. subst (λ g. Acts (actor br.path) b c (on_branch (λ f. asking_of.call f.path x o c) c g)) (sym found)
      (called br x o b c))
      (λ b y br found asks free one there live home. call_over hd (world_by hd front) (latest hd form front m p s on few_before_it alone)
      few_before_it (world_node l (counted (record (world_by hd front) { arms = m.falls }))) b y there live home l br found one x o asks
      free)
  found_by alone (event.Include l x n) is name_is asks_it = found_so hd form front m p s on few_before_it alone (input.Include l x n) l
      (world_node l (counted (record (world_by hd front) { arms = m.falls })))
      (ap (λ e. happens e (let g = m.asked in g.arm) (counted (record (world_by hd front) { arms = m.falls }))) is)
      (λ a z. refl) (λ h a. refl) refl
      (λ none. sym (ties.node_so hd form p (world_by hd front) s.all n) ∙ not_not (world_is n (record
      (world_by hd front) { arms = m.falls }))
      (first_not 1 (not (world_is n (record (world_by hd front) { arms = m.falls })))
      ((5, not (is_known l (record (world_by hd front) { arms = m.falls }))) ∷ (
        6,
        was_given l (record
            (world_by hd front) { arms = m.falls }),
      ) ∷ [])
      (ap (λ e. first_reason (reasons e (record (world_by hd front) { arms = m.falls }))) (sym is) ∙ none)).0)
      (λ c free. named_branch (include_reasons hd x) c (branch_named l c) free)
      (λ c intents br b found. subst (λ g. Acts (actor br.path) b c (on_branch (λ f. asking_of.include f.path x n c) c g)) (sym found)
      (included br x n b c))
      (λ b y br found asks free one there live home. include_over hd (world_by hd front) (latest hd form front m p s on few_before_it alone)
      few_before_it (world_node l (counted (record (world_by hd front) { arms = m.falls }))) b y there live home l br found one x n asks
      free)
  found_by alone (event.Commit l) is name_is asks_it = found_so hd form front m p s on few_before_it alone (input.Commit l) l
      (world_node l (counted (record (world_by hd front) { arms = m.falls })))
      (ap (λ e. happens e (let g = m.asked in g.arm) (counted (record (world_by hd front) { arms = m.falls }))) is)
      (λ a z. refl) (λ h a. refl) refl (λ none. tt) (λ c free. named_branch commit_reasons c (branch_named l c) free)
      (λ c intents br b found. subst (λ g. Acts (actor br.path) b c (on_branch (λ f. asking_of.commit_action f intents c) c g)) (sym found)
      (committed br intents b c))
      (λ b y br found asks free one there live home. commits_over hd (world_by hd front) (latest hd form front m p s on few_before_it alone)
      few_before_it (world_node l (counted (record (world_by hd front) { arms = m.falls }))) b y there live home l br found one)
  found_by alone e is name_is asks_it = let no_way : ◌≡◌ {A = Option (List ℕ)} None (Some name_is) = asks_it in absurd (cc no_way)

  pub alone_answered : AloneStep hd p (event_of m) bodies
  alone_answered alone l asks_it rests = by (is_waiting q l) refl
    where
      q : Past
      q = next p (event_of m) bodies

      waiting : is_waiting (next p (event_of m) bodies) l ≡ true → ⊥
      waiting waits = before
          (found_by alone (event_of m) refl l asks_it work.number work.node work.parts work.there work.live work.act work.doing work.does
          waits_now)
        where
          work : IsAtWork (moved m (world_by hd front)) l
          work = ties.at_work hd form (next p (event_of m) bodies) (moved m (world_by hd front)) after.all l waits

          waits_now : is_waiting_now (let d = work.doing in d.now) ≡ true
          waits_now = now (let d = work.doing in d.now)
              (ties.at_node hd form (next p (event_of m) bodies) (moved m
              (world_by hd front)) after.all work.number work.node work.parts work.act work.doing
              work.there work.live work.does)
            where
              now : (g : Now) → IsAt (next p (event_of m) bodies).accepted (next p (event_of m) bodies).lines
                  (let d = work.doing in d.label) g →
                  is_waiting_now g ≡ true
              now (Calling c) at = refl
              now (Committing c) at = refl
              now Idle at =
                  let none : is_waiting (next p (event_of m) bodies) l ≡ false = ap (is_waiting (next p (event_of m) bodies))
                  (sym work.label)
                  ∙ (λ i. is_some (at.0 i) || at.1 i) in
                  let no_way : true ≡ false = sym waits ∙ none in absurd (cc no_way)

          before : WaitedAt hd form front m p s on few_before_it alone work.act → ⊥
          before b =
              let old = ties.its_act hd form p (world_by hd front) s.all b.0 b.1 b.2 work.act b.3 b.4 b.5 b.6 in
              let new = ties.its_act hd form (next p (event_of m) bodies) (moved m
              (world_by hd front)) after.all work.number work.node work.parts work.act
              work.doing work.there work.live work.does in
              let later : members.In old.0 (all_acts (next p (event_of m) bodies).lines) =
              subst (members.In old.0) (sym (acts-append [] p.lines (block (p.count + 1) bodies)))
              (still_there old.0 (all_acts p.lines) (block (p.count + 1) bodies) old.1) in
              let sound = its_sound (moved m (world_by hd front)).lines
              (let g = ties.base hd form (next p (event_of m) bodies) (moved m
              (world_by hd front)) after.all in let h = g.halts in h.holds.0.1.right) in
              let apart = subst (λ ls. AreDistinct (all_acts ls)) (sym (ties.same_lines hd form (next p (event_of m) bodies)
              (moved m (world_by hd front)) after.all)) sound.distinct in
              let same : old.0 ≡ new.0 = one_act (all_acts (next p (event_of m) bodies).lines) old.0 new.0 apart later new.1 (old.3
              ∙ sym new.3) in
              let label : name (let d = b.3 in d.label) ≡ l = sym old.2 ∙ ap (λ (z : Act). z.label) same ∙ new.2 ∙ work.label in
              let no_way : true ≡ false = sym (ties.waits_so hd form p (world_by hd front) s.all b.0 b.1 b.2 work.act b.3 b.4 b.5 b.6 b.7)
              ∙ ap (is_waiting p) label ∙ rests in cc no_way

      by : (b : Bool) → is_waiting (next p (event_of m) bodies) l ≡ b → is_waiting (next p (event_of m) bodies) l ≡ false
      by false none = none
      by true waits = absurd (waiting waits)

-- so it is of each event of a run
pub runs_answer_alone : RunsAnswerAlone
runs_answer_alone hd r its = walked.runs_so hd its.header (AloneStep hd)
    (λ front m p bodies few s on step after. alone_answered hd its.header front m p bodies s on after few) r its
