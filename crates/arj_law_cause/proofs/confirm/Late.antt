-- Wherever a commit that waits for naming names a grant of naming's present incarnation, or a later one, no store that it asked holds a
-- state above the one that it was sent.
use Rattle.arj_law_parts.proofs.Words
use Words.{⊤, ◌≡◌, ◌∙◌, ℕ, true, List, Some, None, sym, ap, subst, option_map, is_some, Header, ObjectState, Uid, object}
use Words.{held_at, Used}
use Words.{Branch, branch_of, Committing, Confirming, Doing, doing_of, Node, Parts, Plan, Seen, World, see}
use Rattle.arj_promise.specs.Runs.{HeaderFits}
use Rattle.arj_law_disk.specs.machine.State.{Below, Packed, state_for, target}
use Rattle.arj_law_disk_view.specs.view.Pairs.{packed}
use Rattle.arj_law_disk_view.specs.view.Plans.{plan_at, used_at}
use Rattle.arj_law_disk_view.specs.view.Stores.{SeesStore}
use Rattle.arj_law_parts.specs.moves.Keeps.{Holds}
use Rattle.arj_law_runs.specs.calls.Reached.{IsReached}
use Rattle.arj_law_serial.proofs.Terms
use Terms.{Action, AgreesApart, AreTied, Fixed, IsSeenIn, Kinds, KnowsFew, Office, OpsFit, SeesBoth, SeesLocks, State, case_of, code_of}
use Terms.{first_values, object_line}
use Rattle.arj_law_serial.proofs.joint
use joint.{Beginning.WithFirst, JoinKeeps.WithTurns, Joining.HasLocks, Joining.WithLocks, LightKeeps.WithLights, NextGiven.one_requests}
use joint.JoinedParts.{Base, Carried, Whole}
use joint.OrderedRuns.{IsOrderedBeside}
use Rattle.arj_law_serial.proofs.order.{Codes.codes_are_apart, Seeing.agrees_at, Seeing.fixed_at}
use Rattle.arj_law_serial.specs.joint.Joined.{SeesInOrder}
use Rattle.arj_law_cause.proofs.confirm.Joined.{IsEarly, beside}
use Rattle.arj_law_cause.proofs.confirm.Labels.{reached_world, world_of}
use Rattle.arj_law_cause.proofs.confirm.Nexts.{IsNoLater, never_late}
use Rattle.arj_law_cause.proofs.confirm.Reached.{IsOfWorld, Reached, sees_at, world_at}

module _ (hd : Header) (x : ℕ) (form : HeaderFits hd) (line : is_some (object_line hd x) ≡ true) (Z : Seen) (reached : Reached hd Z)
    (early : IsEarly Z.lines) where
  h : IsOfWorld hd Z
  h = world_of hd Z reached

  abbrev w : World
  w = world_at hd Z (world_of hd Z reached)

  there : IsReached hd (world_at hd Z (world_of hd Z reached))
  there = reached_world hd Z reached early.few early.short

  lines : (world_at hd Z (world_of hd Z reached)).lines ≡ Z.lines
  lines = ap (λ (S : Seen). S.lines) (sees_at hd Z (world_of hd Z reached) Z.sent)

  holds : Holds hd (IsOrderedBeside (Base hd x) (λ tops A M.
      WithLights x (WithTurns x (WithLocks (first_values hd) x (Whole x) (λ f S M. ⊤) (Carried hd x))) tops A M) hd x)
      (world_at hd Z (world_of hd Z reached))
  holds = beside hd x form line (world_at hd Z (world_of hd Z reached)) there (subst (OpsFit x) (sym lines) (early.fit x))

  abbrev M : Seen
  M = see holds.sent (world_at hd Z (world_of hd Z reached))

  abbrev tops : Kinds
  tops = holds.holds.1

  abbrev A : Office
  A = holds.holds.2

  both : SeesBoth x holds.holds.1 holds.holds.2 (see holds.sent (world_at hd Z (world_of hd Z reached)))
  both = let z = holds.holds.6 in z.both

  carried : WithFirst hd x (SeesInOrder x) holds.holds.1 holds.holds.2 (see holds.sent (world_at hd Z (world_of hd Z reached)))
  carried = let p = holds.holds.4 in p.0.0.0.0

  locks : HasLocks (first_values hd) x (Whole x) (λ f S M. ⊤) (let B = holds.holds.2 in B.world)
      (see holds.sent (world_at hd Z (world_of hd Z reached)))
  locks = let p = holds.holds.4 in p.0.0.1

  few : KnowsFew (see holds.sent (world_at hd Z (world_of hd Z reached)))
  few = holds.holds.5

  abbrev begun : List Action
  begun = locks.0

  locks_at : (f : Fixed) → AgreesApart (first_values hd) M.start.marks f x locks.0 M.sent →
      (S : State) × SeesLocks f x locks.0 S M × AreTied f x M.lines S
  locks_at f a = let z = locks.3 f a in (z.0, z.1, z.2)

  abbrev f : Fixed
  f = fixed_at (first_values hd) x M locks.0 locks.1 (λ g apart a. locks_at g (a.0, (a.1, apart)))
      (one_requests x locks.0 M few locks.2.0) code_of

  agrees : AgreesApart (first_values hd) M.start.marks (fixed_at (first_values hd) x M locks.0 locks.1
      (λ g apart a. locks_at g (a.0, (a.1, apart))) (one_requests x locks.0 M few locks.2.0) code_of) x locks.0 M.sent
  agrees = let a = agrees_at (first_values hd) x M locks.0 locks.1 (λ g apart a. locks_at g (a.0, (a.1, apart)))
      (one_requests x locks.0 M few locks.2.0) code_of in (a.0, (a.1, codes_are_apart))

  abbrev S : State
  S = (locks.3 f agrees).0

  seen : IsSeenIn (case_of f x locks.0 (locks.3 f agrees).0) M
  seen = record {
    good = locks.1.0;
    alike = locks.1.1;
    written = locks.1.2;
    agrees = agrees.0;
    sees = (locks.3 f agrees).1;
    tied = (locks.3 f agrees).2;
  }

  -- each node is there as it is
  at_node : (j : ℕ) (n : Node) → Z.nodes j ≡ Some n → M.nodes j ≡ Some n
  at_node j n is = ap (λ (V : Seen). V.nodes j) (sees_at hd Z (world_of hd Z reached) holds.sent) ∙ is

  module _ (n1 : Node) (here1 : Z.nodes 1 ≡ Some n1) (u : Uid) (k : Node) (t : Parts) (here : Z.nodes u.node ≡ Some k)
      (live : k.live ≡ Some t) (b : Branch) (found : branch_of u t.coord.tree ≡ Some b) (unended : b.ended ≡ None) (q : Doing) (p : Plan)
      (works : doing_of u t.coord ≡ Some q) (now : q.now ≡ Committing (Confirming p)) (r : Used) (used : used_at x p.used ≡ Some r)
      (present : IsNoLater n1 r.grant) (j : ℕ) (node : Node) (g : ObjectState) (goal : target (plan_at x p) j ≡ true)
      (stored : Z.nodes j ≡ Some node) (held : held_at (object x) (let d = node.disk in d.store) ≡ Some g)
      (late : Below (packed g) (state_for (plan_at x p)) → ⊥) where
    pub no_late : ⊥
    no_late = never_late (first_values hd) x holds.holds.1 holds.holds.2 M both carried.0.0.0.0.0 carried.0.0.0.0.1
        (let z = holds.holds.7 in z.0.0.1) there.labels few.1.1 f locks.0 (locks.3 f agrees).0 seen agrees.1.0 codes_are_apart
        (locks.3 f agrees).3 (locks.3 f agrees).4 ((locks.3 f agrees).6 codes_are_apart).0 carried.0.0.0.1 carried.0.1
        (let z = carried.1 in ap (λ (y : Packed). y.writer) z.state)
        n1 (at_node 1 n1 here1) u k t (at_node u.node k here) live b found unended q p works now r used present
        j (packed g) goal ((let s = store.pair in sym s.held_is) ∙ ap (option_map packed) held) late
      where
        store : SeesStore x j (let d = node.disk in d.store) (let B = holds.holds.2 in let W = B.world in W.disk)
        store = let z = both.disks in z.stores j node (at_node j node stored)
