-- What a commit that waits for naming has planned was voted over a known state; and what naming then takes is the next version.
use Rattle.arj_law_parts.proofs.Words
use Words.{arith, ◌≡◌, ◌∙◌, ◌+◌, ◌<◌, ℕ, true, Some, sym, ap, subst, inl, IfSome, uid_is, in_find, ObjectState, Uid, object, uid_eq}
use Words.{Confirming, Plan, changed_of, Committing, Coord, Doing, doing_of, next_version, uid_number}
use Rattle.arj_law_serial.proofs.Terms
use Terms.{Core, World, Packed, last, last_known, plan_by, CoordIsSo, NowIsSo, Own, PlanIsSo, top, Guard, Alive, Call, State, ConfirmTop}
use Terms.{IsLast, Fixed, HasWriters, IsKnownState, IsVotedOver, IsVotedState, WasVotedOver, coord_fits, ChangesCalled, IsPlannedSo}
use Terms.disk
use Terms.machine
use Rattle.arj_law_disk_view.proofs.running.StateCoords.{found_so}
use Rattle.arj_law_serial.proofs.joint.{BasedNext.over_the_last, BasedNodes.keep, BasedRaise.known_one}

-- what a commit under way has changed was voted so
pub over_here : (f : Fixed) (x : ℕ) (S : State) (W : World) (c : Coord) → CoordIsSo (coord_fits f x S W) c →
    (u : Uid) (q : Doing) (p : Plan) → doing_of u c ≡ Some q → q.now ≡ Committing (Confirming p) → ChangesCalled x u p →
    (st : ObjectState) → changed_of x p ≡ Some st → IsVotedOver f x u S W st
over_here f x S W c its u q p does now changed st is = subst (λ (w : Uid). IsVotedOver f x w S W st) (changed st is).0
    (one (uid_is st.uid (object x) (in_find (λ (s : ObjectState). uid_eq s.uid (object x)) st p.changed is).1))
  where
    plan : PlanIsSo (coord_fits f x S W) p
    plan = subst (NowIsSo (coord_fits f x S W)) now (its.works u q does)

    one : Own (coord_fits f x S W).voted st
    one = subst (λ o. IfSome o (Own (coord_fits f x S W).voted)) is (found_so (coord_fits f x S W)
        (keep x (IsKnownState W) (IsVotedState f x S W) (λ b base. Unit {0})) (λ s. uid_eq s.uid (object x)) p.changed plan.changed)

-- so a decided top had it in its plan
pub was_voted_over : (f : Fixed) (x : ℕ) (u : Uid) (S : State) (W : World) (p : IsPlannedSo f x S W u) →
    ((st : ObjectState) → changed_of x p.plan ≡ Some st → IsVotedOver f x u p.waiting W st) → disk.decided W.disk (uid_number u) ≡ true →
    (st : ObjectState) → changed_of x p.plan ≡ Some st → WasVotedOver f x u S W
was_voted_over f x u S W p over decided st is = record {
  decided = decided;
  state = st;
  writes = (let c = p.changed st is in ap (λ (z : disk.Plan). z.writes) p.same ∙ (λ i. (let k = plan_by (c.1.1 i) (is i) in k.writes)));
  waiting = p.waiting;
  reached = p.reached;
  since = p.since;
  stage = p.stage;
  call = p.counted st is;
  over = over st is;
}

-- As naming may take the Confirm it is one version above the last state, if that is by whose write the lock machine has as the last
-- committed one.
pub is_next : (f : Fixed) (x : ℕ) (u : Uid) (S : State) (W : World) → Core W.disk → HasWriters W.disk →
    (st : ObjectState) (z : IsVotedOver f x u S W st) → (let a = S.action (f.act u) in a.stage) ≡ 1 → (q : ℕ) →
    Guard (ConfirmTop (f.act u) q) S → (c : Call) → machine.In c S.calls → top c.act ≡ f.act u → Alive S c.act
    → ((w : Uid) → IsLast S (f.code (let k = z.copy in let b = k.base in b.value) (f.act w)) S.calls →
    uid_number w ≡ (let g = last W.disk in g.writer)) → (let g = last W.disk in g.version) < 18446744073709551615 →
    st.version ≡ (let g = last W.disk in g.version) + 1
is_next f x u S W core writers st z one q takes c there its alive newest short =
    let o = over_the_last f x u S W st z one q takes c there its alive in
    let k = o.1 in
    let same : k.0 ≡ last W.disk = known_one W.disk core writers k.0 (last W.disk) k.1 (inl (last_known (let D = W.disk in
    D.first) (let D = W.disk in D.tops))) (k.3 ∙ newest (let y = z.copy in let b = y.base in b.writer) o.0) in
    sym o.2 ∙ ap next_version (sym k.2 ∙ ap (λ (g : Packed). g.version) same) ∙ plain (let g = last W.disk in g.version) short
  where
    plain : (v : ℕ) → v < 18446744073709551615 → next_version v ≡ v + 1
    plain v low = grind (arith, low)
