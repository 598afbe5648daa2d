-- At each moment of a run: of what a commit under way has changed its top has written the object, by the journal.
use Rattle.arj_law_parts.proofs.Words
use Words.{⊤, cond, ◌≡◌, ◌≤◌, ◌∙◌, ℕ, true, List, Some, refl, sym, ap, subst, is_some, Header, ObjectState, Uid, Disk, Parts, Seen}
use Words.{Committing, Doing, Machine, Post, changed_of, doing_of, In, plan_of}
use Rattle.arj_law_serial.proofs.Terms
use Terms.{Act, Action, HeaderFits, IsAlikeOf, IsSeenIn, KnowsFew, Spot, State, Values, World, acts, acts_of, paths_of}
use Terms.{AgreesApart, AreAlike, AreRight, AreTied, AreVotedAt, Fixed, IsTied, RequestsAreOne, SeesLocks, case_of, code_of, first_values}
use Terms.{OpsFit, its_acts, new_book, object_line, side_at, up}
use Rattle.arj_law_lock.specs.machine.State.{Merged}
use Rattle.arj_law_lock_view.specs.view.Voted.{HasVotes, voters_left}
use Rattle.arj_law_parts.specs.moves.Seen.{Within, with_sent}
use Rattle.arj_law_runs.proofs.kept.Walked.{same_number}
use Rattle.arj_law_parts.specs.moves.Keeps.{Holds}
use Rattle.arj_law_serial.proofs.joint
use joint.{Counting.at_commit, JoinKeeps.WithTurns, JoinedParts.Base, JoinedParts.Carried, JoinedParts.Whole, Joining.HasLocks}
use joint.{Joining.WithLocks, LightKeeps.WithLights, NextGiven.one_requests, OrderedRuns.IsOrderedBeside}
use Rattle.arj_law_serial.proofs.order
use order.{Begun.begun_have_places, Codes.codes_are_apart, Seeing.agrees_at, Seeing.fixed_at}
use Rattle.arj_model.specs.CausePends.{has_written}
use Rattle.arj_law_cause.specs.rows.Early.{IsEarly}
use Rattle.arj_law_cause.proofs.confirm.{Joined.beside, Labels.reached_world, Labels.world_of, Reached.IsOfWorld}
use Rattle.arj_law_cause.proofs.confirm.{Reached.Reached, Reached.sees_at, Reached.within_of, Reached.world_at}
use Rattle.arj_law_cause.proofs.votes.{Above.changed_above, Surviving.merged_written, Voted.voted_called}

-- the object is seen by its lock machine, with all that was sent and more
record HasMachine (hd : Header) (x : ℕ) (S : Seen) : Type 0 where
  sent : List Post
  within : Within S.sent sent
  machine : World
  locks : HasLocks (first_values hd) x (Whole x) (λ f S M. ⊤) machine (with_sent sent S)
  few : KnowsFew (with_sent sent S)

machine_there : (hd : Header) (x : ℕ) → HeaderFits hd → is_some (object_line hd x) ≡ true → (S : Seen) → Reached hd S → IsEarly S.lines →
    HasMachine hd x S
machine_there hd x form there S r early = record {
  sent = holds.sent;
  within = within_of hd S h holds.sent holds.stands;
  machine = (let A = holds.holds.2 in A.world);
  locks = subst (HasLocks (first_values hd) x (Whole x) (λ f S M. ⊤) (let A = holds.holds.2 in A.world)) (sees_at hd S h holds.sent)
      (let p = holds.holds.4 in p.0.0.1);
  few = subst KnowsFew (sees_at hd S h holds.sent) holds.holds.5;
}
  where
    h : IsOfWorld hd S
    h = world_of hd S r

    holds : Holds hd (IsOrderedBeside (Base hd x) (λ tops A M.
        WithLights x (WithTurns x (WithLocks (first_values hd) x (Whole x) (λ f S M. ⊤) (Carried hd x))) tops A M) hd x)
        (world_at hd S (world_of hd S r))
    holds = beside hd x form there (world_at hd S (world_of hd S r)) (reached_world hd S r early.few early.short)
        (subst (OpsFit x) (sym (ap (λ (Z : Seen). Z.lines) (sees_at hd S h S.sent))) (early.fit x))

-- ---- a commit under way

module _ (hd : Header) (x : ℕ) (form : HeaderFits hd) (there : is_some (object_line hd x) ≡ true) (k : ℕ) (d : Disk) (v : Parts)
    (N : Seen)
    (reached : Reached hd (up k d v N)) (early : IsEarly N.lines) where
  its : HasMachine hd x (up k d v N)
  its = machine_there hd x form there (up k d v N) reached early

  abbrev M : Seen
  M = up k d v (with_sent its.sent N)

  abbrev values : Values
  values = first_values hd

  has_locks : HasLocks values x (Whole x) (λ f S M. ⊤) its.machine M
  has_locks = its.locks

  abbrev begun : List Action
  begun = has_locks.0

  alike : IsAlikeOf begun M
  alike = has_locks.1

  right : AreRight new_book N.lines
  right = let w = alike.2 in w.right

  requests : RequestsAreOne M
  requests = one_requests x begun M its.few has_locks.2.0

  locks : (f : Fixed) → AgreesApart values M.start.marks f x begun M.sent → (S : State) × SeesLocks f x begun S M × AreTied f x M.lines S
  locks f a = let z = has_locks.3 f a in (z.0, z.1, z.2)

  abbrev f : Fixed
  f = fixed_at values x M begun alike (λ g apart a. locks g (a.0, (a.1, apart))) requests code_of

  agrees : AgreesApart values M.start.marks f x begun M.sent
  agrees = let a = agrees_at values x M begun alike (λ g apart a. locks g (a.0, (a.1, apart))) requests code_of in
      (a.0, (a.1, codes_are_apart))

  abbrev S : State
  S = (has_locks.3 f agrees).0

  voted : AreVotedAt f x S M
  voted = (has_locks.3 f agrees).3

  tied : IsTied values N.lines x S
  tied = record {
    act = acts_of begun;
    code = code_of;
    apart = codes_are_apart;
    places = begun_have_places begun (paths_of begun) (acts_of begun) N.lines right
        (subst (AreAlike begun) (its_acts N.lines right) alike.1) agrees.0.whole;
    first = code_of (values x) (acts_of begun (let m = M.start.marks.states x in m.writer));
    run = (let s = (has_locks.3 f agrees).1 in s.run);
    tied = (has_locks.3 f agrees).2 values (acts_of begun (let m = M.start.marks.states x in m.writer), refl);
  }

  seen : IsSeenIn (case_of f x begun S) M
  seen = record {
    good = alike.0;
    alike = alike.1;
    written = alike.2;
    agrees = agrees.0;
    sees = (has_locks.3 f agrees).1;
    tied = (has_locks.3 f agrees).2;
  }

  abbrev s : Spot
  s = record { node = k; disk = d; parts = v; seen = with_sent its.sent N }

  module _ (u : Uid) (q : Doing) (m : Machine) (found : doing_of u v.coord ≡ Some q) (now : q.now ≡ Committing m) where
    one : (S.action (f.act u)).stage ≡ 1
    one = at_commit (case_of f x begun S) s seen its.few.1.1 u q m found now

    votes : HasVotes (side_at f.act f.code x u) (plan_of m) (voters_left m) S
    votes = voted k (record { number = k; disk = d; live = Some v }) v (λ i. cond (same_number k i)
        (Some (record { number = k; disk = d; live = Some v })) (N.nodes k)) refl u q m found now

    -- so the top has written the object
    pub changed_written : (st : ObjectState) → changed_of x (plan_of m) ≡ Some st → (a : Act) → In a (acts N.lines) → a.uid ≡ u →
        has_written N.lines a.id x ≡ true
    unfolding tied
    changed_written st is a i uid =
        let c = voted_called f x S u (plan_of m) (voters_left m) votes one st is in
        merged_written values N.lines right x S tied a i c.0 c.1 c.2 (c.3 ∙ ap f.act (sym uid))
        (subst (λ (w : Uid). Merged S c.0.act (f.act w)) (sym uid) c.4)

    -- and the state is of a version above zero
    pub changed_version : (st : ObjectState) → changed_of x (plan_of m) ≡ Some st → 1 ≤ st.version
    changed_version st is = changed_above f x S u (plan_of m) (voters_left m) votes st is
