-- After a quiesce only calls that are overtaken wait, in every run, and whoever else waited was answered.
use Rattle.arj_law_parts.proofs.Words
use Words.{◌≡◌, ◌⊎◌, ℕ, true, false, [], Some, sym, ◌∙◌, ap, subst, inl, inr, ⊎_elim, ◌&&◌, nat_le, Header, Uid, Machine, left_of}
use Words.{Committing, Coord, Doing, doing_of, World, is_node, moved, world_by, Seen, see, StillWaits, coord_in, WaitsOvertaken, is_empty}
use Words.{at_place, is_waiting_now, Move, AreUp, HasAnswer}
use Words.event
use Rattle.arj_law_promise.proofs.Terms
use Terms.{HeaderFits, IsNumbered, all_keep, IsGood, Holds, KeepsAsked, keeps_asked, move_asked, moves_asked, AnswersWaits, over_before}
use Terms.{asked_both, keeps_good, WaitsAreKnown}
use Rattle.arj_law_promise.proofs.settling.{ListingRuns.ListsAreKnown, ListingRuns.lists_keep, Stored.loads_given}
use Rattle.arj_law_promise.proofs.waiting.{Gives.at_of, Gives.known_give_by, Keeping.waits_keep, Untold.its_up}
use Rattle.arj_law_runs.proofs.resting.{Ended.same_waits, PlainRuns.quiesces_answer_or_leave, Quiesces.run_answers}
use Rattle.arj_law_runs.specs.resting.Rounds.{WaitOvertaken}
use Rattle.arj_promise.specs.Runs.{Run}
use Rattle.arj_promise.specs.Waiting.{OnlyOvertakenWait}

-- a commit that waits waits for some node
none_left : (M : Seen) → IsGood M → (k : ℕ) (c : Coord) (u : Uid) (q : Doing) (m : Machine) → coord_in (M.nodes k) ≡ Some c →
    doing_of u c ≡ Some q → q.now ≡ Committing m → left_of m ≡ [] → ⊥
none_left M good k c u q m found does now none =
    let a = at_of M k c found in
    let n = (its_up good.0 M good.1 k a.node a.parts a.found a.live).numbered u q (ap (doing_of u) a.same ∙ does) in
    let w = subst (IsNumbered q.req) now n in
    let no_way : true ≡ false = ap is_empty (sym none) ∙ w.1.1 in cc no_way

-- what is known of whoever waits, and of each store that a list names
abbrev pub AllKnown : Header → Seen → Type 0
AllKnown hd M = WaitsAreKnown hd M × ListsAreKnown hd M

pub all_kept : (hd : Header) → HeaderFits hd → KeepsAsked hd (AllKnown hd)
all_kept hd form =
    asked_both hd (WaitsAreKnown hd) (ListsAreKnown hd) (waits_keep hd form) (keeps_asked hd (ListsAreKnown hd) (lists_keep hd form))

-- so no request for which somebody waits is void, but one of a call that is overtaken
pub all_answer : (hd : Header) → HeaderFits hd → (P : Seen → Type 0) → ((M : Seen) → P M → AllKnown hd M) → AnswersWaits hd P
all_answer hd form P to = known_give_by hd form P (λ M p. (to M p).0) (loads_given hd P (λ M p. (to M p).1))

-- At whose end every node is up, whatever stops fall, and in which no limit is met.
pub runs_leave_overtaken : (hd : Header) → HeaderFits hd → (r : Run hd) (m : Move) → let w = world_by hd r in
    m.asked.event ≡ event.Quiesce → (moved m w).over ≡ false → AreUp (moved m w) → OnlyOvertakenWait (moved m w)
runs_leave_overtaken hd form r v is last ups k c u q node found does waits =
    ⊎_elim (λ s. s) (λ m. absurd (none_left (see after.sent (moved v (world_by hd r))) (let p = after.holds in
    p.1) k c u q m.0 found does m.1 m.2)) (answer k c u q node found does waits)
  where
    kept : KeepsAsked hd (AllKnown hd)
    kept = all_kept hd form

    P : Seen → Type 0
    P M = AllKnown hd M × IsGood M

    after : Holds hd P (moved v (world_by hd r))
    after = move_asked hd P (keeps_good hd (AllKnown hd) kept) v (world_by hd r) (moves_asked hd P (keeps_good hd (AllKnown hd) kept) r)

    answer : WaitOvertaken (moved v (world_by hd r))
    answer = run_answers hd (AllKnown hd) kept (all_answer hd form P (λ M p. p.0)) r v is (over_before v (world_by hd r) last) last ups

-- whoever waited as it began waits so, or was answered
pub quiesces_answer_the_rest : (hd : Header) → HeaderFits hd → (r : Run hd) (m : Move) (k : ℕ) (c : Coord) (u : Uid) (q : Doing) →
    let w = world_by hd r in m.asked.event ≡ event.Quiesce → (moved m w).over ≡ false → AreUp (moved m w)
    → is_node k w ≡ true → coord_in (at_place k w.nodes) ≡ Some c → doing_of u c ≡ Some q → is_waiting_now q.now ≡ true →
    let v = moved m w in WaitsOvertaken v k u q ⊎ HasAnswer q w.lines v.lines
quiesces_answer_the_rest hd form r v k c u q is last ups node found does waits = ⊎_elim (λ still. inl (overtaken still)) (λ answer.
    inr answer) (quiesces_answer_or_leave hd r v k c u q is (over_before v (world_by hd r) last) (ups k there) found does waits)
  where
    w : World
    w = world_by hd r

    good : Holds hd IsGood (world_by hd r)
    good = moves_asked hd IsGood (keeps_asked hd IsGood (all_keep hd)) r

    after : Holds hd IsGood (moved v (world_by hd r))
    after = move_asked hd IsGood (keeps_asked hd IsGood (all_keep hd)) v (world_by hd r) good

    -- its node is one of the header
    there : is_node k (moved v w) ≡ true
    there = subst (λ (x : Header). (nat_le 1 k && nat_le k x.nodes) ≡ true) (good.stands.header ∙ sym after.stands.header) node

    overtaken : StillWaits (moved v w) k u q → WaitsOvertaken (moved v w) k u q
    overtaken still =
        let o = runs_leave_overtaken hd form r v is last ups k still.coord u still.doing there still.found still.does
        (same_waits q.now still.doing.now still.same) in
        record { still = still; steps = o.0; now = o.1; overtaken = o.2 }
