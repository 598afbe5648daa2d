-- Both machines of an object beside each other, through each handler: what the disk machine has in the plans of decided tops is what was
-- voted, by the lock machine.
use Rattle.arj_law_parts.proofs.Words
use Words.{Start, world_from}
use Words.{◌≡◌, ◌⊎◌, ℕ, ◌+◌, Bool, true, false, List, [], ◌∷◌, None, Some, refl, sym, ◌∙◌, ap, subst, inl, inr, ⊎_elim, ⊤, uid_is, in_find}
use Words.{Asked, Header, Message, ObjectState, Uid, object, uid_eq, Reply, answers, again_all, begin_action, Known, Confirming, Disk}
use Words.{Effect, Intent, Send, tick_outs, Parts, with_coord, uid_number, Node, acts, parent_of, parts_in, restart_outs}
use Words.{Seen, see, is_serial}
use Words.list
use Words.loaded
use Rattle.arj_law_serial.proofs.Terms
use Terms.{IsAtStarts, Marks}
use Terms.{Values, Action, World, Office, Plan, decided, decided_in, never, Run, stay, State, go_on, at, down, given, said, up, Up, Walks}
use Terms.{halted, walks_both, walks_to, KnowsRun, SeesConfirming, KnowsNode, KnowsMachine, Among, IsLater, Kinds, SeesCoord, confirming_of}
use Terms.{first_at, node_here, OnlyAnswers, OnlyFound, SeesBoth, Change, Changes, Quietly, change_by, SeesHeard, KeepsPart, are_recorded}
use Terms.{goes_along, restart_plain, AreDone, goes_by, book, IsIdle, IsAlikeOf, KeepsOf, begins_in, KnowsRequests, IsLastFor, IsSeenIn}
use Terms.{Spot, world_at, Fixed, view_of, GivesLocks, HasCome, case_of, SeesLocks, SeesUp, AreTied, AreVotedAt, KnowsWhole, AreApart}
use Terms.{AgreesApart, IsApt, AreBasedSo, StaysBased, AreLoadsLast, AwaitsLoad, ArePlannedSo, ChangesCalled, IsPaired, IsPlannedSo}
use Terms.{IsRecordedAt}
use Terms.Effects as machine
use Rattle.arj_law_lock_view.proofs.running
use running.KeptSteps.{LocksFrom, LocksSo, as_older, first_kept, kept_act, kept_begin, kept_message, kept_restart, kept_tick, quiet_kept}
use running.KeptSteps.{stop_kept}
use Rattle.arj_law_lock_view.specs.{running.Kept.AreCoordsNamed, view.Calling.IsReached}
use Rattle.arj_law_parts.proofs.moves.Together.{walks_each}
use Rattle.arj_law_runs.specs.calls.Runs.{AllVotesAreUsed}
use Rattle.arj_law_serial.proofs.joint
use joint.{BasedLater.voted_on, BasedLaws.stops_keep, BasedOthers.quiet_based, BasedPlans.over_here, Counting.at_commit}
use joint.{Counting.changed_counted, DecidedTops.planned_over, LoadGuards.guard_there, LoadMoves.IsOnward, LoadMoves.loads_stay}
use joint.BasedRuns.{act_based, begin_based, first_based, message_based_here, restart_based, tick_based}
use joint.Ending.{Ends, NewlyDecides, decides_along, decides_by, ends_along, ends_by, ends_of, message_ends, record_of}
use joint.LoadSteps.{act_onward, begin_onward, message_onward, tick_onward}
use joint.Starting.{stands_for}
use joint.LoadWalks.{GivesNow, IsMoved, IsStill, halted_still, loads_moved, loads_restarted, moves_walk, none_given}
use joint.Recording.{AreRecordedBy, IsConfirming, acts_put, anyone, are_theirs, here_then, message_puts, others_then, plainly, recorded_at}
use joint.Recording.{records_walk, tick_puts}

-- ---- what is kept

-- The object is seen by its lock machine, for all that may be fixed and agrees, beside this world of its disk machine; and of the state of
-- the lock machine this is known.
abbrev pub HasLocks : Values → ℕ → (List Action → Seen → Type 0) → (Fixed → State → Seen → Type 0) → World → Seen → Type 0
HasLocks values x R Past W M = (begun : List Action) × IsAlikeOf begun M × R begun M
    × ((f : Fixed) → AgreesApart values M.start.marks f x begun M.sent → (S : State) × SeesLocks f x begun S M × AreTied f x M.lines S
    × AreVotedAt f x S M × ArePlannedSo f x S W M × AreLoadsLast f x S M × AreBasedSo f x S W M × Past f S M) × AreCoordsNamed M

-- with what is carried beside the disk machine's state
abbrev pub WithLocks : Values → ℕ → (List Action → Seen → Type 0) → (Fixed → State → Seen → Type 0) → (Kinds → Office → Seen → Type 0) →
    Kinds → Office → Seen → Type 0
WithLocks values x R Past P tops A M = P tops A M × HasLocks values x R Past A.world M

-- ---- one top

-- it stays so as both machines go on
pub planned_later : (f : Fixed) (x : ℕ) (S T : State) (W V : World) → Run S T → IsLater W V → (u : Uid) → IsPlannedSo f x S W u →
    IsPlannedSo f x T V u
planned_later f x S T W V run later u p = record {
  plan = p.plan;
  begun = later.begun (uid_number u) p.begun;
  same = later.plan (uid_number u) p.begun ∙ p.same;
  waiting = p.waiting;
  reached = p.reached;
  since = go_on p.since run;
  stage = p.stage;
  votes = p.votes;
  sees = p.sees;
  changed = p.changed;
  counted = p.counted;
  over = λ apart st is. voted_on f x p.waiting p.waiting W V p.reached stay later u st (p.over apart st is);
}

pub among_of : (s : ObjectState) (ss : List ObjectState) → list.In s ss → Among s ss
among_of s [] i = i
among_of s (t ∷ ts) (inl is) = inl is
among_of s (t ∷ ts) (inr i) = inr (among_of s ts i)

-- a top whose commit waits for naming
pub planned_here : (f : Fixed) (x k : ℕ) (d : Disk) (t : Parts) (M : Seen) (begun : List Action) (S : State) (tops : Kinds) (A : Office) →
    KnowsNode tops k d t M → SeesBoth x tops A (up k d t M) → SeesHeard x tops A (up k d t M) → IsSeenIn (case_of f x begun S) (up k d t M)
    → AreVotedAt f x S (up k d t M) → AreBasedSo f x S A.world (up k d t M) → KnowsRun (up k d t M)
    → (u : Uid) → IsConfirming t.coord u → IsPlannedSo f x S A.world u
planned_here f x k d t M begun S tops A knows both heard seen voted based known u c = record {
  plan = c.plan;
  begun = sees.begun;
  same = sees.plan;
  waiting = S;
  reached = seen.sees.run;
  since = stay;
  stage = at_commit (case_of f x begun S) s seen known u c.doing (Confirming c.plan) c.works c.now;
  votes = voted k (record { number = k; disk = d; live = Some t }) t here refl u c.doing (Confirming c.plan) c.works c.now;
  sees = (let l = seen.sees in let up_now : SeesUp (view_of f x begun k) S d t = l.nodes k (record { number = k; disk = d; live = Some t })
      here in let w = up_now.coord in w.commits u c.doing (Confirming c.plan) c.works c.now);
  changed = changed;
  counted = changed_counted (case_of f x begun S) s seen known u c.doing (Confirming c.plan) c.works c.now;
  over = λ apart. over_here f x S A.world t.coord (let b = (based apart).0 in
      b.coords k (record { number = k; disk = d; live = Some t }) t here refl) u c.doing c.plan c.works c.now changed;
}
  where
    s : Spot
    s = record { node = k; disk = d; parts = t; seen = M }

    here : (up k d t M).nodes k ≡ Some (record { number = k; disk = d; live = Some t })
    here = node_here M k (record { number = k; disk = d; live = Some t })

    n : KnowsMachine tops t.coord u (Confirming c.plan)
    n = let z = knows.coord in z.machines u c.doing (Confirming c.plan) c.works c.now

    coord_seen : SeesCoord x k d.inc tops t.coord A.world.disk
    coord_seen = let s = both.disks in s.coords k (record { number = k; disk = d; live = Some t }) t here refl

    sees : SeesConfirming x A.world.disk (uid_number u) c.plan
    sees = confirming_of x tops A.world.disk (uid_number u) n.branch.kind c.doing.now c.plan n.top c.now
        (coord_seen.working u n.branch c.doing n.found n.unended c.works)

    changed : ChangesCalled x u c.plan
    changed st is =
        let g = in_find (λ (s : ObjectState). uid_eq s.uid (object x)) st (let p = c.plan in p.changed) is in
        let own = uid_is st.uid (object x) g.1 in
        let among = among_of st (let p = c.plan in p.changed) g.0 in
        let o = n.changes x st among own in
        let h = heard.coords k (record { number = k; disk = d; live = Some t }) t here refl in
        let p = h.plans u c.doing (Confirming c.plan) c.works c.now in
        let r = p.changed o.used st o.uses among own in
        (r.1, (o.used, o.uses, r.0))

-- ---- a step

-- The disk machine goes on, and may decide these, with a record or without one.
abbrev pub Moves : (ℕ → Bool) → World → World → Type 0
Moves g W V = IsLater W V × Ends g W V × NewlyDecides g W V

-- What a step comes to, of a world of the disk machine and a state of the lock machine that stand beside each other: who is newly decided
-- has its record; who newly has one is such a top, and so is who ended without one, or had one before.
module _ (f : Fixed) (x : ℕ) (C : Uid → Type 0) (g : ℕ → Bool) (W : World) (S : State) (M : Seen) (whose : (u : Uid) → g (uid_number u)
    ≡ true → IsRecordedAt M u ⊎ C u) (before : ArePlannedSo f x S W M) (waiting : (u : Uid) → C u → IsPlannedSo f x S W u) where
  pub planned_then : (V : World) (T : State) (N : Seen) → Run S T → Moves g W V → AreRecordedBy C M N → ArePlannedSo f x T V N
  planned_then V T N run (later, ends, decides) recs = record { decisions = decisions; records = records; bares = bares }
    where
      records : (u : Uid) → IsRecordedAt N u → IsPlannedSo f x T V u
      records u r = planned_later f x S T W V run later u
          (⊎_elim (λ (old : IsRecordedAt M u). before.records u old) (λ (new : C u). waiting u new) (recs u r))

      chosen : (u : Uid) → g (uid_number u) ≡ true → IsPlannedSo f x T V u
      chosen u on = planned_later f x S T W V run later u
          (⊎_elim (λ (r : IsRecordedAt M u). before.records u r) (λ (c : C u). waiting u c) (whose u on))

      bares : (u : Uid) → V.disk.bare (uid_number u) ≡ true →
          IsPlannedSo f x T V u × ((let p = V.disk.plan (uid_number u) in p.writes) ≡ None)
      bares u on = ⊎_elim
          (λ (old : W.disk.bare (uid_number u) ≡ true). let p = before.bares u old in let q = p.0 in
          (planned_later f x S T W V run later u q, ap (λ (k : Plan). k.writes) (later.plan (uid_number u) q.begun) ∙ p.1))
          (λ (new : (g (uid_number u) ≡ true) × ((let p = V.disk.plan (uid_number u) in p.writes) ≡ None)). (chosen u new.0, new.1))
          (ends (uid_number u) on)

      decisions : (u : Uid) → decided V.disk (uid_number u) ≡ true → IsPlannedSo f x T V u
      decisions u d = ⊎_elim (λ (old : decided W.disk (uid_number u) ≡ true). planned_later f x S T W V run later u
          (before.decisions u old)) (λ (new : g (uid_number u) ≡ true). chosen u new) (decides (uid_number u) d)

-- ---- each handler

-- What a store gives to a call that waits for it, as it answers, is the last committed state by the lock machine, where the binding is
-- current: so it is where this holds, beside the disk machine's state.
abbrev pub StoresGive : Values → ℕ → (World → Seen → Type 0) → (List Action → Seen → Type 0) → (Fixed → State → Seen → Type 0) →
    (Kinds → Office → Seen → Type 0) → Type 0
StoresGive values x K R Past P = (tops : Kinds) (A : Office) (s : Spot) → tops.walk ≡ None → K A.world (world_at s) → SeesBoth x tops A
    (world_at s) → P tops A (world_at s) → (j : HasLocks values x R Past A.world (world_at s)) →
    (f : Fixed) (a : AgreesApart values (let M = s.seen in M.start.marks) f x j.0
    (let M = s.seen in M.sent)) → (from : ℕ) (m : Message) (v : Parts) (outs : List Effect) → HasCome s from m v outs
    → (to : ℕ) (z : Message) (b : Asked) (st : ObjectState) (k : Known) → list.In (Send to z) outs →
    answers z ≡ Some (b, Reply.Loaded (loaded.State st)) → AwaitsLoad x (world_at s) b to s.node k →
    IsLastFor (case_of f x j.0 (let g = j.3 f a in g.0)) k st

module _ (hd : Header) (values : Values) (x : ℕ) (K : World → Seen → Type 0) (G : Seen → Type 0) (R : List Action → Seen →
    Type 0) (Past : Fixed → State → Seen → Type 0) (P : Kinds → Office → Seen → Type 0) (to : (W : World) (M : Seen) → K W M →
    G M) (keeps : KeepsOf hd (λ begun M. G M) R) (gives : (marks : Marks) (f : Fixed) → IsApt values x marks f →
    GivesLocks hd f x (λ begun S M. (G M × R begun M)
    × IsPaired x P f begun S M)) (stored : StoresGive values x K R Past P) (whole : (begun : List Action) (M : Seen) → R begun M →
    KnowsWhole x begun M) (used : (M : Seen) → G M → AllVotesAreUsed M) (runs : (M : Seen) → G M → KnowsRun M)
    (parts : KeepsPart hd x (λ W M. K W M × HasLocks values x R Past W M) P) (heard : (tops : Kinds) (A : Office) (M : Seen) → P tops A M →
    SeesHeard x tops A M) (done : (tops : Kinds) (A : Office) (M : Seen) → P tops A M → AreDone (λ ls u. IsIdle (book ls) u) A.world M)
    (stays : (W : World) (M N : Seen) → K W M → (f : Fixed) (S T : State) → Run S T → Past f S M →
    Past f T N) (starts : (f : Fixed) (S : State) → IsAtStarts hd (Past f S)) where
  abbrev Q : Kinds → Office → Seen → Type 0
  Q tops A M = WithLocks values x R Past P tops A M

  -- as the lock half has it
  abbrev locks_of : (W : World) (M : Seen) → HasLocks values x R Past W M → LocksSo (IsApt values x) ⊤ x R M
  locks_of W M j = (j.0, j.1, j.2, (λ f a. let g = j.3 f a in (g.0, g.1, g.2, (λ u. g.3))), j.4)

  abbrev Y : Fixed → List Action → State → Seen → Type 0
  Y f begun S M = IsPaired x P f begun S M

  -- what is known of each state of the lock machine here
  paired : (tops : Kinds) (M : Seen) (A : Office) → tops.walk ≡ None → SeesBoth x tops A M → P tops A M →
      (j : HasLocks values x R Past A.world M) → (f : Fixed) (a : AgreesApart values M.start.marks f x j.0 M.sent) →
      Y f j.0 (let g = j.3 f a in g.0) M
  paired tops M A walk both part j f a = let g = j.3 f a in (tops, walk, A, both, part, g.3, g.4, g.5, g.6)

  abbrev votes_used : (M : Seen) → G M → ⊤ → AllVotesAreUsed M
  votes_used M g u = used M g

  abbrev OfEach : Kinds → (Office → Type 0) → (Kinds → Office → Seen → Type 0) → Seen → Type 0
  OfEach tops D O Z = (B : Office) → D B → SeesBoth x tops B Z → O tops B Z

  module _ (tops : Kinds) (D : Office → Type 0) (C : Uid → Type 0) (g : ℕ →
      Bool) (W : World) (M : Seen) (begun : List Action) (from : (f : Fixed) → AgreesApart values M.start.marks f x begun M.sent → State)
      (goes : (B : Office) → D B → Moves g W B.world) (whose : (u : Uid) → g (uid_number u) ≡ true →
      IsRecordedAt M u ⊎ C u) (before : (f : Fixed) (a : AgreesApart values M.start.marks f x begun M.sent) →
      ArePlannedSo f x (from f a) W M
      × ((u : Uid) → C u → IsPlannedSo f x (from f a) W u) × ((N : Seen) (T : State) → Run (from f a) T → Past f T N)) (J : Seen →
      Type 0) (loads : (Z : Seen) → J Z → (f : Fixed) (a : AgreesApart values M.start.marks f x begun M.sent) (T : State) →
      Run (from f a) T →
      IsSeenIn (case_of f x begun T) Z → AreLoadsLast f x T Z) where
    -- of copies and votes so much is known, whatever both machines come to by then
    abbrev StayBased : Seen → Type 0
    StayBased Z = (f : Fixed) (a : AgreesApart values M.start.marks f x begun M.sent) → AreApart f.code →
        StaysBased f x begun (from f a) W Z

    -- so it is along a walk
    based_along : (e k : ℕ) (outs : List Effect) (v : Parts) (d : Disk) (N : Seen) →
        ((f : Fixed) (a : AgreesApart values M.start.marks f x begun M.sent) →
        AreApart f.code → Walks (StaysBased f x begun (from f a) W) e k outs (Up (StaysBased f x begun (from f a) W) k v) d N)
        → Walks StayBased e k outs (Up StayBased k v) d N
    based_along e k outs v d N each =
        let A : Type 0 = (f : Fixed) × AgreesApart values M.start.marks f x begun M.sent × AreApart f.code in
        let O : A → Seen → Type 0 = λ z. StaysBased z.0 x begun (from z.0 z.1) W in
        walks_to (λ Z. (z : A) → O z Z) StayBased e k outs (λ c Z. (z : A) →
        Up (O z) k v c Z) (Up StayBased k v) d N (λ Z h f a apart. h (f, a, apart)) (λ c Z h f a apart. h (f, a, apart))
        (walks_each {A = A} O e k outs (λ z. Up (O z) k v) d N (λ z. each z.0 z.1 z.2))

    locks_next : (Z : Seen) → LocksFrom (IsApt values x) ⊤ x R begun M from Z → AreRecordedBy C M Z → StayBased Z → J Z → (B : Office) →
        D B → SeesBoth x tops B Z → P tops B Z → HasLocks values x R Past B.world Z
    locks_next Z l recs based moves B c both part = (begun, l.0, l.1, here, l.3)
      where
        here : (f : Fixed) → AgreesApart values Z.start.marks f x begun Z.sent →
            (S : State) × SeesLocks f x begun S Z × AreTied f x Z.lines S
            × AreVotedAt f x S Z × ArePlannedSo f x S B.world Z × AreLoadsLast f x S Z × AreBasedSo f x S B.world Z × Past f S Z
        here f agrees =
            let z = l.2 f agrees in
            let a = z.4 in
            let b = before f a.0 in
            let seen : IsSeenIn (case_of f x begun z.0) Z =
            record { good = l.0.0; alike = l.0.1; written = l.0.2; agrees = agrees.0; sees = z.1; tied = z.2 } in
            let planned = planned_then f x C g W (from f a.0) M whose b.0 b.1 B.world z.0 Z a.1 (goes B c) recs in (
              z.0,
              z.1,
              z.2,
              z.3 tt,
              planned,
              loads Z moves f a.0 z.0 a.1 seen,
              (λ apart. (
                based f a.0 apart z.0 B.world a.1 (let m = goes B c in m.0) z.1,
                planned_over f x begun z.0 Z seen values (stands_for values Z.start.marks x f agrees.1.0) B.world
                    (done tops B Z part) planned apart,
              )),
              b.2 Z z.0 a.1,
            )

    along : (e k : ℕ) (outs : List Effect) (v : Parts) (d : Disk) (N : Seen) →
        Walks (OfEach tops D P) e k outs (Up (OfEach tops D P) k v) d N →
        Walks (LocksFrom (IsApt values x) ⊤ x R begun M from) e k outs (Up (LocksFrom (IsApt values x) ⊤ x R begun M from) k v) d N
        → Walks (AreRecordedBy C M) e k outs (Up (AreRecordedBy C M) k v) d N →
        ((f : Fixed) (a : AgreesApart values M.start.marks f x begun M.sent) →
        AreApart f.code → Walks (StaysBased f x begun (from f a) W) e k outs (Up (StaysBased f x begun (from f a) W) k v) d N) →
        Walks J e k outs (Up J k v) d N → Walks (OfEach tops D Q) e k outs (Up (OfEach tops D Q) k v) d N
    along e k outs v d N w locks recs bases moves =
        let L : Seen → Type 0 = LocksFrom (IsApt values x) ⊤ x R begun M from in
        let K3 : Seen → Type 0 = λ Z. AreRecordedBy C M Z × (StayBased Z × J Z) in
        let one = walks_both StayBased J e k outs (Up StayBased k v) (Up J k v) d N (based_along e k outs v d N bases) moves in
        let two = walks_both (AreRecordedBy C M) (λ Z. StayBased Z × J Z) e k outs (Up (AreRecordedBy C M) k v)
        (λ c Z. Up StayBased k v c Z × Up J k v c Z) d N recs one in
        let three = walks_both L K3 e k outs (Up L k v) (λ c Z. Up (AreRecordedBy C M) k v c Z × (Up StayBased k v c Z × Up J k v c Z)) d N
        locks two in
        let four = walks_both (OfEach tops D P) (λ Z. L Z × K3 Z) e k outs (Up (OfEach tops D P) k v)
        (λ c Z. Up L k v c Z × (Up (AreRecordedBy C M) k v c Z × (Up StayBased k v c Z × Up J k v c Z))) d N w three in
        walks_to (λ Z. OfEach tops D P Z × (L Z × K3 Z)) (OfEach tops D Q) e k outs (λ c Z. Up (OfEach tops D P) k v c Z
        × (Up L k v c Z × (Up (AreRecordedBy C M) k v c Z × (Up StayBased k v c Z × Up J k v c Z)))) (Up (OfEach tops D Q) k v) d N
        (λ Z h B c both. let p = h.0 B c both in (p, locks_next Z h.1.0 h.1.1.0 h.1.1.1.0 h.1.1.1.1 B c both p)) (λ c Z h B changed both.
        let p = h.0 B changed both in (p, locks_next (up k c v Z) h.1.0 h.1.1.0 h.1.1.1.0 h.1.1.1.1 B changed both p)) four

  -- what is known before, in each state of the lock machine
  abbrev known_before : (C : Uid → Type 0) (W : World) (M : Seen) (j : HasLocks values x R Past W M) → K W M →
      ((f : Fixed) (a : AgreesApart values M.start.marks f x j.0 M.sent) → (u : Uid) → C u → IsPlannedSo f x (let g = j.3 f a in g.0) W u) →
      (f : Fixed) (a : AgreesApart values M.start.marks f x j.0 M.sent) → ArePlannedSo f x (let g = j.3 f a in g.0) W M × ((u : Uid) → C u →
      IsPlannedSo f x (let g = j.3 f a in g.0) W u) × ((N : Seen) (T : State) → Run (let g = j.3 f a in g.0) T → Past f T N)
  known_before C W M j r waiting f a = let g = j.3 f a in (g.4, waiting f a, (λ N T run. stays W M N r f g.0 T run g.7))

  waits_here : (tops : Kinds) (k : ℕ) (d : Disk) (t : Parts) (M : Seen) (A : Office) → KnowsNode tops k d t M → SeesBoth x tops A
      (up k d t M) → P tops A (up k d t M) → KnowsRun (up k d t M) → (j : HasLocks values x R Past A.world (up k d t M)) → (f : Fixed)
      (a : AgreesApart values M.start.marks f x j.0 M.sent) → (u : Uid) → IsConfirming t.coord u →
      IsPlannedSo f x (let g = j.3 f a in g.0) A.world u
  waits_here tops k d t M A n both part known j f a u c = let g = j.3 f a in planned_here f x k d t M j.0 g.0 tops A n both (heard tops A
      (up k d t M) part) (record { good = j.1.0; alike = j.1.1; written = j.1.2; agrees = a.0; sees = g.1; tied = g.2 }) g.3 g.6 known u c

  -- as the object is seen here
  seen_here : (W : World) (M : Seen) (j : HasLocks values x R Past W M) (f : Fixed) (a : AgreesApart values M.start.marks f x j.0 M.sent) →
      IsSeenIn (case_of f x j.0 (let g = j.3 f a in g.0)) M
  seen_here W M j f a = let g = j.3 f a in record { good = j.1.0; alike = j.1.1; written = j.1.2; agrees = a.0; sees = g.1; tied = g.2 }

  reached_here : (W : World) (M : Seen) (j : HasLocks values x R Past W M) (f : Fixed)
      (a : AgreesApart values M.start.marks f x j.0 M.sent) →
      IsReached (let g = j.3 f a in g.0)
  reached_here W M j f a = let g = j.3 f a in let z = g.1 in (f.first, z.run)

  -- what stores gave, where nothing is sent
  still_loads : (W : World) (M : Seen) (j : HasLocks values x R Past W M) (Z : Seen) → IsStill M Z →
      (f : Fixed) (a : AgreesApart values M.start.marks f x
      j.0 M.sent) (T : State) → Run (let g = j.3 f a in g.0) T → IsSeenIn (case_of f x j.0 T) Z → AreLoadsLast f x T Z
  still_loads W M j Z still f a T run seen = let g = j.3 f a in loads_stay f x g.0 T M Z (reached_here W M j f a) run g.5 still.0 still.1

  -- and behind what a node does
  moved_loads : (tops : Kinds) (k : ℕ) (d : Disk) (t : Parts) (M : Seen) (A : Office) (part : P tops A (up k d t M))
      (j : HasLocks values x R Past A.world (up k d t M)) (more : List Action) (v : Parts) (outs : List Effect)
      → ((f : Fixed) (a : AgreesApart values M.start.marks f x j.0 M.sent) → IsOnward t.coord outs v.coord) →
      ((f : Fixed) (a : AgreesApart values M.start.marks f x j.0 M.sent) → GivesNow f x (let g = j.3 f a in g.0) k outs (up k d t M))
      → (Z : Seen) → IsMoved M k outs v Z → (f : Fixed) (a : AgreesApart values M.start.marks f x j.0 M.sent) (T : State) →
      Run (let g = j.3 f a in g.0) T → IsSeenIn (case_of f x more T) Z → AreLoadsLast f x T Z
  moved_loads tops k d t M A part j more v outs on given_now Z moved f a T run seen =
      let g = j.3 f a in
      let w = whole j.0 (up k d t M) j.2 in
      let h = heard tops A (up k d t M) part in
      loads_moved f x j.0 more g.0 T k d t M v outs (reached_here A.world (up k d t M) j f a) run g.5 (on f a) (let q = w.requests in
      q.1 k (record { number = k; disk = d; live = Some t }) t (node_here M k (record { number = k; disk = d; live = Some t })) refl)
      h.asked (given_now f a) Z moved seen

  -- a store gives it as it answers
  gives_now : (tops : Kinds) (k : ℕ) (d : Disk) (t : Parts) (M : Seen) (A : Office) → tops.walk ≡ None → K A.world (up k d t M) →
      SeesBoth x tops A (up k d t M) → P tops A (up k d t M) → (j : HasLocks values x R Past A.world (up k d t M)) →
      (from : ℕ) (m : Message) (v : Parts) (outs : List Effect) → HasCome (record { node = k; disk = d; parts = t; seen = M }) from m v outs
      → (f : Fixed) (a : AgreesApart values M.start.marks f x j.0 M.sent) → GivesNow f x (let g = j.3 f a in g.0) k outs (up k d t M)
  gives_now tops k d t M A walk r both part j from m v outs come f a p b st q by out is w =
      let g = j.3 f a in
      let N : Seen = up k d t M in
      let seen = seen_here A.world N j f a in
      let known = whole j.0 N j.2 in
      guard_there (case_of f x j.0 g.0) N seen b p.to p.from q st w (let z = known.works in let e = z.1 in
      let c = (e.nodes p.to w.node w.parts w.here w.live).0 in c.waits)
      (stored tops A (record { node = k; disk = d; parts = t; seen = M }) walk r both part j f a from m v outs come p.to p.message b st q
      out is (subst (λ (s : ℕ). AwaitsLoad x N b p.to s q) by w))

  abbrev none : Uid → Type 0
  none u = ⊥

  moves_by : (o : Change) (A B : Office) → machine.Whole A.world → Changes o A B → Moves (ends_of o) A.world B.world
  moves_by o A B whole c = ((goes_by o A B whole c).1, ends_by o A B whole c, decides_by o A B c)

  moves_from : (o : Change) (A B : Office) → OnlyAnswers A B → machine.Whole A.world → (Z : Office) → Changes o B Z →
      Moves (ends_of o) A.world Z.world
  moves_from o A B only whole Z c =
      (let same = only.world in subst (λ W. Moves (ends_of o) W Z.world) same (moves_by o B Z (subst machine.Whole (sym same) whole) c))

  abbrev nobody : ℕ → Bool
  nobody t = false

  no_one : (C : Uid → Type 0) (M : Seen) (u : Uid) → false ≡ true → IsRecordedAt M u ⊎ C u
  no_one C M u is = absurd (never is refl)

  -- of a node's requests and votes
  requests_here : (k : ℕ) (d : Disk) (t : Parts) (M : Seen) (begun : List Action) → R begun (up k d t M) → KnowsRequests M.sent k t.coord
  requests_here k d t M begun r = let w = whole begun (up k d t M) r in let q = w.requests in
      q.1 k (record { number = k; disk = d; live = Some t }) t (node_here M k (record { number = k; disk = d; live = Some t })) refl

  -- a message comes
  message_bases : (tops : Kinds) (k : ℕ) (d : Disk) (t : Parts) (M : Seen) (A : Office) → tops.walk ≡ None → K A.world (up k d t M) →
      SeesBoth x tops A (up k d t M) → P tops A (up k d t M) → (j : HasLocks values x R Past A.world (up k d t M)) → (e from : ℕ)
      (m : Message) (v : Parts) (outs : List Effect) → HasCome (record { node = k; disk = d; parts = t; seen = M }) from m v outs
      → (f : Fixed) (a : AgreesApart values M.start.marks f x j.0 M.sent) → AreApart f.code → let S = (j.3 f a).0 in
      Walks (StaysBased f x j.0 S A.world) e k outs (Up (StaysBased f x j.0 S A.world) k v) d M
  message_bases tops k d t M A walk r both part j e from m v outs come f a apart =
      let g = j.3 f a in
      let N : Seen = up k d t M in
      let s : Spot = record { node = k; disk = d; parts = t; seen = M } in
      let seen = seen_here A.world N j f a in
      let b = g.6 apart in
      message_based_here f x k j.0 g.0 A.world d t M seen b.0 tops A refl both apart b.1 (requests_here k d t M j.0 j.2) (used N (to A.world
      N r) k (record { number = k; disk = d; live = Some t }) t (node_here M k (record { number = k; disk = d; live = Some t })) refl)
      e from m v outs come (λ mine. (let l = gives M.start.marks f a.1 in
      l.parts j.0 g.0 s from m v outs ((to A.world N r, j.2), paired tops N A walk both part j f a) seen come mine).0)

  pub locks_part : KeepsPart hd x K Q
  locks_part = record {
    quiet = λ tops e bs M A walk quiet r both (part, j) B changed seen.
        let p = parts.quiet tops e bs M A walk quiet (r, j) both part B changed seen in (
          p,
          locks_next tops (Changes Quietly A) none nobody A.world M j.0 (λ f a. let g = j.3 f a in
              g.0) (λ Z c. moves_by Quietly A Z (let z = both.disks in z.whole) c) (no_one none M)
              (known_before none A.world M j r (λ f a u never. absurd never)) (IsStill M) (still_loads A.world M j) (said e bs M)
              (quiet_kept hd (IsApt values x) x G R Y keeps gives ⊤ votes_used e bs M quiet (to A.world M r) (locks_of A.world M j))
              (λ u c. inl (record { place = c.place; node = c.node; intent = c.intent; here = c.here; there = c.there }))
              (λ f a apart T V run later sees. let g = j.3 f a in quiet_based f x g.0 A.world (let z = g.1 in
              z.run) M (said e bs M) refl refl (g.6 apart).0 T V run later) ((λ i n t is up. is), (λ p i. i)) B changed seen p,
        );
    stop = λ tops e k d live M A walk r both (part, j) B changed seen.
        let p = parts.stop tops e k d live M A walk (r, j) both part B changed seen in (
          p,
          locks_next tops (Changes Quietly A) none nobody A.world (at k d live M) j.0 (λ f a. let g = j.3 f a in g.0) (λ Z c.
              moves_by Quietly A Z (let z = both.disks in z.whole) c) (no_one none (at k d live M)) (known_before none A.world (at k d live
              M) j r (λ f a u never. absurd never)) (IsStill (at k d live M)) (still_loads A.world (at k d live M) j) (halted e k d M)
              (stop_kept hd (IsApt values x) x G R Y keeps gives ⊤ votes_used e k d live M (to A.world (at k d live M) r)
              (locks_of A.world (at k d live M) j) (paired tops (at k d live M) A walk both part j)) (recorded_at none (at k d live M) k
              d None M (halted e k d M) (λ i. refl) (others_then none k d live M) (here_then none k d live M))
              (λ f a apart. let g = j.3 f a in stops_keep f x k j.0 g.0 A.world d live M (let z = g.1 in z.run) (g.6 apart).0 e)
              (halted_still e k d live M) B changed seen p,
        );
    message = λ tops e k d t v from m outs M A walk n r sent meant is of own both (part, j).
        let p = parts.message tops e k d t v from m outs M A walk n (r, j) sent meant is of own both part in
        let h = p.0 in
        let o = change_by x d t m in
        let C : Uid → Type 0 = λ u. IsConfirming t.coord u in (
          record {
            office = h.office;
            only = h.only;
            both = h.both;
            along = along tops (Changes o h.office) C (ends_of o) A.world (up k d t M) j.0 (λ f a. let g = j.3 f a in g.0)
                (moves_from o A h.office h.only (let z = both.disks in z.whole)) (λ u is. inr (message_ends x d t u m is)) (known_before C
                A.world (up k d t M) j r (waits_here tops k d t M A n both part (runs (up k d t M) (to A.world (up k d t M) r)) j)) (IsMoved
                M k outs v) (moved_loads tops k d t M A part j j.0 v outs (λ f a. (message_onward (case_of f x j.0 (let g = j.3 f a in g.0))
                (record { node = k; disk = d; parts = t; seen = M }) (seen_here A.world (up k d t M) j f a) from m v outs is)) (gives_now
                tops k d t M A walk r both part j from m v outs (record { sent = sent; meant = meant; takes = is }))) e k outs v d M h.along
                (kept_message hd (IsApt values x) x G R Y keeps gives ⊤ votes_used e k d t v from m outs M (to A.world (up k d t M) r)
                (locks_of A.world (up k d t M) j) (paired tops (up k d t M) A walk both part j) sent meant is)
                (records_walk C (up k d t M) k anyone e v outs d M (others_then C k d (Some t) M)
                (message_puts anyone k d t (are_theirs tops k d t M n) from m v outs is (λ u same. tt)) (here_then C k d (Some t) M))
                (message_bases tops k d t M A walk r both part j e from m v outs (record { sent = sent; meant = meant; takes = is }))
                (moves_walk e k outs v d M M (λ i. refl) (λ p i. i));
          },
          p.1,
          p.2,
        );
    act = λ tops e k d t i M A walk n r is free both (part, j).
        let did = acts i d.intents t.coord in
        let p = parts.act tops e k d t i M A walk n (r, j) is free both part in
        let h = p.0 in
        let C : Uid → Type 0 = λ u. IsConfirming t.coord u in (
          record {
            office = h.office;
            only = h.only;
            both = h.both;
            along = along tops (Changes Quietly h.office) C nobody A.world (up k d t M) j.0 (λ f a. let g = j.3 f a in
                g.0) (moves_from Quietly A h.office h.only (let z = both.disks in z.whole)) (no_one C (up k d t M)) (known_before C A.world
                (up k d t M) j r (waits_here tops k d t M A n both part (runs (up k d t M) (to A.world (up k d t M) r)) j))
                (IsMoved M k did.outs (with_coord t did.part)) (moved_loads tops k d t M A part j j.0 (with_coord t did.part) did.outs
                (λ f a. inr (act_onward (case_of f x j.0 (let g = j.3 f a in g.0)) (record { node = k; disk = d; parts = t; seen = M })
                (seen_here A.world (up k d t M) j f a) hd i is free)) (λ f a. none_given f x (let g = j.3 f a in g.0) k did.outs
                (up k d t M) (act_onward (case_of f x j.0 (let g = j.3 f a in g.0)) (record { node = k; disk = d; parts = t; seen = M })
                (seen_here A.world (up k d t M) j f a) hd i is free).2)) e k did.outs (with_coord t did.part) d M h.along
                (kept_act hd (IsApt values x) x G R Y keeps gives ⊤ votes_used e k d t i M is free (to A.world (up k d t M) r)
                (locks_of A.world (up k d t M) j) (paired tops (up k d t M) A walk both part j))
                (records_walk C (up k d t M) k anyone e (with_coord t did.part) did.outs d M (others_then C k d (Some t) M) (acts_put anyone
                t.coord (are_theirs tops k d t M n) d.intents i) (here_then C k d (Some t) M)) (λ f a apart. let g = j.3 f a in
                act_based f x k j.0 g.0 A.world d t M (seen_here A.world (up k d t M) j f a) (g.6 apart).0 e i (act_onward (case_of f x
                j.0 g.0) (record { node = k; disk = d; parts = t; seen = M }) (seen_here A.world (up k d t M) j f a) hd i is free).2)
                (moves_walk e k did.outs (with_coord t did.part) d M M (λ i. refl) (λ p i. i));
          },
          p.1,
        );
    begin = λ tops e k d t l how parent M A walk n r new may free kind both (part, j).
        let did = begin_action l how parent (parent_of parent t.coord) t.coord in
        let N : Seen = given l (record { node = k; serial = is_serial how }) M in
        let a = begins_in how parent t in
        let older : (f : Fixed) → AgreesApart values M.start.marks f x (a ∷ j.0) M.sent →
        AgreesApart values M.start.marks f x j.0 M.sent = λ f w.
        as_older (IsApt values x M.start.marks) f x a j.0 M.sent w in
        along tops (Changes Quietly A) none nobody A.world (up k d t M) (a ∷ j.0) (λ f w. let g = j.3 f (older f w) in
        g.0) (λ B c. moves_by Quietly A B (let z = both.disks in z.whole) c) (no_one none (up k d t M)) (λ f w. known_before none
        A.world (up k d t M) j r (λ f b u never. absurd never) f (older f w)) (IsMoved M k did.outs (with_coord t did.part))
        (λ Z moved f w. moved_loads tops k d t M A part j (a ∷ j.0) (with_coord t did.part) did.outs
        (λ f a. inr (begin_onward (case_of f x j.0 (let g = j.3 f a in g.0)) (record { node = k; disk = d; parts = t; seen = M })
        (seen_here A.world (up k d t M) j f a) l how parent)) (λ f a. none_given f x (let g = j.3 f a in g.0) k did.outs (up k d t M)
        (begin_onward (case_of f x j.0 (let g = j.3 f a in g.0)) (record { node = k; disk = d; parts = t; seen = M })
        (seen_here A.world (up k d t M) j f a) l how parent).2) Z moved f (older f w)) e k did.outs (with_coord t did.part) d N
        (parts.begin tops e k d t l how parent M A walk n (r, j) new may free kind both part)
        (kept_begin hd (IsApt values x) x G R Y keeps gives ⊤ votes_used e k d t l how parent M new may free (to A.world (up k d t M) r)
        (locks_of A.world (up k d t M) j) (paired tops (up k d t M) A walk both part j))
        (records_walk none (up k d t M) k anyone e (with_coord t did.part) did.outs d N (others_then none k d (Some t) M) (tt, tt)
        (here_then none k d (Some t) M)) (λ f w apart. let g = j.3 f (older f w) in begin_based f x k j.0 g.0 A.world d t M
        (seen_here A.world (up k d t M) j f (older f w)) (g.6 apart).0 (a ∷ j.0) e l how parent (begin_onward (case_of f x j.0 g.0)
        (record { node = k; disk = d; parts = t; seen = M }) (seen_here A.world (up k d t M) j f (older f w)) l how parent).2)
        (moves_walk e k did.outs (with_coord t did.part) d M N (λ i. refl) (λ p i. i));
    tick = λ tops e k d t M A walk n r both (part, j).
        let outs = tick_outs (record { number = k; disk = d; live = Some t }) t in
        let v = with_coord t (let z = again_all t.coord.doings t.coord in z.part) in
        let C : Uid → Type 0 = λ u. IsConfirming t.coord u in
        along tops (Changes Quietly A) C nobody A.world (up k d t M) j.0 (λ f a. let g = j.3 f a in
        g.0) (λ B c. moves_by Quietly A B (let z = both.disks in z.whole) c) (no_one C (up k d t M)) (known_before C A.world
        (up k d t M) j r (waits_here tops k d t M A n both part (runs (up k d t M) (to A.world (up k d t M) r)) j)) (IsMoved M k outs v)
        (moved_loads tops k d t M A part j j.0 v outs (λ f a. inr (tick_onward (case_of f x j.0 (let g = j.3 f a in g.0))
        (record { node = k; disk = d; parts = t; seen = M }) (seen_here A.world (up k d t M) j f a)))
        (λ f a. none_given f x (let g = j.3 f a in g.0) k outs (up k d t M) (tick_onward (case_of f x j.0 (let g = j.3 f a in g.0))
        (record { node = k; disk = d; parts = t; seen = M }) (seen_here A.world (up k d t M) j f a)).2)) e k outs v d M
        (parts.tick tops e k d t M A walk n (r, j) both part) (kept_tick hd (IsApt values x) x G R Y keeps gives ⊤ votes_used e k d t M
        (to A.world (up k d t M) r) (locks_of A.world (up k d t M) j) (paired tops (up k d t M) A walk both part j))
        (records_walk C (up k d t M) k anyone e v outs d M (others_then C k d (Some t) M) (tick_puts anyone k d t (are_theirs tops k d t M
        n)) (here_then C k d (Some t) M)) (λ f a apart. let g = j.3 f a in tick_based f x k j.0 g.0 A.world d t M (seen_here A.world
        (up k d t M) j f a) (g.6 apart).0 e (tick_onward (case_of f x j.0 g.0) (record { node = k; disk = d; parts = t; seen = M })
        (seen_here A.world (up k d t M) j f a)).2) (moves_walk e k outs v d M M (λ i. refl) (λ p i. i));
    restart = λ tops e k d M A walk r both (part, j).
        let outs = restart_outs hd k (d.inc + 1) d in
        let v = parts_in k (d.inc + 1) d in
        along tops (OnlyFound (are_recorded d.intents) A) none (are_recorded d.intents) A.world (down k d M) j.0
        (λ f a. let g = j.3 f a in g.0)
        (λ B c. (
          (goes_along (are_recorded d.intents) A.world B.world (let z = both.disks in z.whole) c.along).1,
          ends_along (are_recorded d.intents) A.world B.world (let z = both.disks in z.whole) c.along,
          decides_along (are_recorded d.intents) A.world B.world c.along,
        ))
        (λ u is. let r = record_of u d.intents is in inl (record {
          place = k;
          node = record { number = k; disk = d; live = None };
          intent = r.0;
          here = node_here M k (record { number = k; disk = d; live = None });
          there = r.1;
        })) (known_before none A.world (down k d M) j r (λ f a u never. absurd never)) (IsMoved M k outs v)
        (λ Z moved f a T run seen. loads_restarted hd f x (let g = j.3 f a in
        g.0) T k d M (reached_here A.world (down k d M) j f a) run (let g = j.3 f a in g.5) Z moved) e k outs v d M
        (parts.restart tops e k d M A walk (r, j) both part) (kept_restart hd (IsApt values x) x G R Y keeps gives ⊤ votes_used e k d M
        (to A.world (down k d M) r) (locks_of A.world (down k d M) j) (paired tops (down k d M) A walk both part j))
        (records_walk none (down k d M) k anyone e v outs d M (others_then none k d None M)
        (plainly none anyone outs (restart_plain [] hd k d)) (here_then none k d None M)) (λ f a apart. let g = j.3 f a in restart_based
        hd f x k j.0 g.0 A.world d M (let z = g.1 in z.run) (g.6 apart).0 e) (moves_walk e k outs v d M M (λ i. refl) (λ p i. i));
    first = λ tops walk kinds st formed.
        let f = parts.first tops walk kinds st formed in
        let z = first_kept hd (IsApt values x) x G R Y keeps gives ⊤ votes_used st formed in
        let N : Seen = see [] (world_from hd st) in (
          f.0,
          f.1,
          (
            f.2,
            (
              z.0,
              z.1,
              z.2,
              (λ w agrees.
                  let g = z.3 w agrees in
                  let planned = nothing_yet st w g.0 f.0 f.3 f.4 in
                  let seen : IsSeenIn (case_of w x z.0 g.0) N =
                  record { good = z.1.0; alike = z.1.1; written = z.1.2; agrees = agrees.0; sees = g.1; tied = g.2 } in (
                    g.0,
                    g.1,
                    g.2,
                    g.3 tt,
                    planned,
                    (λ p a st q there. absurd there),
                    (λ apart. (
                      first_based hd st w x g.0 f.0.world,
                      planned_over w x z.0 g.0 N seen values (stands_for values st.marks x w agrees.1.0) f.0.world
                          (done tops f.0 N f.2) planned apart,
                    )),
                    starts w g.0 st formed,
                  )),
              z.4,
            ),
          ),
          f.3,
          f.4,
        );
  }
    where
      nothing_yet : (st : Start) (f : Fixed) (S : State) (A : Office) → (let W = A.world in let D = W.disk in D.tops) ≡ [] →
          ((t : ℕ) → A.world.disk.bare t ≡ false) → ArePlannedSo f x S A.world (see [] (world_from hd st))
      nothing_yet st f S A empty none_bare = record {
        decisions = λ u d. absurd (never d (ap (λ ds. decided_in ds (uid_number u)) empty));
        records = λ u r. absurd (no_record u r);
        bares = λ u on. absurd (never on (none_bare (uid_number u)));
      }
        where
          no_record : (u : Uid) → IsRecordedAt (see [] (world_from hd st)) u → ⊥
          no_record u r = subst (λ (n : Node). list.In {X = Uid × Intent} (u, r.intent) (let c = n.disk in c.intents))
              (sym (first_at hd st r.place r.node r.here)) r.there
