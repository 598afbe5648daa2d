-- Each handler keeps that decisions are said, and so they are in each world that is reached.
use Rattle.arj_law_parts.proofs.Words
use Words.{world_from, ◌≡◌, ◌⊎◌, ◌==◌, ℕ, ◌+◌, List, [], true, Option, Some, None, is_some, refl, sym, ◌∙◌, ap, subst, inl, inr, ⊎_elim}
use Words.{◌++◌, ◌∷◌}
use Words.{Contains, in_to, In as Among, in_from, Body, Header, Kind, Label, Uid, Line, again_all, begin_action, Disk, Effect, Intent}
use Words.{tick_outs, Parts, with_coord, at_uid, uid_number, Node, acts, parent_of, parts_in, restart_outs, World}
use Words.{numbered, Seen, see, is_serial}
use Words.body
use Rattle.arj_law_disk_view.proofs.Terms
use Terms.{in_at, Office, decided, decided_in as is_among, never, some_is, Holds, Keeps, at, down, given, said, up, AreQuiet, Up, Walks}
use Terms.{halted, walks_both, walks_to, nodes_of, IsLater, Kinds, SeesDisks, OnlyFound, SeesBoth, Answering, Change, Changes, Deciding}
use Terms.{Quietly, change_by, IsReached, KnowsFew, Going, HasHeard, KeepsPart, are_recorded, going_of, kinds_of, KnowsScript, kept_both}
use Terms.{keeps_given, HaveEntries, book, is_decided, is_top, new_book, IsKept, IsWritten, KnowsUp, decided_later, Later, book_more}
use Terms.{IsTied, IsDoneBy, WithTie, Act, acts as acts_of, IsIdle, AreRight, has_act, is_sound}
use Terms.machine
use Rattle.arj_law_disk_view.proofs.deciding_lines
use deciding_lines.{Doing.branch_done, Doing.done_later, Doing.none_open, Doing.record_done, IdleKnown.KnowsIdle, IdleKnown.knows_idle}
use deciding_lines.{Owners.decided_begun, Owners.whose_it_is, Unlate.IsCarriedSo, Unlate.unlate_each}
use deciding_lines.Steps.{IsNear, IsStep, near_same, step_halted, step_walk, nothing_more}
use Rattle.arj_law_disk_view.proofs.running
use running.{Begun.kinds_agree, BothEach.with_entries, Given.gives_votes, Grows.later_lines, Kept.IsKeptInRun, Kept.all_keep}
use running.{ListedRuns.IsSeenBegun, RecordWalks.restart_plain, Scripts.reached_script}
use running.Decisions.{Goes, Turns, goes_along}
use Rattle.arj_law_disk_view.proofs.view.Frames.{node_here}
use Rattle.arj_law_disk_view.specs.deciding_lines.Said.{AreSaid, IsJournalled, IsKnownEarly, IsLate, AreDone, WasBefore}
use Rattle.arj_law_parts.proofs.parts.Keys.{at_in}
use Rattle.arj_law_runs.proofs.calls.Given.{while_given}
use Rattle.arj_law_runs.proofs.journal
use journal.{Books.quiet_book, Models.decided_in, Models.among, Nothing.idle_has_nothing, Turns.IsOld, Turns.IsOldOr, Turns.late_walk}
use journal.Runs.{lines_keep, act_turns, message_turns, rest_goes, tick_turns}
use Rattle.arj_law_runs.specs.journal.{Idle.HasNothing, Knows.AreLate, Knows.HasBranch, Laws.AreDistinct, Laws.IsDone, Laws.IsSound}

-- ---- decisions are said after a step

-- whose record is on a disk
by_record : (u : Uid) (n : Node) (N : Seen) → IsWritten N → N.nodes u.node ≡ Some n → (i : Intent) →
    Contains (let d = n.disk in d.intents) (u, i) → (is_decided (book N.lines) u ≡ true) ⊎ IsLate u n
by_record u n N written here i there = by n.live refl
  where
    by : (o : Option Parts) → n.live ≡ o → (is_decided (book N.lines) u ≡ true) ⊎ IsLate u n
    by None down = inr (record { down = down; intent = i; there = there })
    by (Some t) up = inl (let k = written.nodes u.node n here in
        let l : KnowsUp (book N.lines) (let d = n.disk in d.intents) t.coord = k.live t up in l.found u i there)

-- ---- from one state of the machine to another

-- by the changes of a step
pub goes_by : (o : Change) (A B : Office) → machine.Whole A.world → Changes o A B → Goes A.world B.world
goes_by Quietly A B whole c = (λ u d. inl (ap (λ ds. is_among ds u) (sym c.tops) ∙ d), c.later)
goes_by (Answering t r) A B whole c = (λ u d. inl (ap (λ ds. is_among ds u) (sym (let o = c.0 in o.tops)) ∙ d), (let o = c.0 in o.later))
goes_by (Deciding t keeps) A B whole c = goes_along (λ z. z == t) A.world B.world whole c.along

module _ (R : Seen → Type 0) (Idle : List Line → Uid → Type 0) (idles : KnowsIdle R Idle) (x : ℕ) (tops : Kinds) (W : machine.World)
    (M : Seen) (before : AreSaid W M) (was : AreDone Idle W M) where
  said_now : (V : machine.World) (N : Seen) → SeesDisks x tops V N → Turns W V → IsWritten N → IsStep M N → AreSaid V N
  said_now V N now turns written step u n here d = by (turns (uid_number u) d)
    where
      recorded : is_some (V.disk.intent (uid_number u)) ≡ true → (is_decided (book N.lines) u ≡ true) ⊎ IsLate u n
      recorded some = at_disk (at_uid u (let c = n.disk in c.intents)) refl
        where
          at_disk : (o : Option Intent) → at_uid u (let c = n.disk in c.intents) ≡ o → (is_decided (book N.lines) u ≡ true) ⊎ IsLate u n
          at_disk None none = let r = now.records u.node n here in absurd (never some (ap is_some (r.is u refl ∙ ap nodes_of none)))
          at_disk (Some i) is =
              by_record u n N written here i (in_to (u, i) (let c = n.disk in c.intents) (at_in u i (let c = n.disk in c.intents) is))

      by : (decided W.disk (uid_number u) ≡ true) ⊎ (is_some (V.disk.intent (uid_number u)) ≡ true) →
          (is_decided (book N.lines) u ≡ true) ⊎ IsLate u n
      by (inl old) = let had = step.nodes u.node n here in
          ⊎_elim (λ (is : is_decided (book M.lines) u ≡ true). inl (decided_later (book M.lines) (book N.lines)
          (subst (λ ls. Later (book M.lines) (book ls)) (sym step.lines) (later_lines M.lines step.more)) u is))
          (λ (late : IsLate u had.0). by_record u n N written here late.intent
          (subst (λ is. Contains is (u, late.intent)) (sym (had.2 late.down)) late.there)) (before u had.0 had.1 old)
      by (inr new) = recorded new

  -- who was decided by the journal
  old_done : (V : machine.World) (N : Seen) → IsLater W V → R N → IsKept N → IsStep M N → (u : Uid) → is_decided (book M.lines) u ≡ true →
      IsDoneBy Idle V N.lines u
  old_done V N later r known step u is = done_later R Idle W V N M.lines step.more u idles r known step.lines is later (was u is)

  -- where nobody is newly decided by the journal
  pub tied_still : (V : machine.World) (N : Seen) → SeesDisks x tops V N → Goes W V → R N → IsKept N → IsStep M N →
      IsOld (book M.lines) (book N.lines) → IsTied Idle V N
  tied_still V N now goes r known step old = (said_now V N now goes.0 known.1 step, λ u is. old_done V N goes.1 r known step u (old u is))

  -- along a step, whatever comes of the machine
  pub tied_walk : (C : Office → Type 0) → ((B : Office) → C B → Goes W B.world) →
      (Q : Uid → Type 0) (e k : ℕ) (outs : List Effect) (v : Parts) (d : Disk) (N : Seen)
      → ((V : machine.World) (c : Disk) (Z : Seen) → SeesDisks x tops V (up k c v Z) → R (up k c v Z) → IsKept (up k c v Z) →
      IsStep M (up k c v Z) → (u : Uid) → Q u → is_decided (book Z.lines) u ≡ true → IsDoneBy Idle V Z.lines u)
      → Walks (λ Z. R Z × IsKept Z) e k outs (Up (λ Z. R Z × IsKept Z) k v) d N → Walks (IsStep M) e k outs (Up (IsStep M) k v) d N
      → Walks (λ Z. IsOld (book M.lines) (book Z.lines)) e k outs (λ c Z. IsOldOr Q (book M.lines) (book Z.lines)) d N
      → Walks (λ Z. (B : Office) → C B → SeesBoth x tops B Z →
      IsTied Idle B.world Z) e k outs (Up (λ Z. (B : Office) → C B → SeesBoth x tops B Z → IsTied Idle B.world Z) k v) d N
  tied_walk C goes Q e k outs v d N fresh kept steps turns =
      let two = walks_both (IsStep M) (λ Z. IsOld (book M.lines) (book Z.lines)) e k outs (Up (IsStep M) k v)
      (λ c Z. IsOldOr Q (book M.lines) (book Z.lines)) d N steps turns in
      let three = walks_both (λ Z. R Z × IsKept Z) (λ Z. IsStep M Z × IsOld (book M.lines) (book Z.lines)) e k outs
      (Up (λ Y. R Y × IsKept Y) k v) (λ c Z. Up (IsStep M) k v c Z × IsOldOr Q (book M.lines) (book Z.lines)) d N kept two in
      walks_to (λ Z. (R Z × IsKept Z) × (IsStep M Z × IsOld (book M.lines) (book Z.lines))) (λ Z. (B : Office) → C B → SeesBoth x tops B Z →
      IsTied Idle B.world Z) e k outs
      (λ c Z. Up (λ Y. R Y × IsKept Y) k v c Z × (Up (IsStep M) k v c Z × IsOldOr Q (book M.lines) (book Z.lines)))
      (Up (λ Z. (B : Office) → C B → SeesBoth x tops B Z → IsTied Idle B.world Z) k v) d N
      (λ Z h B c seen. tied_still B.world Z seen.disks (goes B c) h.0.0 h.0.1 h.1.0 h.1.1)
      (λ c Z h B changed seen. at_end c Z h.0 h.1.0 h.1.1 B (goes B changed) seen.disks) three
    where
      at_end : (c : Disk) (Z : Seen) → R (up k c v Z) × IsKept (up k c v Z) → IsStep M (up k c v Z) → IsOldOr Q (book M.lines)
          (book Z.lines) → (B : Office) → Goes W B.world → SeesDisks x tops B.world (up k c v Z) → IsTied Idle B.world (up k c v Z)
      at_end c Z kept step turned B goes now = (
        said_now B.world (up k c v Z) now goes.0 (let w = kept.1 in w.1) step,
        λ u is. ⊎_elim (λ old. old_done B.world (up k c v Z) goes.1 kept.0 kept.1 step u old)
            (λ new. fresh B.world c Z now kept.0 kept.1 step u new is) (turned u is),
      )

-- nothing is decided
tied_first : (Idle : List Line → Uid → Type 0) (W : machine.World) (M : Seen) → (let S = W.disk in S.tops) ≡ [] → M.lines ≡ [] →
    IsTied Idle W M
tied_first Idle W M none empty = (
  (λ u n here d. absurd (never d (ap (λ ds. is_among ds (uid_number u)) none))),
  λ u is. absurd (never is (ap (λ ls. is_decided (book ls) u) empty)),
)

-- ---- each handler

-- a node that is up was not down
pub was_up : {A : Type 0} (t : Parts) → Some t ≡ None → A
was_up t is = absurd (cc is)

module _ (hd : Header) (x : ℕ) (R : Seen → Type 0) (G : machine.World → Seen → Type 0) (P : Kinds → Office → Seen → Type 0)
    (Idle : List Line → Uid → Type 0) (kept : Keeps hd R) (parts : KeepsPart hd x (λ W M. R M × G W M) P) (idles : KnowsIdle R Idle) where
  abbrev pub Both : Seen → Type 0
  Both M = R M × IsKept M

  lines_too : Keeps hd IsKept
  lines_too = lines_keep hd

  pub both_too : Keeps hd Both
  both_too = kept_both hd R IsKept kept (keeps_given hd R IsKept lines_too)

  -- who is decided at the end of a step has a branch there
  fresh : (tops : Kinds) (M : Seen) (k : ℕ) (v : Parts) (V : machine.World) (c : Disk) (Z : Seen) → SeesDisks x tops V (up k c v Z) →
      R (up k c v Z) → IsKept (up k c v Z) → IsStep M (up k c v Z) → (u : Uid) → HasBranch v.coord u → is_decided (book Z.lines) u ≡ true →
      IsDoneBy Idle V Z.lines u
  fresh tops M k v V c Z now r known step u has_it done = branch_done x tops R Idle idles k c v Z V now r known u has_it.0 has_it.1 done

  -- and after a restart a record
  found : (tops : Kinds) (M : Seen) (k : ℕ) (d : Disk) (V : machine.World) (c : Disk) (Z : Seen) → SeesDisks x tops V
      (up k c (parts_in k (d.inc + 1) d) Z) → R (up k c (parts_in k (d.inc + 1) d) Z) → IsKept (up k c (parts_in k (d.inc + 1) d) Z)
      → IsStep (down k d M) (up k c (parts_in k (d.inc + 1) d) Z) → (u : Uid) → (i : Intent) × Among (u, i) d.intents →
      is_decided (book Z.lines) u ≡ true → IsDoneBy Idle V Z.lines u
  found tops M k d V c Z now r known step u there done =
      let v = parts_in k (d.inc + 1) d in
      let n : Node = record { number = k; disk = c; live = Some v } in
      let here = node_here Z k n in
      let had = step.nodes k n here in
      let down_now = node_here M k (record { number = k; disk = d; live = None }) in
      let same : record { number = k; disk = d; live = None } ≡ had.0 = some_is down_now had.1 in
      let kept_is : c.intents ≡ d.intents = had.2 (ap (λ (m : Node). m.live) (sym same))
      ∙ ap (λ (m : Node). let q = m.disk in q.intents) (sym same) in
      let records = now.records k n here in
      record_done x tops R Idle idles k c v Z V now u there.0 (in_at (u, there.0) c.intents records.sorted
      (subst (λ is. Among (u, there.0) is) (sym kept_is) there.1)) (none_open k (d.inc + 1) d.intents u)

  no_lines : (e k : ℕ) (M : Seen) → IsOld (book M.lines) (book (M.lines ++ numbered e (body.Halted k ∷ [])))
  no_lines e k M = subst (IsOld (book M.lines)) (sym (book_more new_book M.lines (numbered e (body.Halted k ∷ [])))) (λ u on. on)

  quiet_lines : (e : ℕ) (bs : List Body) (M : Seen) → AreQuiet bs → IsOld (book M.lines) (book (M.lines ++ numbered e bs))
  quiet_lines e bs M quiet =
      subst (IsOld (book M.lines)) (sym (book_more new_book M.lines (numbered e bs) ∙ quiet_book (book M.lines) e bs quiet)) (λ u on. on)

  -- the lines of a step
  turns : (Q : Uid → Type 0) (e k : ℕ) (outs : List Effect) (d : Disk) (M N : Seen) → N.lines ≡ M.lines → AreLate Q (book M.lines) outs →
      Walks (λ Z. IsOld (book M.lines) (book Z.lines)) e k outs (λ c Z. IsOldOr Q (book M.lines) (book Z.lines)) d N
  turns Q e k outs d M N same late =
      late_walk Q (book M.lines) e k outs d N (book M.lines) (ap book same) late (inl (λ u on. on)) (λ u on. inl on)

  abbrev Tied_from : Kinds → (Office → Type 0) → Seen → Type 0
  Tied_from tops C Z = (B : Office) → C B → SeesBoth x tops B Z → IsTied Idle B.world Z

  -- both along one step
  both_along : (tops : Kinds) (C : Office → Type 0) (e k : ℕ) (outs : List Effect) (v : Parts) (d : Disk) (N : Seen) → Walks (λ Z. (B :
      Office) → C B → SeesBoth x tops B Z → P tops B Z) e k outs (Up (λ Z. (B : Office) → C B → SeesBoth x tops B Z → P tops B Z) k v) d N
      → Walks (λ Z. (B : Office) → C B → SeesBoth x tops B Z →
      IsTied Idle B.world Z) e k outs (Up (λ Z. (B : Office) → C B → SeesBoth x tops B Z → IsTied Idle B.world Z) k v) d N
      → Walks (λ Z. (B : Office) → C B → SeesBoth x tops B Z →
      WithTie P Idle tops B Z) e k outs (Up (λ Z. (B : Office) → C B → SeesBoth x tops B Z → WithTie P Idle tops B Z) k v) d N
  both_along tops C e k outs v d N a b = walks_to (λ Z. ((B : Office) → C B → SeesBoth x tops B Z → P tops B Z) × Tied_from tops C Z)
      (λ Z. (B : Office) → C B → SeesBoth x tops B Z → WithTie P Idle tops B Z) e k outs
      (λ c Z. ((B : Office) → C B → SeesBoth x tops B (up k c v Z) → P tops B (up k c v Z)) × Tied_from tops C (up k c v Z))
      (Up (λ Z. (B : Office) → C B → SeesBoth x tops B Z → WithTie P Idle tops B Z) k v) d N
      (λ Z h B c s. (h.0 B c s, h.1 B c s)) (λ c Z h B changed s. (h.0 B changed s, h.1 B changed s))
      (walks_both (λ Z. (B : Office) → C B → SeesBoth x tops B Z → P tops B Z) (Tied_from tops C) e k outs
      (Up (λ Z. (B : Office) → C B → SeesBoth x tops B Z → P tops B Z) k v) (Up (Tied_from tops C) k v) d N a b)

  -- where answers were taken first
  abbrev heard_too : (tops : Kinds) (o : Change) (A : Office) (g : Going) (M : Seen) → IsTied Idle A.world (up g.node g.disk g.before M) →
      (h : HasHeard P x tops o A (g, M))
      → ((B : Office) → B.world ≡ A.world → Walks (Tied_from tops (Changes o B)) g.event g.node g.outs
      (Up (Tied_from tops (Changes o B)) g.node g.after) g.disk M) → HasHeard (WithTie P Idle) x tops o A (g, M)
  heard_too tops o A g M tie h walk = record {
    office = h.office;
    only = h.only;
    both = h.both;
    along = both_along tops (Changes o h.office) g.event g.node g.outs g.after g.disk M h.along (walk h.office (let z = h.only in z.world));
  }

  goes_from : (o : Change) (A C : Office) → C.world ≡ A.world → machine.Whole A.world → (B : Office) → Changes o C B → Goes A.world B.world
  goes_from o A C same whole B c = subst (λ W. Goes W B.world) same (goes_by o C B (subst machine.Whole (sym same) whole) c)

  pub tied_part : KeepsPart hd x (λ W M. Both M × G W M) (WithTie P Idle)
  tied_part = record {
    quiet = λ tops e bs M A walk quiet r both (part, tie) B changed seen. let w = lines_too.quiet e bs M quiet r.0.1 in (
      parts.quiet tops e bs M A walk quiet (r.0.0, r.1) both part B changed seen,
      tied_still R Idle idles x tops A.world M tie.0 tie.1 B.world (said e bs M) seen.disks (goes_by Quietly A B (let c = both.disks in
          c.whole) changed) (kept.quiet e bs M quiet r.0.0) w (quiet_step e bs M) (quiet_lines e bs M quiet),
    );
    stop = λ tops e k d live M A walk r both (part, tie) B changed seen. let w = lines_too.stop e k d live M r.0.1 in (
      parts.stop tops e k d live M A walk (r.0.0, r.1) both part B changed seen,
      tied_still R Idle idles x tops A.world (at k d live M) tie.0 tie.1 B.world (halted e k d M) seen.disks
          (goes_by Quietly A B (let c = both.disks in c.whole) changed) (kept.stop e k d live M r.0.0) w
          (step_halted k d live M e d M (near_same M) (λ down. refl)) (no_lines e k M),
    );
    message = λ tops e k d t v from m outs M A walk n r sent meant is of own both (part, tie).
        let p = parts.message tops e k d t v from m outs M A walk n (r.0.0, r.1) sent meant is of own both part in
        let g = message_turns e k d t M r.0.1.0 r.0.1.1 v from m outs sent is in (
          heard_too tops (change_by x d t m) A (record { event = e; node = k; disk = d; before = t; outs = outs; after = v }) M tie p.0
              (λ C same. tied_walk R Idle idles x tops A.world (up k d t M) tie.0 tie.1 (Changes (change_by x d t m) C)
              (goes_from (change_by x d t m) A C same (let c = both.disks in c.whole)) (HasBranch v.coord) e k outs v d M
              (fresh tops (up k d t M) k v)
              (both_too.message e k d t v from m outs M r.0 sent meant is) (step_walk k d (Some t) M e v outs d M (near_same M) (was_up t)
              (was_up t)) (turns (HasBranch v.coord) e k outs d M M refl g.late)),
          p.1,
          p.2,
        );
    act = λ tops e k d t i M A walk n r is free both (part, tie).
        let did = acts i d.intents t.coord in
        let p = parts.act tops e k d t i M A walk n (r.0.0, r.1) is free both part in
        let g = act_turns e k d t M r.0.1.0 r.0.1.1 hd i is free in (
          heard_too tops Quietly A (going_of e k d t did) M tie p.0
              (λ C same. tied_walk R Idle idles x tops A.world (up k d t M) tie.0 tie.1 (Changes Quietly C)
              (goes_from Quietly A C same (let c = both.disks in c.whole)) (HasBranch did.part) e k did.outs (with_coord t did.part) d M
              (fresh tops (up k d t M) k (with_coord t did.part))
              (both_too.act e k d t i M is free r.0) (step_walk k d (Some t) M e (with_coord t did.part) did.outs d M (near_same M)
              (was_up t) (was_up t)) (turns (HasBranch did.part) e k did.outs d M M refl g.late)),
          p.1,
        );
    begin = λ tops e k d t l how parent M A walk n r new may free kind both (part, tie).
        let did = begin_action l how parent (parent_of parent t.coord) t.coord in
        let N : Seen = given l (record { node = k; serial = is_serial how }) M in
        both_along tops (Changes Quietly A) e k did.outs (with_coord t did.part) d N
        (parts.begin tops e k d t l how parent M A walk n (r.0.0, r.1) new may free kind both part)
        (tied_walk R Idle idles x tops A.world (up k d t M) tie.0 tie.1 (Changes Quietly A) (λ B c. goes_by Quietly A B (let z = both.disks
        in z.whole) c) (HasBranch did.part) e k did.outs (with_coord t did.part) d N (fresh tops (up k d t M) k (with_coord t did.part))
        (both_too.begin e k d t l how parent M new may free r.0)
        (step_walk k d (Some t) M e (with_coord t did.part) did.outs d N (given_near l how k M) (was_up t) (was_up t))
        (turns (HasBranch did.part) e k did.outs d M N refl ((λ u is. absurd (cc is)), tt)));
    tick = λ tops e k d t M A walk n r both (part, tie).
        let outs = tick_outs (record { number = k; disk = d; live = Some t }) t in
        let v = with_coord t (again_all t.coord.doings t.coord).part in
        let g = tick_turns e k d t M r.0.1.0 r.0.1.1 in
        both_along tops (Changes Quietly A) e k outs v d M (parts.tick tops e k d t M A walk n (r.0.0, r.1) both part)
        (tied_walk R Idle idles x tops A.world (up k d t M) tie.0 tie.1 (Changes Quietly A)
        (λ B c. goes_by Quietly A B (let z = both.disks in z.whole) c) (HasBranch v.coord) e k outs v d M (fresh tops (up k d t M) k v)
        (both_too.tick e k d t M r.0) (step_walk k d (Some t) M e v outs d M (near_same M) (was_up t) (was_up t))
        (turns (HasBranch v.coord) e k outs d M M refl g.late));
    restart = λ tops e k d M A walk r both (part, tie).
        let outs = restart_outs hd k (d.inc + 1) d in
        let v = parts_in k (d.inc + 1) d in
        let g = rest_goes hd e k d M r.0.1.0 r.0.1.1 in
        both_along tops (OnlyFound (are_recorded d.intents) A) e k outs v d M (parts.restart tops e k d M A walk (r.0.0, r.1) both part)
        (tied_walk R Idle idles x tops A.world (down k d M) tie.0 tie.1 (OnlyFound (are_recorded d.intents) A)
        (λ B c. goes_along (are_recorded d.intents) A.world B.world (let z = both.disks in z.whole) c.along)
        (λ u. (i : Intent) × Among (u, i) d.intents) e k outs v d M (found tops M k d)
        (both_too.restart e k d M r.0) (step_walk k d None M e v outs d M (near_same M) (λ down. restart_plain [] hd k d) (λ down. refl))
        (turns (λ u. (i : Intent) × Among (u, i) d.intents) e k outs d M M refl g.late));
    first = λ tops walk kinds st formed. let f = parts.first tops walk kinds st formed in
        (f.0, f.1, (f.2, tied_first Idle f.0.world (see [] (world_from hd st)) f.3 refl), f.3, f.4);
  }
    where
      quiet_step : (e : ℕ) (bs : List Body) (M : Seen) → IsStep M (said e bs M)
      quiet_step e bs M = record { more = numbered e bs; lines = refl; nodes = λ j n is. (n, is, λ down. refl) }

      given_near : (l : Label) (how : Kind) (k : ℕ) (M : Seen) → IsNear M (given l (record { node = k; serial = is_serial how }) M)
      given_near l how k M = record { more = []; lines = nothing_more M.lines; nodes = λ j. refl }

-- ---- in a world that is reached

-- actions of a journal are told apart by their Uids
pub one_act : (xs : List Act) → AreDistinct xs → (a b : Act) → Among a xs → Among b xs → a.uid ≡ b.uid → a ≡ b
one_act [] apart a b in_a in_b same = absurd in_a
one_act (x ∷ xs) apart a b (inl i) (inl j) same = sym i ∙ j
one_act (x ∷ xs) apart a b (inl i) (inr j) same =
    absurd (never (among xs b j) (ap (has_act xs) (sym same ∙ ap (λ (y : Act). y.uid) (sym i)) ∙ apart.2))
one_act (x ∷ xs) apart a b (inr i) (inl j) same =
    absurd (never (among xs a i) (ap (has_act xs) (same ∙ ap (λ (y : Act). y.uid) (sym j)) ∙ apart.2))
one_act (x ∷ xs) apart a b (inr i) (inr j) same = one_act xs apart.3 a b i j same

-- Beside a relation that is kept, which holds of the same state of the machine, where few bindings were made; with what is known of that
-- state.
abbrev pub IsJournalledBeside : (Seen → Type 0) → (Kinds → Office → Seen → Type 0) → ℕ → Seen → Type 0
IsJournalledBeside R P x M =
    (j : IsJournalled x M) × (A : Office) × (A.world ≡ j.machine) × P j.tops A M × KnowsFew M × IsSeenBegun x j.tops A M × R M

pub journalled_beside : (hd : Header) (x : ℕ) (Fits : List Line → Type 0) → WasBefore Fits →
    (R : Seen → Type 0) (P : Kinds → Office → Seen → Type 0) → Keeps hd R → KeepsPart hd x (λ W M. R M × IsKnownEarly Fits W M) P →
    (w : World) → IsReached hd w → Fits w.lines → Holds hd (IsJournalledBeside R P x) w
journalled_beside hd x Fits before R P kept parts w reached fits =
    let Idle : List Line → Uid → Type 0 = λ ls u. IsIdle (book ls) u in
    let idles = knows_idle R in
    let G : Seen → Type 0 = λ M. KnowsScript M × Fits M.lines in
    let B : Seen → Type 0 = Both hd x R (IsKnownEarly Fits) P Idle kept parts idles in
    let Known : Seen → Type 0 = λ M. B M × HaveEntries x M in
    let tied = tied_part hd x R (IsKnownEarly Fits) P Idle kept parts idles in
    let Q : Kinds → Seen → Type 0 = IsCarriedSo hd x B G P Idle tied in
    let known = with_entries hd x B (λ W M. B M × IsKnownEarly Fits W M) (WithTie P Idle) tied
    (both_too hd x R (IsKnownEarly Fits) P Idle kept parts idles) in
    let all = all_keep hd x Known G Q known (λ us k d t M q. gives_votes Known us k d t M (q.0, q.1.0))
    (unlate_each hd x B G P Idle tied) in
    let r = reached_script hd (λ M. Fits M.lines →
    IsKeptInRun Known Q M) (while_given Fits before (IsKeptInRun Known Q) hd KnowsScript all) w reached in
    let h = r.holds.1 fits in
    let g = h.1 in
    let s = g.5 (kinds_of h.0) (kinds_agree h.0 g.0.begun g.1) in
    let lines = w.lines in
    let right = (let z = g.4.0.1.1 in z.right) in
    record {
      sent = r.sent;
      stands = r.stands;
      holds = (
        record {
          tops = kinds_of h.0;
          machine = s.0.world;
          sees = s.1.disks;
          said = λ u n here d. decided_in lines right u (⊎_elim (λ is. is) (λ late. s.3 u n here late.down d) (s.2.1.0 u n here d));
          whose =
              λ t d. whose_it_is h.0 lines t (s.1.disks.kinds t (decided_begun s.0.world s.1.disks.whole t d)).0 (let p = g.3 in p.lines);
          done = λ a there top is. its_own lines right a there is (is_sound lines right) top s.0.world
              (s.2.1.1 a.uid (sym (let b = (is_sound lines right).reads in b.decided a there) ∙ is));
        },
        s.0,
        refl {a = s.0.world},
        s.2.0,
        r.holds.0,
        record {
          begun = h.0;
          agree = kinds_agree h.0 g.0.begun g.1;
          good = g.0;
          recorded = g.2;
          placed = g.3;
          both = s.1;
          numbers = (let z = r.stands in z.numbers);
        },
        g.4.0.0,
      );
    }
  where
    its_own : (lines : List Line) → AreRight new_book lines → (a : Act) → Contains (acts_of lines) a → IsDone lines a → IsSound lines →
        is_top a.kind ≡ true → (W : machine.World) → IsDoneBy (λ ls u. IsIdle (book ls) u) W lines a.uid →
        (decided W.disk (uid_number a.uid) ≡ true) ⊎ (W.disk.bare (uid_number a.uid) ≡ true) ⊎ HasNothing lines a
    its_own lines right a there is sound top W (inl d) = inl d
    its_own lines right a there is sound top W (inr (inl b)) = inr (inl b)
    its_own lines right a there is sound top W (inr (inr (inl i))) = inr (inr (idle_has_nothing lines right a there is i))
    its_own lines right a there is sound top W (inr (inr (inr (p, its, uid, plain)))) =
        let b = sound.reads in
        let same = one_act (acts_of lines) sound.distinct p a
        (subst (λ xs. Among p xs) b.begun (in_from p (let B = book lines in B.acts) its)) (in_from a (acts_of lines) there) uid in
        absurd (never (ap (λ (y : Act). is_top y.kind) same ∙ top) plain)
