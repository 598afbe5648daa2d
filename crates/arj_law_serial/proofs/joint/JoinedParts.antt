-- What is carried of both machines beside each other through a run, and of the lock machine's state more that stays as it goes on.
use Rattle.arj_law_parts.proofs.Words
use Words.{◌≡◌, ◌==◌, ℕ, true, List, is_some, refl, ap, Option, Some, None, eqb-true, Seen, Header, ObjectLine, in_find}
use Words.{in_to}
use Rattle.arj_law_serial.proofs.Terms
use Terms.{IsAtStarts, Marks}
use Terms.{IsKnownJoined, SeesRecorded, IsPaired, NodesAreThere, keeps_given, kept_both, lines_keep, Keeps, KeepsPart, KnowsFew, KnowsWhole}
use Terms.{Packed, World, Action, first_values, object_line, HasObject, part_more, knows_idle, tied_part, IsKept, AreGoodCounted}
use Terms.{KnowsScript}
use Terms.{HeaderFits, Run, State, Fixed, GivesLocks, Kinds, Office, IsKnownEarly, HaveEntries, with_entries, world_at, AreSo, kind_of}
use Terms.{OpsFit, IsApt}
use Rattle.arj_law_disk_view.proofs.running
use running.{HeardKept.heard_kept, ListedKept.WithLists, ListedKept.listed_part}
use running.Bindings.{good_counted, names_own, records_free_in}
use Rattle.arj_law_disk_view.specs.running.Rest.{SeesCarried}
use Rattle.arj_law_runs.proofs.calls.WorldRuns.{votes_in}
use Rattle.arj_law_serial.proofs.joint
use joint.{Firsts.line_there, FormRuns.kept_forms, Given.AreBeside, GivenLast.last_there_is_last, LastWriters.Idle, LoadAnswers.last_there}
use joint.{NodesThere.nodes_keep, OrderedRuns.turns_of, Ordering.ordered_part, Owns.own_part, Recorded.recorded_part, RestGiven.rest_beside}
use joint.Beginning.{WithFirst, first_begins, first_part}
use joint.Starting.{stands_for}
use joint.Joining.{HasLocks, WithLocks, locks_part, StoresGive}
use joint.NextGiven.{IsFirstBy, IsTiedInOrder, KnowsPair, gives_next}
use Rattle.arj_law_serial.proofs.whole.{Gives.gives_locks, Of.of_more, Whole.whole_of, WholeRuns.kept_beside}
use Rattle.arj_law_serial.specs.joint.Joined.{IsCountedJoined, SeesInOrder, SeesTied}

pub header_has : (hd : Header) (x : ℕ) → is_some (object_line hd x) ≡ true → HasObject hd x
header_has hd x there = by (object_line hd x) refl there
  where
    by : (o : Option ObjectLine) → object_line hd x ≡ o → is_some o ≡ true → HasObject hd x
    by None is some = absurd (cc some)
    by (Some o) is some = let f = in_find (λ (p : ObjectLine). p.x == x) o hd.objects is in (o, in_to o hd.objects f.0, eqb-true o.x x f.1)

-- ---- what is carried

-- beneath the lock machine's states also: the disk machine began as the header says, and naming's answers claim what passes
abbrev pub Carried : Header → ℕ → Kinds → Office → Seen → Type 0
Carried hd x tops A M = WithLists x (WithFirst hd x (SeesInOrder x)) tops A M

-- so much is kept by all that nodes do
abbrev pub Base : Header → ℕ → Seen → Type 0
Base hd x M = (IsCountedJoined M × AreSo (kind_of hd x) M) × HaveEntries x M

-- and known where a handler begins: operations are in form, and no decided top is late
abbrev pub Early : Header → ℕ → World → Seen → Type 0
Early hd x W M = Base hd x M × IsKnownEarly (OpsFit x) W M

-- what is known of the protocol alone
abbrev pub Whole : ℕ → List Action → Seen → Type 0
Whole x begun M = KnowsWhole x begun M × KnowsWhole x begun M

-- with whom the disk machine decided, recorded
abbrev recorded_of : (hd : Header) (x : ℕ) (tops : Kinds) (A : Office) (M : Seen) → Carried hd x tops A M → SeesRecorded x tops A M
recorded_of hd x tops A M p = p.0.0.0

-- so a store gives the last committed state to who waits for it
gives_last : (hd : Header) (x : ℕ) → HeaderFits hd → is_some (object_line hd x) ≡ true → (L : Seen → Type 0) (Past : Fixed → State →
    Seen → Type 0) → StoresGive (first_values hd) x (λ W M. Early hd x W M × L M) (Whole x) Past (Carried hd x)
gives_last hd x form there L Past tops A s walk r both part j f agrees from m v outs come to z a st k out is w current =
    last_there_is_last hd f x j.0 (j.3 f agrees).0 (world_at s) form there beside st
    (last_there hd f x j.0 (j.3 f agrees).0 s beside part.1 from m v outs come to z a st k out is w current)
  where
    beside : AreBeside hd f x j.0 (j.3 f agrees).0 (world_at s)
    beside =
        let g = j.3 f agrees in
        let e = r.0 in
        let b = e.0.0 in
        record {
          tops = tops;
          office = A;
          both = both;
          carried = recorded_of hd x tops A (world_at s) part;
          early = e.1.1;
          begins = part.0.1;
          turns = turns_of Idle (λ ls u i. i) (let N = s.seen in N.lines) (let w = b.0.0.1.1 in w.right) (let W = A.world in
              let D = W.disk in D.tops) (let o = part.0.0.1 in o.turns);
          seen = record { good = j.1.0; alike = j.1.1; written = j.1.2; agrees = agrees.0; sees = g.1; tied = g.2 };
          agrees = agrees;
          voted = g.3;
          planned = g.4;
          whole = j.2.0;
          known = (b.0.0, e.1.0.0);
          forms = b.1;
          apart = agrees.1.1;
          fit = e.1.0.1;
          housed = (let n = b.0.1 in n.labels);
        }

module _ (hd : Header) (x : ℕ) (form : HeaderFits hd) (there : is_some (object_line hd x) ≡ true) where
  has : HasObject hd x
  has = header_has hd x there

  counted_kept : Keeps hd IsCountedJoined
  counted_kept = kept_both hd (λ M. AreGoodCounted M × IsKept M) NodesAreThere
      (kept_both hd AreGoodCounted IsKept (good_counted hd) (keeps_given hd AreGoodCounted IsKept (lines_keep hd)))
      (keeps_given hd (λ M. AreGoodCounted M × IsKept M) NodesAreThere (nodes_keep hd))

  lines_kept : Keeps hd (λ M. IsCountedJoined M × IsKept M)
  lines_kept = kept_both hd IsCountedJoined IsKept counted_kept (keeps_given hd IsCountedJoined IsKept (lines_keep hd))

  -- where this holds before each handler, so much more is carried of the lock machine's state
  module _ (L : Seen → Type 0) (Past : Fixed → State → Seen → Type 0) (stays : (M N : Seen) → L M → (f : Fixed) (S T : State) → Run S T →
      Past f S M → Past f T N) (starts : (f : Fixed) (S : State) → IsAtStarts hd (Past f S)) where
    -- what the lock half has beside
    abbrev Locks : World → Seen → Type 0
    Locks W M = HasLocks (first_values hd) x (Whole x) Past W M

    -- of the disk half it is known how it is tied to the journal, and by whom its first state is
    abbrev Told : World → Seen → Type 0
    Told W M = IsTiedInOrder W M × IsFirstBy x W M

    -- the disk half, beside states of the lock half, and with its own tie to the journal
    heard_there : KeepsPart hd x (λ W M. IsCountedJoined M × (KnowsScript M × (Locks W M × Told W M))) (SeesCarried x)
    heard_there = part_more hd x (KnowsPair (first_values hd) x)
        (λ W M. IsCountedJoined M × (KnowsScript M × (Locks W M × Told W M))) (SeesCarried x) (λ W M q. let j = q.1.1.0 in
        ((q.0, q.1.0), ((j.0, j.1, j.2.0, (λ f a. let z = j.3 f a in (z.0, z.1, z.2, z.3, z.4, z.6))), q.1.1.1)))
        (heard_kept hd x (KnowsPair (first_values hd) x) (λ W M r. ((let g = r.0.0.0.0 in g.0.0.0), (let s = r.0.1 in s.0)))
        (λ W M r. let g = r.0.0.0.0 in let s = r.0.1 in (names_own M g s.0, g.0.0.1, records_free_in M g s.0, r.0.0.0.1, s.1))
        (line_there hd x form there).0 (gives_next (first_values hd) x))

    -- and tied to the journal
    tied : KeepsPart hd x (λ W M. (IsCountedJoined M × IsKept M) × (KnowsScript M × (Locks W M × Told W M))) (SeesTied x)
    tied = tied_part hd x IsCountedJoined (λ W M. KnowsScript M × (Locks W M × Told W M)) (SeesCarried x) Idle counted_kept
        heard_there (knows_idle IsCountedJoined)

    -- and what is decided was recorded
    recorded : KeepsPart hd x (λ W M. (IsCountedJoined M × IsKept M) × (KnowsScript M × (Locks W M × Told W M))) (SeesRecorded x)
    recorded = recorded_part hd x (λ W M. (IsCountedJoined M × IsKept M) × (KnowsScript M × (Locks W M × Told W M))) (SeesTied x)
        (λ W M q. let r = q.1.1.0 in let k = r.2.0 in let a = k.acks in let w = a.world in w.asked) tied

    -- and decisions are in order, and it began as the header says; so what the disk half counts on of its own is there
    in_order : KeepsPart hd x (λ W M. IsKnownJoined M × Locks W M) (WithFirst hd x (SeesInOrder x))
    in_order = own_part hd x (λ W M. IsKnownJoined M × Locks W M) Told (WithFirst hd x (SeesInOrder x))
        (λ tops A M p. ((p.0.0.0.1, p.0.1), let b = p.1 in ap (λ (g : Packed). g.writer) b.state))
        (first_part hd x (λ W M. (IsKnownJoined M × Locks W M) × Told W M) (SeesInOrder x)
        (part_more hd x (λ W M. (IsCountedJoined M × IsKept M) × (KnowsScript M × (Locks W M × Told W M))) (λ W M. (IsKnownJoined M
        × Locks W M) × Told W M) (SeesInOrder x) (λ W M q. let r = q.0.0 in ((r.0, r.0.0.1), (r.1, (q.0.1, q.1))))
        (ordered_part hd x (λ M. IsCountedJoined M × IsKept M) (λ W M. KnowsScript M × (Locks W M × Told W M)) (SeesRecorded x)
        Idle lines_kept (λ M r. r.1) (knows_idle (λ M. IsCountedJoined M × IsKept M)) recorded (λ tops A M p. p.0.1.1)))
        (first_begins hd x form there))

    pub base : Keeps hd (Base hd x)
    base = with_entries hd x (λ M. IsCountedJoined M × AreSo (kind_of hd x) M) (λ W M. IsKnownJoined M × Locks W M) (WithFirst hd x
        (SeesInOrder x))
        in_order (kept_both hd IsCountedJoined (AreSo (kind_of hd x)) counted_kept
        (keeps_given hd IsCountedJoined (AreSo (kind_of hd x)) (kept_forms hd x form)))

    -- and what naming's answers claim of lists passes
    listed : KeepsPart hd x (λ W M. (Early hd x W M × L M) × Locks W M) (Carried hd x)
    listed = listed_part hd x (λ W M. IsKnownJoined M × Locks W M) (λ W M. (Early hd x W M × L M) × Locks W M) (λ W M q. let r = q.0.0 in
        let e = r.1 in ((r.0.0.0, e.0.0), q.1)) (λ W M q. let r = q.0.0 in let e = r.1 in ((r.0.0.0.0.0, r.0.1), e.0.0.0)) (WithFirst hd x
        (SeesInOrder x)) in_order

    abbrev Here : Fixed → List Action → State → Seen → Type 0
    Here f begun S M = (KnowsFew M × Whole x begun M) × IsPaired x (Carried hd x) f begun S M

    gives : (marks : Marks) (f : Fixed) → IsApt (first_values hd) x marks f → GivesLocks hd f x (Here f)
    gives marks f apt =
        let begins = stands_for (first_values hd) marks x f apt.0 in
        gives_locks hd x has (KnowsWhole x) f (λ begun S M. IsPaired x (Carried hd x) f begun S M) (first_values hd, begins)
        (rest_beside (first_values hd) x (KnowsWhole x) (Carried hd x) (recorded_of hd x) f begins)

    -- beneath the lock machine's states
    pub locked : KeepsPart hd x (λ W M. Early hd x W M × L M) (WithLocks (first_values hd) x (Whole x) Past (Carried hd x))
    locked = locks_part hd (first_values hd) x (λ W M. Early hd x W M × L M) KnowsFew (Whole x) Past (Carried hd x)
        (λ W M r. let e = r.0.1 in e.0.0.0)
        (kept_beside hd x has (KnowsWhole x) (of_more hd (λ begun M. KnowsFew M) (λ begun M. KnowsFew M × KnowsWhole x begun M)
        (KnowsWhole x) (λ begun M h. h.0) (whole_of hd x has))) gives (gives_last hd x form there L Past) (λ b M r. r.0)
        (λ M few. votes_in M few.1.1) (λ M few. few.1.1) listed (λ tops A M p. p.0.0.0.0.0.0) (λ tops A M p. p.0.0.0.0.1.1)
        (λ W M N r f S T run past. stays M N r.1 f S T run past) starts
