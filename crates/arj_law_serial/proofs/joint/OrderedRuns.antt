-- The order in which an object's machine decides tops, in each world that is reached.
use Rattle.arj_law_parts.proofs.Words
use Words.{◌≡◌, ◌⊎◌, ℕ, List, [], ◌∷◌, true, ◌∙◌, ap, subst, inl, inr, is_some, not, sym, ◌&&◌, ◌||◌, Bool, false, filter, None, Some}
use Words.{Contains, In, in_from, in_to, Header, Line, Uid, first_uid, World, Seen, Post, see, uid_number, number_tells}
use Rattle.arj_law_serial.proofs.Terms
use Terms.{HeaderFits, Act, acts as acts_of, path, uids, increasing, is_among, joins_of, leaves_of, object_line, Office, Done, Plan}
use Terms.{decided, decided_in, target, never, or_right, in_decided, Keeps, Kinds, KeepsPart, book, is_decided, is_top, new_book, IsIdle}
use Terms.{HasNothing, IsKept, IsSound, AreRight, idle_has_nothing, kept_right, is_sound, IsDoneBy, IsKnownEarly, IsPlain, WithTie}
use Terms.{KnowsIdle, tied_part, BeginsSo, AreCalled, AreOnce, AreDim, AreSpared, AreStill, AreTurns, AreTurnsOf, IsCalledFirst, IsOrdered}
use Terms.{IsOrderedSo, world_of, AreRising, IncludesAreSaid, IsSpared, MarksAreAsked, MarksAreSaid, was_marked, AreMarkedSo, IsMarkedSo}
use Terms.{its_acts, named_in, KeepsGiven, given_more, keeps_given, kept_both, KnowsParted, kept_of, parted_keep, IncludersKnow, IsSplit}
use Terms.{IsReached, KnowsFew, kept_nodes}
use Terms.Effects as machine
use Terms.words as disk_list
use Rattle.arj_law_disk_view.proofs.deciding_lines.Tying.{both_too, journalled_beside, one_act}
use Rattle.arj_law_disk_view.proofs.running.ListedRuns.{IsSeenBegun}
use Rattle.arj_law_disk_view.specs.deciding_lines.Said.{WasBefore}
use Rattle.arj_law_parts.specs.moves.Keeps.{Holds}
use Rattle.arj_law_runs.proofs.calls.Given.{both_given}
use Rattle.arj_law_runs.specs.journal.Whose.{HaveNodes}
use Rattle.arj_law_serial.proofs.joint
use joint.{JoinLists.filtered_same, JoinLists.has_is, JoinModel.joined, KnowKeeps.WithKnown, KnowKeeps.known_part, KnowStep.AllKnow}
use joint.{Leaving.left, Listing.in_among, MarkAsks.asks_given, MarkRuns.marks_given, MarkTies.WithMarks, MarkTies.marks_part}
use joint.{Ordering.ordered_part, Turns.IdleThere}
use joint.Beginning.{WithFirst, first_begins, first_part}
use joint.JoinRuns.{IsBased, based_keep, joins_given}
use joint.LightStates.{IsPassed, KeepLights}
use joint.Sparing.{ArePartedNow, IsIdleSo, knows_spared}
use Rattle.arj_law_serial.specs.joint.Lights.{LightsAreSplit}
use Rattle.arj_law_serial.specs.joint.Ordered.{AreCountedOf, AreIncludedOf, AreJoinedOf, AreLeftOf, AreRootedSo, AreUntouched}

abbrev Idle : List Line → Uid → Type 0
Idle ls u = IsIdleSo ls u

-- in the words of the model
pub turns_of : (Its : List Line → Uid → Type 0) → ((ls : List Line) (u : Uid) → Its ls u → IsIdle (book ls) u) → (lines : List Line) →
    AreRight new_book lines → (ds : List Done) → AreTurns (IdleThere Its) lines ds → AreTurnsOf lines ds
turns_of Its idle_of lines right [] turns = tt
turns_of Its idle_of lines right (d ∷ ds) turns = (
  λ e a b i in_a in_b ea db top apart. by a b in_b top (turns.0 e i a.uid b.uid ea db apart),
  turns_of Its idle_of lines right ds turns.1,
)
  where
    by : (a b : Act) → Contains (acts_of lines) b → is_top b.kind ≡ true → IsCalledFirst lines a.uid b.uid ⊎ IdleThere Its lines b.uid
        ⊎ IsPlain lines b.uid → IsCalledFirst lines a.uid b.uid ⊎ HasNothing lines b
    by a b in_b top (inl first) = inl first
    by a b in_b top (inr (inl (on, idle))) = let reads = (let s : IsSound lines = is_sound lines right in s.reads) in
        inr (idle_has_nothing lines right b in_b (reads.decided b in_b ∙ on) (idle_of lines b.uid idle))
    by a b in_b top (inr (inr (p, its, uid, plain))) =
        let s : IsSound lines = is_sound lines right in
        let same = one_act (acts_of lines) s.distinct p b (subst (In p) (let r = s.reads in
        r.begun) (in_from p (let B = book lines in B.acts) its)) (in_from b (acts_of lines) in_b) uid in
        absurd (never (ap (λ (y : Act). is_top y.kind) same ∙ top) plain)

-- committed tops that the machine hasn't decided, in the words of the model
spared_of : (x : ℕ) (lines : List Line) → AreRight new_book lines → (W : machine.World) →
    ((u : Uid) → is_decided (book lines) u ≡ true → IsDoneBy Idle W lines u) → AreSpared lines x W.disk
spared_of x lines right W done a there top is = by (done a.uid (sym (let r = sound.reads in r.decided a there) ∙ is))
  where
    sound : IsSound lines
    sound = is_sound lines right

    its : (b : Act) → In b (acts_of lines) → b.uid ≡ a.uid → b ≡ a
    its b i uid = one_act (acts_of lines) sound.distinct b a i (in_from a (acts_of lines) there) uid

    leaves : (p : IsSpared lines a.uid) (s : ℕ) → is_among (leaves_of lines a.id x) s ≡ false
    leaves p s = sym (left lines right x a (in_from a (acts_of lines) there) s) ∙ ap (λ (y : Act). was_marked lines y.label x s) (sym
        (its p.act (subst (In p.act) (its_acts lines right) (named_in (book lines).acts (let b = p.act in b.label) p.act p.named)) p.uid))
        ∙ p.spared x s

    by : IsDoneBy Idle W lines a.uid → (decided W.disk (uid_number a.uid) ≡ true) ⊎ (W.disk.bare (uid_number a.uid) ≡ true)
        ⊎ (HasNothing lines a × ((s : ℕ) → is_among (leaves_of lines a.id x) s ≡ false))
    by (inl d) = inl d
    by (inr (inl bare)) = inr (inl bare)
    by (inr (inr (inl idle))) = inr (inr (idle_has_nothing lines right a there is idle.0, leaves idle.1))
    by (inr (inr (inr (p, began, uid, plain)))) = absurd (never (ap (λ (y : Act). is_top y.kind)
        (its p (subst (In p) (let r = sound.reads in r.begun) (in_from p (let B = book lines in B.acts) began)) uid) ∙ top) plain)

-- Beside a relation that holds of the same state of the machine, where few bindings were made; with what is known of that state.
abbrev pub IsOrderedBeside : (Seen → Type 0) → (Kinds → Office → Seen → Type 0) → Header → ℕ → Seen → Type 0
IsOrderedBeside R P hd x M = (o : IsOrderedSo hd x M) × (tops : Kinds) × (A : Office) × (A.world ≡ world_of o) × P tops A M × KnowsFew M
    × IsSeenBegun x tops A M × R M

-- what decided tops excluded and included, in the words of the model
module _ (hd : Header) (x : ℕ) (w : World) (nodes : HaveNodes w) (sent : List Post) (W : machine.World) (right : AreRight new_book w.lines)
    (whole : machine.Whole W) (marks : AreMarkedSo x W (see sent w)) where
  abbrev lines : List Line
  lines = w.lines

  -- an action whose marks are known, by the machine and by the journal
  module _ (a : Act) (there : Contains (acts_of lines) a) (m : IsMarkedSo x W (see sent w) a.uid) where
    its_act : m.act ≡ a
    its_act = one_act (acts_of lines) (let z : IsSound lines = is_sound lines right in z.distinct) m.act a (subst (In m.act) (its_acts lines
        right) (named_in (book lines).acts (let b = m.act in b.label) m.act m.named)) (in_from a (acts_of lines) there) m.uid

    leaves_so : (s : ℕ) →
        (target (W.disk.plan (uid_number a.uid)) s && not (W.disk.got (uid_number a.uid) s)) ≡ is_among (leaves_of lines a.id x) s
    leaves_so s =
        sym (m.marks s) ∙ ap (λ (y : Act). was_marked lines y.label x s) its_act ∙ left lines right x a (in_from a (acts_of lines) there) s

    joins_so : (s : ℕ) → is_among (let p = W.disk.plan (uid_number a.uid) in p.joins) s ≡ is_among (joins_of lines a.id x) s
    joins_so s = m.joins s ∙ joined lines right x a (in_from a (acts_of lines) there) s

  -- one of them
  module _ (d : Done) (a : Act) (i : disk_list.In d W.disk.tops) (there : Contains (acts_of lines) a)
      (number : uid_number a.uid ≡ d.top) where
    marked : IsMarkedSo x W (see sent w) a.uid
    marked = let node = nodes a there in
        marks.decisions a.uid node.node node.there (ap (decided_in W.disk.tops) number ∙ in_decided W.disk.tops d i)

    its_plan : d.plan ≡ W.disk.plan (uid_number a.uid)
    its_plan = (let c = whole.core in let j = c.journal in j.plan d i) ∙ ap W.disk.plan (sym number)

    its_got : d.got ≡ W.disk.got (uid_number a.uid)
    its_got = (let c = whole.core in let j = c.journal in j.got d i) ∙ ap W.disk.got (sym number)

    leaves_here : (s : ℕ) → (target d.plan s && not (d.got s)) ≡ is_among (leaves_of lines a.id x) s
    leaves_here s = (λ j. target (its_plan j) s && not (its_got j s)) ∙ leaves_so a there marked s

    same_joins : (s : ℕ) → is_among (let p = d.plan in p.joins) s ≡ is_among (joins_of lines a.id x) s
    same_joins s = ap (λ (p : Plan). is_among p.joins s) its_plan ∙ joins_so a there marked s

    got_so : (s : ℕ) → is_among (let p = d.plan in p.joins) s ≡ true → d.got s ≡ not (is_among (leaves_of lines a.id x) s)
    got_so s on = by (target d.plan s) (d.got s)
        (or_right _ (disk_list.has s (let p = d.plan in p.joins)) (has_is s (let p = d.plan in p.joins) ∙ on)) (leaves_here s)
      where
        by : (b c : Bool) → b ≡ true → (b && not c) ≡ is_among (leaves_of lines a.id x) s → c ≡ not (is_among (leaves_of lines a.id x) s)
        by true true on is = ap not is
        by true false on is = ap not is
        by false c on is = absurd (cc on)

    joins_here : filter d.got (let p = d.plan in p.joins)
        ≡ increasing (filter (λ s. not (is_among (leaves_of lines a.id x) s)) (joins_of lines a.id x))
    joins_here = filtered_same d.got (λ s. not (is_among (leaves_of lines a.id x) s)) (let p = d.plan in
        p.joins) (joins_of lines a.id x) (subst (λ (p : Plan). AreRising p.joins) (sym its_plan) marked.rising) same_joins got_so

    included_here : (s : ℕ) → disk_list.has s (let p = d.plan in p.joins) ≡ is_among (joins_of lines a.id x) s
    included_here s = has_is s (let p = d.plan in p.joins) ∙ same_joins s

    counted_here : d.counts ≡ true → (let p = d.plan in p.writes) ≡ None → (s : ℕ) × Contains (joins_of lines a.id x) s
    counted_here counts plain =
        let j = marks.joiners d i counts plain in (
          j.0,
          in_to j.0 (joins_of lines a.id x)
              (in_among (joins_of lines a.id x) j.0 (sym (same_joins j.0) ∙ sym (has_is j.0 (let p = d.plan in p.joins)) ∙ j.1)),
        )

  untouched_all : AreUntouched lines x W.disk.bare
  untouched_all a there on s =
      let m = marks.bares a.uid on in
      let none = (let c = whole.core in let b = c.bare in b.untouched (uid_number a.uid) on s) in (
        sym (leaves_so a there m s) ∙ ap (λ b. b && not (W.disk.got (uid_number a.uid) s)) none,
        sym (joins_so a there m s) ∙ sym (has_is s (let p = W.disk.plan (uid_number a.uid) in p.joins))
            ∙ by (is_some (let p = W.disk.plan (uid_number a.uid) in p.writes) && disk_list.has s (let p = W.disk.plan (uid_number a.uid) in
            p.list)) (disk_list.has s (let p = W.disk.plan (uid_number a.uid) in p.joins)) none,
      )
    where
      by : (b c : Bool) → (b || c) ≡ false → c ≡ false
      by true c off = absurd (cc off)
      by false c off = off

  roots_all : AreRootedSo lines W.disk.root W.disk.tops
  roots_all d a i there number =
      let its = marked d a i there number in
      ap W.disk.root (sym number) ∙ its.root ∙ ap (λ (us : List Act). uid_number (first_uid (uids (path us its.act.label))))
      (its_acts lines right) ∙ ap (λ (y : Act). uid_number (first_uid (uids (path (acts_of lines) y.label)))) (its_act a there its)

  leaves_all : AreLeftOf lines x W.disk.tops
  leaves_all d a i there number s = leaves_here d a i there number s

  joins_all : AreJoinedOf lines x W.disk.tops
  joins_all d a i there number = joins_here d a i there number

  included_all : AreIncludedOf lines x W.disk.tops
  included_all d a i there number s = included_here d a i there number s

  counted_all : AreCountedOf lines x W.disk.tops
  counted_all d a i there number counts plain = counted_here d a i there number counts plain

-- as nodes of actions are there, so it is in the words of the journal
all_know : (hd : Header) (w : World) → HaveNodes w → (sent : List Post) (ds : List Done) →
    ((e : Done) → disk_list.In e ds → (a : Act) × Contains (acts_of w.lines) a × (uid_number a.uid ≡ e.top)) → AllKnow (see sent w) ds
    → IncludersKnow w.lines ds
all_know hd w nodes sent [] whose know = tt
all_know hd w nodes sent (d ∷ ds) whose know = (
  λ e i t u dc ec wrote none te ud.
      let a = whose e (inr i) in
      let n = nodes a.0 a.1 in
      know.0 e i t u n.node (subst (λ (y : Uid). (see sent w).nodes y.node ≡ Some n.node)
      (number_tells (let b = a.0 in b.uid) t (a.2 ∙ sym te)) n.there) dc ec wrote none te ud,
  all_know hd w nodes sent ds (λ e i. whose e (inr i)) know.1,
)

-- what commits under way include is known beside the journal
abbrev Including : Seen → Type 0
Including M = IsBased M × IncludesAreSaid M

-- what is said of the exclusions of commits under way
abbrev Saying : Seen → Type 0
Saying M = Including M × MarksAreSaid M

-- and that naming was asked to confirm the commits of which exclusions are said is known too
abbrev Marking : (Seen → Type 0) → Seen → Type 0
Marking R M = R M × (Saying M × (MarksAreAsked M × ArePartedNow M))

pub ordered_beside : (hd : Header) (x : ℕ) (Fits : List Line → Type 0) → WasBefore Fits → (R : Seen → Type 0) (P : Kinds → Office → Seen →
    Type 0) → HeaderFits hd → is_some (object_line hd x) ≡ true → Keeps hd R → KeepsPart hd x (λ W M. R M × IsKnownEarly Fits W M) P →
    (w : World) → IsReached hd w → Fits w.lines → Holds hd (IsOrderedBeside R P hd x) w
ordered_beside hd x Fits before R P form there kept parts w reached fits =
    let first : KeepsPart hd x (λ W M. Marking R M × IsKnownEarly Fits W M) (WithFirst hd x (WithMarks x P)) = first_part hd x
    (λ W M. Marking R M × IsKnownEarly Fits W M) (WithMarks x P) marks (first_begins hd x form there) in
    let idles : KnowsIdle (Marking R) Idle = knows_spared (Marking R) (λ M r. r.1.1) in
    let tied = tied_part hd x (Marking R) (IsKnownEarly Fits) (WithFirst hd x (WithMarks x P)) Idle marking first idles in
    let ordered = ordered_part hd x (λ M. Marking R M × IsKept M) (IsKnownEarly Fits) (WithTie (WithFirst hd x (WithMarks x P)) Idle) Idle
    (both_too hd x (Marking R) (IsKnownEarly Fits) (WithFirst hd x (WithMarks x P)) Idle marking first idles) (λ M r. r.1)
    (knows_spared (λ M. Marking R M × IsKept M) (λ M r. r.0.1.1)) tied (λ tops A M p. (p.1).1) in
    let Q : Kinds → Office → Seen → Type 0 = λ tops A M. WithTie (WithFirst hd x (WithMarks x P)) Idle tops A M
    × IsOrdered (IdleThere Idle) A.world M in
    let knowing = known_part hd x (λ W M. (Marking R M × IsKept M) × IsKnownEarly Fits W M) Q (λ W M r. (let z = r.0 in z.1)) (λ W M r.
    (let z = r.1 in z.1)) (λ tops A M p. (let o = p.1 in o.once)) (λ tops A M p. (let z = p.0 in let t = z.1 in t.0)) ordered in
    let h = journalled_beside hd x Fits before (λ M. Marking R M × IsKept M) (WithKnown x Q)
    (both_too hd x (Marking R) (IsKnownEarly Fits) (WithFirst hd x (WithMarks x P)) Idle marking first idles) knowing w reached fits in
    let b = h.holds in
    let order = (let y = b.3 in let z = y.0 in z.1) in
    let more = (let y = b.3 in let z = y.0 in let t = z.0 in let p = t.0 in p.0) in
    let nodes = kept_nodes hd w reached.keeping in
    let right = kept_right hd w reached.keeping in
    record {
      sent = h.sent;
      stands = h.stands;
      holds = (
        record {
          begun = record {
            journalled = b.0;
            begins =
                subst (λ (W : machine.World). BeginsSo hd w.start.marks x W.disk) b.2
                (let y = b.3 in let z = y.0 in let t = z.0 in let p = t.0 in p.1);
          };
          once = subst (λ (W : machine.World). AreOnce W.disk.tops) b.2 order.once;
          called = subst (λ (W : machine.World). AreCalled w.lines W.disk.tops) b.2 order.called;
          turns = subst (λ (W : machine.World). AreTurnsOf w.lines W.disk.tops) b.2
              (turns_of Idle (λ ls u i. i.0) w.lines right (let A = b.1 in A.world.disk.tops) order.turns);
          roots = (let j = b.0 in roots_all hd x w nodes h.sent j.machine right (let s = j.sees in
              s.whole) (subst (λ (W : machine.World). AreMarkedSo x W (see h.sent w)) b.2 more.1));
          leaves = (let j = b.0 in leaves_all hd x w nodes h.sent j.machine right (let s = j.sees in
              s.whole) (subst (λ (W : machine.World). AreMarkedSo x W (see h.sent w)) b.2 more.1));
          joins = (let j = b.0 in joins_all hd x w nodes h.sent j.machine right (let s = j.sees in
              s.whole) (subst (λ (W : machine.World). AreMarkedSo x W (see h.sent w)) b.2 more.1));
          counted = (let j = b.0 in counted_all hd x w nodes h.sent j.machine right (let s = j.sees in
              s.whole) (subst (λ (W : machine.World). AreMarkedSo x W (see h.sent w)) b.2 more.1));
          included = (let j = b.0 in included_all hd x w nodes h.sent j.machine right (let s = j.sees in
              s.whole) (subst (λ (W : machine.World). AreMarkedSo x W (see h.sent w)) b.2 more.1));
          still = subst (λ (W : machine.World). AreStill W.disk.tops) b.2 (let q = more.1 in q.still);
          spared = subst (λ (W : machine.World). AreSpared w.lines x W.disk) b.2
              (spared_of x w.lines right (let A = b.1 in A.world) (let y = b.3 in let z = y.0 in let t = z.0 in let tie = t.1 in tie.1));
          dim = subst (λ (W : machine.World). AreDim W.disk) b.2 (let q = more.1 in q.dim);
          untouched = (let j = b.0 in untouched_all hd x w nodes h.sent j.machine right (let s = j.sees in
              s.whole) (subst (λ (W : machine.World). AreMarkedSo x W (see h.sent w)) b.2 more.1));
          know = (let j = b.0 in all_know hd w nodes h.sent (let W = j.machine in
              W.disk.tops) (λ e i. j.whose e.top (in_decided (let W = j.machine in W.disk.tops) e i))
              (subst (λ (W : machine.World). AllKnow (see h.sent w) W.disk.tops) b.2 (let y = b.3 in let k = y.1 in k.know)));
        },
        (let j = b.0 in j.tops),
        b.1,
        b.2,
        more.0,
        b.4,
        b.5,
        (let r = b.6 in r.0.0),
      );
    }
  where
    marking : Keeps hd (Marking R)
    marking = kept_both hd R (λ M. Saying M × (MarksAreAsked M × ArePartedNow M)) kept (keeps_given hd R
        (λ M. Saying M × (MarksAreAsked M × ArePartedNow M)) (kept_both hd Saying (λ M. MarksAreAsked M × ArePartedNow M) saying asking))
      where
        saying : Keeps hd Saying
        saying = kept_both hd Including MarksAreSaid (kept_both hd IsBased IncludesAreSaid (based_keep hd) (joins_given hd))
            (given_more hd IsKept Including MarksAreSaid (λ M r. r.0.0) (marks_given hd))

        asking : KeepsGiven hd Saying (λ M. MarksAreAsked M × ArePartedNow M)
        asking = both_given hd Saying MarksAreAsked ArePartedNow (given_more hd (λ M. IsKept M × MarksAreSaid M)
            (λ M. Saying M × ArePartedNow M) MarksAreAsked (λ M r. let z = r.0 in (z.0.0.0, z.1)) (asks_given hd))
            (keeps_given hd (λ M. Saying M × MarksAreAsked M) ArePartedNow (kept_of hd KnowsParted (parted_keep hd)))

    marks : KeepsPart hd x (λ W M. Marking R M × IsKnownEarly Fits W M) (WithMarks x P)
    marks = marks_part hd x (λ W M. R M × IsKnownEarly Fits W M) (λ W M. Marking R M × IsKnownEarly Fits W M) P (λ W M r. (r.0.0, r.1))
        (λ W M r. let z = r.0.1.0 in (z.0.0.0, z.1, z.0.1)) parts

-- ---- where one includes a store

-- who doesn't count, by what is kept of those that naming confirmed so
pub lights_split : (hd : Header) (x : ℕ) (w : World) (nodes : HaveNodes w) (sent : List Post) (o : IsOrderedSo hd x (see sent w))
    (A : Office) → A.world ≡ world_of o → KeepLights x A (see sent w) → LightsAreSplit w.lines (let W = world_of o in W.disk)
lights_split hd x w nodes sent o A same lights = subst (λ (W : machine.World). LightsAreSplit w.lines W.disk) same each
  where
    dim : AreDim A.world.disk
    dim = subst (λ (W : machine.World). AreDim W.disk) (sym same) o.dim

    whole : machine.Whole A.world
    whole = subst machine.Whole (sym same) (let b = o.begun in let j = b.journalled in let s = j.sees in s.whole)

    each : LightsAreSplit w.lines A.world.disk
    each d a i off there number s on =
        subst (λ (p : Plan). IsSplit A.world.disk.first_entry w.lines a.uid p.joins A.world.disk.tops) plan (lights.splits a.uid passed)
      where
        plan : A.world.disk.plan (uid_number a.uid) ≡ d.plan
        plan = ap A.world.disk.plan number ∙ sym (let c = whole.core in let j = c.journal in j.plan d i)

        passed : IsPassed A (see sent w) a.uid
        passed = record {
          node = (let n = nodes a there in n.node);
          there = (let n = nodes a there in n.there);
          light = ap A.world.disk.light number ∙ dim d i off;
          store = s;
          joins = ap (λ (p : Plan). disk_list.has s p.joins) plan ∙ on;
          stands = inr (ap (decided_in A.world.disk.tops) number ∙ in_decided A.world.disk.tops d i);
        }
