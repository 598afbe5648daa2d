-- Of each decided top the journal says what it excluded and what it included, by the disk machine: each handler keeps it.
use Rattle.arj_law_parts.proofs.Words
use Words.{Start, world_from}
use Words.{◌≡◌, ◌⊎◌, ◌||◌, ◌&&◌, ◌∙◌, ◌+◌, ℕ, Bool, true, false, not, List, [], ◌∷◌, Option, Some, None, ap, inl, inr, refl, subst, sym}
use Words.{⊎_elim, is_some, bytes_eq-Decides, is_on, Body, Header, Kind, Label, Uid, first_uid, name, uids_of, again_all, begin_action}
use Words.{Confirming, Machine, Preparing, is_marked, Committing, Coord, Doing, doing_of, Disk, Do, Effect, Intent, Say, Send, worked}
use Words.{tick_outs, Parts, with_coord, at_uid, uid_number, Node, acts, parent_of, parts_in, restart_outs, branch_of}
use Words.{numbered, Seen, see, is_serial}
use Words.list
use Words.body
use Words.order
use Rattle.arj_law_serial.proofs.Terms
use Terms.{at_in, World, Office, Plan, decided, decided_in, is_sealed, target, never, Keeps, at, down, given, posted, said, up, Up, Walks}
use Terms.{halted, walks_both, walks_to, SeesConfirming, SeesPreparing, KnowsNode, nodes_of, KnowsMachine, IsLater, Kinds, SeesCoord}
use Terms.{SeesDisks, confirming_of, first_at, node_here, plan_at, named_label, OnlyAnswers, OnlyFound, SeesBoth, Change, Changes, Quietly}
use Terms.{change_by, KeepsPart, are_recorded, restart_plain, IsNear, IsStep, near_same, nothing_more, step_halted, step_walk, Book, book}
use Terms.{new_book, IsKept, AreRight, book_more, later_from, Stands, stands_lines, stands_new, named_in, lines_keep, Act, act_in, path}
use Terms.{uids, IsRecordedAt, AreRising, FitsIncludes, IncludesAreSaid, has_included, MarksAreSaid, excludes, was_marked, AreMarkedSo}
use Terms.{IsMarkedSo}
use Terms.Effects as machine
use Terms.words as disk_list
use Rattle.arj_law_disk_view.proofs.view.HeardWalks.{preparing_of}
use Rattle.arj_law_serial.proofs.joint
use joint.{Called.right_behind, Called.right_front, JoinLines.included_from, MarkStates.or_false}
use joint.Ending.{ends_of, message_ends, record_of}
use joint.JoinCounts.{GoesOn, goes_on_along, goes_on_by}
use joint.MarkMoves.{IsMarking, NoMark, acts_stay, apart_none, said_in, unmarked_said}
use joint.MarkRuns.{IsNamed, act_moved, marked_more, message_moved, named_at, no_left, no_right, same_marked}
use joint.Recording.{AreRecordedBy, IsConfirming, acts_put, anyone, are_theirs, here_then, message_puts, others_then, plainly, recorded_at}
use joint.Recording.{records_walk, tick_puts}
use Rattle.arj_law_serial.proofs.order.Paths.{paths_stay}
use Rattle.arj_law_serial.proofs.whole.CalledSays.{restart_fine, tick_fine}

-- ---- lines

-- what was said of marks stays, but by these names
abbrev MarkedFrom : (List ℕ → Type 0) → Seen → Seen → Type 0
MarkedFrom who M Z = (l : List ℕ) (x s : ℕ) → (was_marked Z.lines l x s ≡ was_marked M.lines l x s) ⊎ who l

from_walk : (who : List ℕ → Type 0) (M : Seen) (e k : ℕ) (v : Parts) (rest : List Effect) (d : Disk) (N : Seen) →
    ((l : List ℕ) (x s : ℕ) → ((was_marked N.lines l x s ≡ was_marked M.lines l x s) × (said_in rest l x s ≡ false)) ⊎ who l)
    → Walks (MarkedFrom who M) e k rest (Up (MarkedFrom who M) k v) d N
from_walk who M e k v [] d N base = λ l x s. ⊎_elim (λ (same, none). inl same) (λ its. inr its) (base l x s)
from_walk who M e k v (Do w ∷ es) d N base = (
  λ how l x s. ⊎_elim (λ (same, none). inl (marked_more N.lines (numbered e (body.Halted k ∷ [])) l x s
      ∙ or_false (was_marked N.lines l x s) ∙ same)) (λ its. inr its) (base l x s),
  from_walk who M e k v es (worked w d) N base,
)
from_walk who M e k v (Say b ∷ es) d N base = from_walk who M e k v es d (said e (b ∷ []) N) (λ l x s. ⊎_elim
    (λ (same, none). inl (
      marked_more N.lines (numbered e (b ∷ [])) l x s ∙ ap (λ z. was_marked N.lines l x s || (z || false))
          (no_left (excludes l x s b) (said_in es l x s) none) ∙ or_false (was_marked N.lines l x s) ∙ same,
      no_right (excludes l x s b) (said_in es l x s) none,
    ))
    (λ its. inr its) (base l x s))
from_walk who M e k v (Send to m ∷ es) d N base =
    λ more quiet. from_walk who M e k v es d (said e more (posted (record { from = k; to = to; message = m }) N))
    (λ l x s. ⊎_elim (λ (same, none). inl (same_marked e more N.lines quiet l x s ∙ same, none)) (λ its. inr its) (base l x s))

-- ---- one top

-- it stays so as the machine goes on
marked_later : (x : ℕ) (W V : World) (M N : Seen) → IsLater W V → IsStep M N → AreRight new_book N.lines → (u : Uid)
    (p : IsMarkedSo x W M u) → ((s : ℕ) → was_marked N.lines p.act.label x s ≡ was_marked M.lines p.act.label x s) → IsMarkedSo x V N u
marked_later x W V M N later step right u p same = record {
  begun = later.begun (uid_number u) p.begun;
  ended = later.sealed (uid_number u) p.ended;
  act = p.act;
  named = ap (λ ls. act_in (book ls).acts p.act.label) step.lines
      ∙ ap (λ (B : Book). act_in B.acts p.act.label) (book_more new_book M.lines step.more) ∙ acts_stay (book M.lines) step.more
      (right_behind new_book M.lines step.more (subst (AreRight new_book) step.lines right)) p.act.label p.act p.named;
  uid = p.uid;
  marks = λ s. same s ∙ p.marks s
      ∙ (λ i. target (sym (later.plan (uid_number u) p.begun) i) s && not (sym (later.got (uid_number u) p.ended) i s));
  root = ap (λ (f : ℕ → ℕ). f (uid_number u)) later.root ∙ p.root ∙ ap (λ (q : List Act). uid_number (first_uid (uids q))) (sym stays);
  called = ap (λ ls. is_on (let B = book ls in B.called) u) step.lines ∙ ap (λ (B : Book). is_on B.called u)
      (book_more new_book M.lines step.more) ∙ (let l = later_from (book M.lines) step.more in l.called u p.called);
  rising = subst (λ (q : Plan). AreRising q.joins) (sym (later.plan (uid_number u) p.begun)) p.rising;
  joins = λ s. ap (λ (q : Plan). order.has q.joins s) (later.plan (uid_number u) p.begun) ∙ p.joins s ∙ sym
      (ap (λ ls. has_included (book ls) u x s) step.lines ∙ ap (λ (B : Book). has_included B u x s) (book_more new_book M.lines step.more)
      ∙ included_from (book M.lines) step.more behind stands u p.called x s);
}
  where
    behind : AreRight (book M.lines) step.more
    behind = right_behind new_book M.lines step.more (subst (AreRight new_book) step.lines right)

    stands : Stands (book M.lines)
    stands = stands_lines new_book M.lines (right_front new_book M.lines step.more (subst (AreRight new_book) step.lines right)) stands_new

    stays : path (book N.lines).acts p.act.label ≡ path (book M.lines).acts p.act.label
    stays = ap (λ ls. path (book ls).acts p.act.label) step.lines
        ∙ ap (λ (B : Book). path B.acts p.act.label) (book_more new_book M.lines step.more)
        ∙ (paths_stay (book M.lines) step.more p.act (right_behind new_book M.lines step.more
        (subst (AreRight new_book) step.lines right)) (named_in (book M.lines).acts p.act.label p.act p.named)).0

-- ---- a step

module _ (x : ℕ) (C : Uid → Type 0) (g : ℕ → Bool) (who : List ℕ → Type 0) (W : World) (M : Seen) (whose : (u : Uid) →
    g (uid_number u) ≡ true → IsRecordedAt M u ⊎ C u) (before : AreMarkedSo x W M) (waiting : (u : Uid) → C u →
    IsMarkedSo x W M u) (apart : (u : Uid) (p : IsMarkedSo x W M u) → who p.act.label → ⊥) where
  marked_then : (tops : Kinds) (V : World) (N : Seen) → GoesOn g W V → SeesDisks x tops V N → AreRecordedBy C M N → IsStep M N →
      MarkedFrom who M N → AreRight new_book N.lines → AreMarkedSo x V N
  marked_then tops V N goes sees recs step from right = let kept = goes.1 (before.joiners, before.still, before.dim) in
      record { decisions = decisions; records = records; bares = bares; joiners = kept.0; still = kept.1; dim = kept.2 }
    where
      later : (u : Uid) → IsMarkedSo x W M u → IsMarkedSo x V N u
      later u p =
          marked_later x W V M N goes.0.1 step right u p (λ s. ⊎_elim (λ same. same) (λ its. absurd (apart u p its)) (from p.act.label x s))

      records : (u : Uid) → IsRecordedAt N u → IsMarkedSo x V N u
      records u r = later u (⊎_elim (λ (old : IsRecordedAt M u). before.records u old) (λ (new : C u). waiting u new) (recs u r))

      bares : (u : Uid) → V.disk.bare (uid_number u) ≡ true → IsMarkedSo x V N u
      bares u on = later u (⊎_elim
          (λ (old : W.disk.bare (uid_number u) ≡ true). before.bares u old)
          (λ (new : (g (uid_number u) ≡ true) × ((let p = V.disk.plan (uid_number u) in p.writes) ≡ None)).
          ⊎_elim (λ (r : IsRecordedAt M u). before.records u r) (λ (c : C u). waiting u c) (whose u new.0))
          (goes.2 (uid_number u) on))

      decisions : (u : Uid) (n : Node) → N.nodes u.node ≡ Some n → decided V.disk (uid_number u) ≡ true → IsMarkedSo x V N u
      decisions u n here d = ⊎_elim
          (λ (old : decided W.disk (uid_number u) ≡ true). let had = step.nodes u.node n here in
          later u (before.decisions u had.0 had.1 old))
          (λ (some : is_some (V.disk.intent (uid_number u)) ≡ true). by some (at_uid u (let c = n.disk in c.intents)) refl)
          (goes.0.0 (uid_number u) d)
        where
          by : is_some (V.disk.intent (uid_number u)) ≡ true → (o : Option Intent) → at_uid u (let c = n.disk in c.intents) ≡ o →
              IsMarkedSo x V N u
          by some None none = let r = sees.records u.node n here in absurd (never some (ap is_some (r.is u refl ∙ ap nodes_of none)))
          by some (Some i) is =
              records u (record { place = u.node; node = n; intent = i; here = here; there = at_in u i (let c = n.disk in c.intents) is })

-- ---- at a coordinator

module _ (x k : ℕ) (d : Disk) (t : Parts) (M : Seen) (tops : Kinds) (A : Office) (knows : KnowsNode tops k d t M)
    (both : SeesBoth x tops A (up k d t M)) (kept : IsKept (up k d t M)) where
  here : (up k d t M).nodes k ≡ Some (record { number = k; disk = d; live = Some t })
  here = node_here M k (record { number = k; disk = d; live = Some t })

  coord_seen : SeesCoord x k d.inc tops t.coord A.world.disk
  coord_seen = let s = both.disks in s.coords k (record { number = k; disk = d; live = Some t }) t here refl

  its_name : (u : Uid) (q : Doing) (m : Machine) → doing_of u t.coord ≡ Some q → q.now ≡ Committing m → IsNamed (up k d t M) k u q
  its_name u q m found now = named_at (up k d t M) kept k (record { number = k; disk = d; live = Some t }) t u q m here refl found now

  -- a commit that waits for naming is so
  marked_here : MarksAreSaid (up k d t M) → IncludesAreSaid (up k d t M) → (u : Uid) → IsConfirming t.coord u →
      IsMarkedSo x A.world (up k d t M) u
  marked_here marks includes u c = record {
    begun = sees.begun;
    ended = ap is_sealed sees.stage;
    act = named.act;
    named = ap (act_in (book M.lines).acts) label ∙ named.named;
    uid = named.uid;
    marks = λ s. ap (λ l. was_marked M.lines l x s) label ∙ said_so x s ∙ sees.marks s ∙ by s (target (plan_at x c.plan) s) refl
        ∙ (λ i. target (sym sees.plan i) s && not (A.world.disk.got (uid_number u) s));
    root = ap (λ (f : ℕ → ℕ). f (uid_number u)) (let s = both.disks in let g = s.fixed in g.root)
        ∙ (let z = knows.coord in z.root u n.branch n.found n.top) ∙ ap (λ (us : List Uid). uid_number (first_uid us)) (sym its_path);
    called = subst (λ w. is_on (let B = book M.lines in B.called) w ≡ true) its_uid its.2;
    rising = subst (λ (q : Plan). AreRising q.joins) (sym sees.plan) (let l = its.3 in l.rising x);
    joins = λ s. ap (λ (q : Plan). order.has q.joins s) sees.plan ∙ (let l = its.3 in l.same x s)
        ∙ ap (λ w. has_included (book M.lines) w x s) its_uid;
  }
    where
      its : FitsIncludes (book M.lines) (name c.doing.label) (Confirming c.plan)
      its = let z = includes k (record { number = k; disk = d; live = Some t }) t here refl in
          z.1 u c.doing (Confirming c.plan) c.works c.now

      n : KnowsMachine tops t.coord u (Confirming c.plan)
      n = let z = knows.coord in z.machines u c.doing (Confirming c.plan) c.works c.now

      sees : SeesConfirming x A.world.disk (uid_number u) c.plan
      sees = confirming_of x tops A.world.disk (uid_number u) n.branch.kind c.doing.now c.plan n.top c.now
          (coord_seen.working u n.branch c.doing n.found n.unended c.works)

      named : IsNamed (up k d t M) k u c.doing
      named = its_name u c.doing (Confirming c.plan) c.works c.now

      its_path : uids (path (book M.lines).acts named.act.label) ≡ uids_of n.branch.path
      its_path =
          let w = kept.1 in
          let j = w.nodes k (record { number = k; disk = d; live = Some t }) here in
          let z = (let l = j.live t refl in l.knows) in
          z.ties.paths named.act n.branch (list.in_to named.act (book M.lines).acts (named_in (book M.lines).acts (name c.doing.label)
          named.act named.named)) (ap (λ w. branch_of w t.coord.tree) named.uid ∙ n.found)

      its_uid : (let a = its.0 in a.uid) ≡ u
      its_uid =
          let e : ◌≡◌ {A = Option Act} (Some its.0) (Some named.act) = sym its.1 ∙ named.named in
          ap (λ (a : Act). a.uid) (let same : its.0 ≡ named.act = cc e in same) ∙ named.uid

      label : named.act.label ≡ name c.doing.label
      label = named_label (book M.lines).acts (name c.doing.label) named.act named.named

      said_so : (y s : ℕ) → was_marked M.lines (name c.doing.label) y s ≡ is_marked y s c.plan
      said_so y s = marks k (record { number = k; disk = d; live = Some t }) t u c.doing here refl c.works (Confirming c.plan) c.now y s

      by : (s : ℕ) (b : Bool) → target (plan_at x c.plan) s ≡ b → (target (plan_at x c.plan) s
          && not (order.has (let p = c.plan in p.prepared) s)) ≡ (target (plan_at x c.plan) s && not (A.world.disk.got (uid_number u) s))
      by s true is = ap (λ z. target (plan_at x c.plan) s && not z) (sym (sees.got s is))
      by s false is =
          (λ i. is i && not (order.has (let p = c.plan in p.prepared) s)) ∙ (λ i. sym is i && not (A.world.disk.got (uid_number u) s))

  -- one whose prepare step runs isn't
  apart_here : (outs : List Effect) (u : Uid) (p : IsMarkedSo x A.world (up k d t M) u) → IsMarking t.coord outs p.act.label → ⊥
  apart_here outs u p mark =
      never (subst (λ (w : Uid). is_sealed (A.world.disk.stage (uid_number w)) ≡ true) (sym one) p.ended) (ap is_sealed sees.stage)
    where
      n : KnowsMachine tops t.coord mark.action (Preparing mark.plan mark.left)
      n = let z = knows.coord in z.machines mark.action mark.doing (Preparing mark.plan mark.left) mark.found mark.now

      sees : SeesPreparing x A.world.disk (uid_number mark.action) mark.plan mark.left
      sees = preparing_of x tops A.world.disk (uid_number mark.action) n.branch.kind mark.doing.now mark.plan mark.left n.top mark.now
          (coord_seen.working mark.action n.branch mark.doing n.found n.unended mark.found)

      named : IsNamed (up k d t M) k mark.action mark.doing
      named = its_name mark.action mark.doing (Preparing mark.plan mark.left) mark.found mark.now

      one : mark.action ≡ u
      one =
          let e : ◌≡◌ {A = Option Act} (Some named.act) (Some p.act) = sym named.named
          ∙ ap (act_in (book M.lines).acts) ((bytes_eq-Decides (name mark.doing.label) p.act.label).0 mark.named) ∙ p.named in
          sym named.uid ∙ ap (λ (a : Act). a.uid) (let same : named.act ≡ p.act = cc e in same) ∙ p.uid

-- ---- each handler

-- beside what is carried with the machine's state
abbrev pub WithMarks : ℕ → (Kinds → Office → Seen → Type 0) → Kinds → Office → Seen → Type 0
WithMarks x P tops A M = P tops A M × AreMarkedSo x A.world M

module _ (hd : Header) (x : ℕ) (K L : World → Seen → Type 0) (P : Kinds → Office → Seen → Type 0) (to : (W : World) (M : Seen) → L W M →
    K W M) (known : (W : World) (M : Seen) → L W M → IsKept M × MarksAreSaid M × IncludesAreSaid M) (parts : KeepsPart hd x K P) where
  abbrev Q : Kinds → Office → Seen → Type 0
  Q tops A M = WithMarks x P tops A M

  abbrev OfEach : Kinds → (Office → Type 0) → (Kinds → Office → Seen → Type 0) → Seen → Type 0
  OfEach tops D O Z = (B : Office) → D B → SeesBoth x tops B Z → O tops B Z

  lines : Keeps hd IsKept
  lines = lines_keep hd

  module _ (tops : Kinds) (D : Office → Type 0) (C : Uid → Type 0) (g : ℕ → Bool) (who : List ℕ → Type 0) (W : World) (M : Seen) (goes :
      (B : Office) → D B → GoesOn g W B.world) (whose : (u : Uid) → g (uid_number u) ≡ true → IsRecordedAt M u ⊎ C u) (before : AreMarkedSo
      x W M) (waiting : (u : Uid) → C u → IsMarkedSo x W M u) (apart : (u : Uid) (p : IsMarkedSo x W M u) → who p.act.label → ⊥) where
    marks_next : (Z : Seen) → IsKept Z → AreRecordedBy C M Z → IsStep M Z → MarkedFrom who M Z → (B : Office) → D B → SeesBoth x tops B Z →
        AreMarkedSo x B.world Z
    marks_next Z kept recs step from B c seen =
        marked_then x C g who W M whose before waiting apart tops B.world Z (goes B c) seen.disks recs step from (let w = kept.1 in w.right)

    along : (e k : ℕ) (outs : List Effect) (v : Parts) (d : Disk) (N : Seen) →
        Walks (OfEach tops D P) e k outs (Up (OfEach tops D P) k v) d N → Walks IsKept e k outs (Up IsKept k v) d N
        → Walks (AreRecordedBy C M) e k outs (Up (AreRecordedBy C M) k v) d N → Walks (IsStep M) e k outs (Up (IsStep M) k v) d N → Walks
        (MarkedFrom who M) e k outs (Up (MarkedFrom who M) k v) d N → Walks (OfEach tops D Q) e k outs (Up (OfEach tops D Q) k v) d N
    along e k outs v d N w kept recs steps from =
        let one = walks_both (IsStep M) (MarkedFrom who M) e k outs (Up (IsStep M) k v) (Up (MarkedFrom who M) k v) d N steps from in
        let two = walks_both (AreRecordedBy C M) (λ Z. IsStep M Z × MarkedFrom who M Z) e k outs (Up (AreRecordedBy C M) k v)
        (λ c Z. Up (IsStep M) k v c Z × Up (MarkedFrom who M) k v c Z) d N recs one in
        let three = walks_both IsKept (λ Z. AreRecordedBy C M Z × (IsStep M Z × MarkedFrom who M Z)) e k outs (Up IsKept k v)
        (λ c Z. Up (AreRecordedBy C M) k v c Z × (Up (IsStep M) k v c Z × Up (MarkedFrom who M) k v c Z)) d N kept two in
        let four = walks_both (OfEach tops D P) (λ Z. IsKept Z × (AreRecordedBy C M Z × (IsStep M Z × MarkedFrom who M Z))) e k outs
        (Up (OfEach tops D P) k v) (λ c Z. Up IsKept k v c Z
        × (Up (AreRecordedBy C M) k v c Z × (Up (IsStep M) k v c Z × Up (MarkedFrom who M) k v c Z))) d N w three in
        walks_to (λ Z. OfEach tops D P Z × (IsKept Z × (AreRecordedBy C M Z × (IsStep M Z × MarkedFrom who M Z)))) (OfEach tops D Q) e k
        outs (λ c Z. Up (OfEach tops D P) k v c Z × (Up IsKept k v c Z
        × (Up (AreRecordedBy C M) k v c Z × (Up (IsStep M) k v c Z × Up (MarkedFrom who M) k v c Z)))) (Up (OfEach tops D Q) k v) d N
        (λ Z h B c seen. (h.0 B c seen, marks_next Z h.1.0 h.1.1.0 h.1.1.1.0 h.1.1.1.1 B c seen))
        (λ c Z h B changed seen. (h.0 B changed seen, marks_next (up k c v Z) h.1.0 h.1.1.0 h.1.1.1.0 h.1.1.1.1 B changed seen)) four

  abbrev none : Uid → Type 0
  none u = ⊥

  abbrev nobody : List ℕ → Type 0
  nobody l = ⊥

  abbrev no_top : ℕ → Bool
  no_top t = false

  no_one : (C : Uid → Type 0) (M : Seen) (u : Uid) → false ≡ true → IsRecordedAt M u ⊎ C u
  no_one C M u is = absurd (never is refl)

  goes_from : (o : Change) (A B : Office) → OnlyAnswers A B → machine.Whole A.world → (Z : Office) → Changes o B Z →
      GoesOn (ends_of o) A.world Z.world
  goes_from o A B only whole Z c =
      (let same = only.world in subst (λ W. GoesOn (ends_of o) W Z.world) same (goes_on_by o B Z (subst machine.Whole (sym same) whole) c))

  moved_base : (c : Coord) (outs : List Effect) (M : Seen) → ((l : List ℕ) (y s : ℕ) → (said_in outs l y s ≡ false) ⊎ IsMarking c outs l) →
      (l : List ℕ) (y s : ℕ) → ((was_marked M.lines l y s ≡ was_marked M.lines l y s) × (said_in outs l y s ≡ false)) ⊎ IsMarking c outs l
  moved_base c outs M whose l y s = ⊎_elim (λ off. inl (refl, off)) (λ on. inr on) (whose l y s)

  pub marks_part : KeepsPart hd x L Q
  marks_part = record {
    quiet = λ tops e bs M A walk quiet r both (part, marks) B changed seen. (
      parts.quiet tops e bs M A walk quiet (to A.world M r) both part B changed seen,
      marks_next tops (Changes Quietly A) none no_top nobody A.world M (λ Z c. goes_on_by Quietly A Z (let z = both.disks in z.whole) c)
          (no_one none M) marks (λ u off. absurd off) (λ u p off. off) (said e bs M) (lines.quiet e bs M quiet (known A.world M r).0)
          (λ u c. inl (record { place = c.place; node = c.node; intent = c.intent; here = c.here; there = c.there })) (quiet_step e bs M)
          (λ l y s. inl (same_marked e bs M.lines quiet l y s)) B changed seen,
    );
    stop = λ tops e k d live M A walk r both (part, marks) B changed seen. (
      parts.stop tops e k d live M A walk (to A.world (at k d live M) r) both part B changed seen,
      marks_next tops (Changes Quietly A) none no_top nobody A.world (at k d live M)
          (λ Z c. goes_on_by Quietly A Z (let z = both.disks in z.whole) c) (no_one none (at k d live M)) marks (λ u off. absurd off)
          (λ u p off. off) (halted e k d M) (lines.stop e k d live M (known A.world (at k d live M) r).0)
          (recorded_at none (at k d live M) k d None M (halted e k d M) (λ i. refl) (others_then none k d live M)
          (here_then none k d live M)) (step_halted k d live M e d M (near_same M) (λ down. refl))
          (λ l y s. inl (marked_more M.lines (numbered e (body.Halted k ∷ [])) l y s ∙ or_false (was_marked M.lines l y s))) B changed seen,
    );
    message = λ tops e k d t v from m outs M A walk n r sent meant is of own both (part, marks).
        let p = parts.message tops e k d t v from m outs M A walk n (to A.world (up k d t M) r) sent meant is of own both part in
        let h = p.0 in
        let o = change_by x d t m in
        let g = known A.world (up k d t M) r in
        let C : Uid → Type 0 = λ u. IsConfirming t.coord u in (
          record {
            office = h.office;
            only = h.only;
            both = h.both;
            along = along tops (Changes o h.office) C (ends_of o) (IsMarking t.coord outs) A.world (up k d t M)
                (goes_from o A h.office h.only (let z = both.disks in z.whole)) (λ u on. inr (message_ends x d t u m on)) marks
                (marked_here x k d t M tops A n both g.0 g.1 g.2) (apart_here x k d t M tops A n both g.0 outs) e k outs v d M h.along
                (lines.message e k d t v from m outs M g.0 sent meant is) (records_walk C (up k d t M) k anyone e v outs d M
                (others_then C k d (Some t) M) (message_puts anyone k d t (are_theirs tops k d t M n) from m v outs is (λ u same. tt))
                (here_then C k d (Some t) M)) (step_walk k d (Some t) M e v outs d M (near_same M) (was_up t) (was_up t))
                (from_walk (IsMarking t.coord outs) (up k d t M) e k v outs d M
                (moved_base t.coord outs M (let w = message_moved e k d t M g.0 g.1 v from m outs is in w.whose)));
          },
          p.1,
          p.2,
        );
    act = λ tops e k d t i M A walk n r is free both (part, marks).
        let did = acts i d.intents t.coord in
        let p = parts.act tops e k d t i M A walk n (to A.world (up k d t M) r) is free both part in
        let h = p.0 in
        let g = known A.world (up k d t M) r in
        let C : Uid → Type 0 = λ u. IsConfirming t.coord u in (
          record {
            office = h.office;
            only = h.only;
            both = h.both;
            along = along tops (Changes Quietly h.office) C no_top (IsMarking t.coord did.outs) A.world (up k d t M) (goes_from Quietly A
                h.office h.only (let z = both.disks in z.whole)) (no_one C (up k d t M)) marks (marked_here x k d t M tops A n both g.0 g.1
                g.2) (apart_here x k d t M tops A n both g.0 did.outs) e k did.outs (with_coord t did.part) d M h.along
                (lines.act e k d t i M is free g.0) (records_walk C (up k d t M) k anyone e (with_coord t did.part) did.outs d M
                (others_then C k d (Some t) M) (acts_put anyone t.coord (are_theirs tops k d t M n) d.intents i) (here_then C k d
                (Some t) M)) (step_walk k d (Some t) M e (with_coord t did.part) did.outs d M (near_same M) (was_up t) (was_up t))
                (from_walk (IsMarking t.coord did.outs) (up k d t M) e k (with_coord t did.part) did.outs d M
                (moved_base t.coord did.outs M (let w = act_moved e k d t M g.0 g.1 hd i is free in w.whose)));
          },
          p.1,
        );
    begin = λ tops e k d t l how parent M A walk n r new may free kind both (part, marks).
        let did = begin_action l how parent (parent_of parent t.coord) t.coord in
        let N : Seen = given l (record { node = k; serial = is_serial how }) M in
        along tops (Changes Quietly A) none no_top nobody A.world (up k d t M) (λ B c. goes_on_by Quietly A B (let z = both.disks in
        z.whole) c) (no_one none (up k d t M)) marks (λ u off. absurd off) (λ u p off. off) e k did.outs (with_coord t did.part) d N
        (parts.begin tops e k d t l how parent M A walk n (to A.world (up k d t M) r) new may free kind both part)
        (lines.begin e k d t l how parent M new may free (known A.world (up k d t M) r).0)
        (records_walk none (up k d t M) k anyone e (with_coord t did.part) did.outs d N (others_then none k d (Some t) M) (tt, tt)
        (here_then none k d (Some t) M))
        (step_walk k d (Some t) M e (with_coord t did.part) did.outs d N (given_near l how k M) (was_up t) (was_up t))
        (from_walk nobody (up k d t M) e k (with_coord t did.part) did.outs d N (λ y z s. inl (refl, refl)));
    tick = λ tops e k d t M A walk n r both (part, marks).
        let outs = tick_outs (record { number = k; disk = d; live = Some t }) t in
        let v = with_coord t (let z = again_all t.coord.doings t.coord in z.part) in
        let g = known A.world (up k d t M) r in
        let C : Uid → Type 0 = λ u. IsConfirming t.coord u in
        along tops (Changes Quietly A) C no_top nobody A.world (up k d t M) (λ B c. goes_on_by Quietly A B (let z = both.disks in
        z.whole) c) (no_one C (up k d t M)) marks (marked_here x k d t M tops A n both g.0 g.1 g.2) (λ u p off. off) e k outs v d M
        (parts.tick tops e k d t M A walk n (to A.world (up k d t M) r) both part) (lines.tick e k d t M g.0)
        (records_walk C (up k d t M) k anyone e v outs d M (others_then C k d (Some t) M) (tick_puts anyone k d t (are_theirs tops k d t M
        n)) (here_then C k d (Some t) M)) (step_walk k d (Some t) M e v outs d M (near_same M) (was_up t) (was_up t))
        (from_walk nobody (up k d t M) e k v outs d M (λ l y s.
        inl (refl, unmarked_said outs (tick_fine NoMark apart_none (record { number = k; disk = d; live = Some t }) t) l y s)));
    restart = λ tops e k d M A walk r both (part, marks).
        let outs = restart_outs hd k (d.inc + 1) d in
        let v = parts_in k (d.inc + 1) d in
        along tops (OnlyFound (are_recorded d.intents) A) none (are_recorded d.intents) nobody A.world (down k d M)
        (λ B c. goes_on_along (are_recorded d.intents) A.world B.world (let z = both.disks in z.whole) c.along)
        (λ u on. let r = record_of u d.intents on in inl (record {
          place = k;
          node = record { number = k; disk = d; live = None };
          intent = r.0;
          here = node_here M k (record { number = k; disk = d; live = None });
          there = r.1;
        })) marks (λ u off. absurd off) (λ u p off. off) e k outs v d M
        (parts.restart tops e k d M A walk (to A.world (down k d M) r) both part) (lines.restart e k d M (known A.world (down k d M) r).0)
        (records_walk none (down k d M) k anyone e v outs d M (others_then none k d None M)
        (plainly none anyone outs (restart_plain [] hd k d)) (here_then none k d None M))
        (step_walk k d None M e v outs d M (near_same M) (λ down. restart_plain [] hd k d) (λ down. refl))
        (from_walk nobody (down k d M) e k v outs d M
        (λ l y s. inl (refl, unmarked_said outs (restart_fine NoMark apart_none hd k (d.inc + 1) d) l y s)));
    first = λ tops walk kinds st formed.
        let f = parts.first tops walk kinds st formed in (f.0, f.1, (f.2, nothing_yet st f.0 f.3 f.4), f.3, f.4);
  }
    where
      quiet_step : (e : ℕ) (bs : List Body) (M : Seen) → IsStep M (said e bs M)
      quiet_step e bs M = record { more = numbered e bs; lines = refl; nodes = λ j n is. (n, is, λ down. refl) }

      given_near : (l : Label) (how : Kind) (k : ℕ) (M : Seen) → IsNear M (given l (record { node = k; serial = is_serial how }) M)
      given_near l how k M = record { more = []; lines = nothing_more M.lines; nodes = λ j. refl }

      was_up : {X : Type 0} (t : Parts) → Some t ≡ None → X
      was_up t is = absurd (let no_way : ◌≡◌ {A = Option Parts} (Some t) None = is in cc no_way)

      nothing_yet : (st : Start) (A : Office) → (let W = A.world in let D = W.disk in D.tops) ≡ [] →
          ((t : ℕ) → A.world.disk.bare t ≡ false) → AreMarkedSo x A.world (see [] (world_from hd st))
      nothing_yet st A empty none_bare = record {
        decisions = λ u n here d. absurd (never d (ap (λ ds. decided_in ds (uid_number u)) empty));
        bares = λ u on. absurd (never on (none_bare (uid_number u)));
        joiners = λ d i. absurd (subst (disk_list.In d) empty i);
        still = λ d i. absurd (subst (disk_list.In d) empty i);
        dim = λ d i. absurd (subst (disk_list.In d) empty i);
        records = λ u r. absurd (subst (λ (n : Node). list.In {X = Uid × Intent} (u, r.intent) (let c = n.disk in c.intents))
            (sym (first_at hd st r.place r.node r.here)) r.there);
      }
