-- Rows of what a show writes: what nodes hold, and no prepared action names, is what the journal says, as files are clean before each
-- event; and no other event writes such lines.
use Rattle.arj_law_parts.proofs.Words
use Words.{◌≡◌, ◌⊎◌, ◌≤◌, ◌∙◌, ◌+◌, ◌==◌, ◌&&◌, ◌||◌, ◌++◌, not, ℕ, zero, suc, Bool, true, false, cond, List, [], ◌∷◌, length, refl, sym}
use Words.{ap, subst, arith, eqb-true, inl, inr, ⊎_elim, Option, Some, None, is_some, list_all, and_parts, map, take}
use Words.{AllByRecursion, append_assoc, append-nil, uid_same, Body, Event, Header, Kind, Label, Line, Start, Uid, Arm, World}
use Words.{Node, ObjectState, counted, numbered, entry, first_reason, happens, holder_of, limited, node_numbers}
use Words.{at_place, show_all, state_entry, entry_back, world_from, Move, all_moved, moved, see, class_at, class_in, world_by}
use Words.body
use Words.cause
use Words.event
use Words.kind
use Rattle.arj_law_runs.proofs.Terms.which
use Rattle.arj_law_runs.proofs.Terms.{says}
use Rattle.arj_law_runs.proofs.addresses.Lists.{all_append}
use Rattle.arj_law_runs.proofs.follow.Along.{Ended, Outcome, Went, event_of, runs_along}
use Rattle.arj_law_runs.proofs.follow.Framing.{same_number}
use Rattle.arj_law_runs.proofs.follow.Frames as frames
use Rattle.arj_law_runs.proofs.follow.Reasons.{joined, refused_by_any}
use Rattle.arj_law_runs.proofs.follow.Refusing as refusing
use Rattle.arj_law_runs.proofs.follow.Refusing.{Came, IsRefused, IsRun, same_bodies}
use Rattle.arj_law_runs.specs.follow.Frames.{are_so, run_events}
use Rattle.arj_law_parts.specs.steps.Writes.{node_refusal}
use Rattle.arj_law_serial.proofs.joint.Clean.{clean_of, decides_in, held_in, lock_tied, reached_both}
use Rattle.arj_law_serial.proofs.joint.FitRuns.{runs_in_form}
use Rattle.arj_law_serial.proofs.joint.Starting.{start_stays}
use Rattle.arj_law_serial.specs.order.Cleaned.{IsCleanIn}
use Rattle.arj_journal.specs.ScriptForm.{EventInForm}
use Rattle.arj_model.specs.Actions.{Act, act_in, acts}
use Rattle.arj_model.specs.CauseNodes.{is_state, shows_object}
use Rattle.arj_model.specs.CauseSpans.{Here, behind, here_at}
use Rattle.arj_model.specs.Caused.{has_cause}
use Rattle.arj_model.specs.Follows.{AreEnding, Runs, is_ending}
use Rattle.arj_model.specs.Last.{entry_from, is_among, last_from, listed, object_line, same_list, servers_of_line}
use Rattle.arj_model.specs.Refusals.{is_down}
use Rattle.arj_model.specs.Own.{AreAborted, AreGiveUps, Ends, aborted_of, commit_line}
use Rattle.arj_model.specs.Past.{Along, Past, at_start, block, next}
use Rattle.arj_promise.specs.Runs.{AreMovesInForm, AreStopsInForm, FirstsAreHeld, HeaderFits, IsInForm, IsStoppedInForm, Run, journal_by}
use Rattle.arj_promise.specs.Runs.{most_events}
use Rattle.arj_promise.specs.Starts.{IsFormed}
use Rattle.arj_text.specs.Label.{name}
use Rattle.std.proofs.Math.Seq.{take-append_seam}
use Rattle.arj_law_cause.proofs.follow.lines.Events as events
use Rattle.arj_law_cause.proofs.follow.lines.{Saying.list_both, Showing.shows_all}
use Rattle.arj_law_cause.proofs.kinds.Held.{AreUpLines, IsHeldCopy, IsHeldEntry, IsHeldLine, IsUpLine, ShowsHeld, held_all}
use Rattle.arj_law_cause.specs.follow.lines.Lines.{BeginsCommitSo, BeginsSo, HasLines, LinesStep, is_show, may_stand_or_lose}
use Rattle.arj_law_cause.specs.kinds.Kinds.{is_copy_shown, is_entry_shown}
use Rattle.arj_law_cause.proofs.kinds.Stored.{AreLasting, lasting_of}
use Rattle.arj_law_cause.specs.kinds.Rows.{RowHolds, RowStep, row}

-- ---- other events

-- the line shows nothing that is held
abbrev pub is_other : Body → Bool
is_other (body.Entry x v servers stores) = false
is_other (body.Copy n x v u payload) = false
is_other b = true

abbrev AreOther : List Body → Type 0
AreOther bs = list_all is_other bs ≡ true

own_commit : (l : Label) (o : Option Act) (own : List Body) → BeginsCommitSo l o own → AreOther own
own_commit l None own is = absurd is
own_commit l (Some a) own (inl is) = ap (list_all is_other) is ∙ by a.kind
  where
    by : (k : Kind) → AreOther (commit_line k l ∷ [])
    by kind.Nested = refl
    by kind.Serial = refl
    by kind.Top = refl
    by kind.Independent = refl
    by kind.Constituent = refl
own_commit l (Some a) own (inr is) = ap (list_all is_other) is

own_aborts : (gone : List Act) (own : List Body) → AreAborted gone own → AreOther own
own_aborts [] [] are = refl
own_aborts (a ∷ gone) (body.Aborted l cause.Asked ∷ own) are = own_aborts gone own are.1
own_aborts gone own are = absurd are

own_giveups : (l : Label) (own : List Body) → AreGiveUps l own → AreOther own
own_giveups l (body.GaveUp m n ∷ []) are = refl
own_giveups l (body.GaveUp m n ∷ body.GaveUp k i ∷ own) are = own_giveups l (body.GaveUp k i ∷ own) are.2
own_giveups l own are = absurd are

own_other : (hd : Header) (p : Past) (e : Event) (own : List Body) → is_show e ≡ false → BeginsSo hd p e own → AreOther own
own_other hd p (event.Begin l n) own off is = ap (list_all is_other) is
own_other hd p (event.Serial l n) own off is = ap (list_all is_other) is
own_other hd p (event.BeginIn l q) own off is = ap (list_all is_other) is.2
own_other hd p (event.Top l q) own off is = ap (list_all is_other) is.2
own_other hd p (event.Call l x o) own off is = ap (list_all is_other) is
own_other hd p (event.Include l x n) own off is = ap (list_all is_other) is
own_other hd p (event.Commit l) own off is = own_commit l (act_in (acts p.lines) (name l)) own is
own_other hd p (event.Abort l) own off is = own_aborts (aborted_of p.lines (act_in (acts p.lines) (name l))) own is
own_other hd p (event.GiveUp l) own off is = own_giveups l own is
own_other hd p (event.Deliver k) own off is = ⊎_elim {C = AreOther own} (ap (list_all is_other)) (ap (list_all is_other)) is
own_other hd p (event.Lose k) own off is = ap (list_all is_other) is
own_other hd p (event.Tick n) own off is = ap (list_all is_other) is
own_other hd p event.Settle own off is = ap (list_all is_other) is
own_other hd p event.Quiesce own off is = ap (list_all is_other) is
own_other hd p (event.Crash n) own off is = ap (list_all is_other) is
own_other hd p (event.Restart n) own off is = ⊎_elim {C = AreOther own} (λ up. ap (list_all is_other) up.2) (ap (list_all is_other)) is
own_other hd p (event.Stop n c how) own off is = ap (list_all is_other) is
own_other hd p (event.Junk n bytes) own off is = ⊎_elim {C = AreOther own} (ap (list_all is_other)) (ap (list_all is_other)) is
own_other hd p (event.Show x) own off is = absurd (cc off)

no_entry : (e : Event) (x v : ℕ) (servers stores : List ℕ) → is_show e ≡ false →
    may_stand_or_lose e (body.Entry x v servers stores) ≡ true → ⊥
no_entry (event.Show y) x v servers stores off is = cc off
no_entry e x v servers stores off is = cc is

no_copy : (e : Event) (n x v : ℕ) (u : Uid) (payload : List ℕ) → is_show e ≡ false →
    may_stand_or_lose e (body.Copy n x v u payload) ≡ true → ⊥
no_copy (event.Show y) n x v u payload off is = cc off
no_copy e n x v u payload off is = cc is

may_other : (e : Event) (b : Body) → is_show e ≡ false → may_stand_or_lose e b ≡ true → is_other b ≡ true
may_other e (body.Entry x v servers stores) off is = absurd (no_entry e x v servers stores off is)
may_other e (body.Copy n x v u payload) off is = absurd (no_copy e n x v u payload off is)
may_other e b off is = refl

each_other : (e : Event) (bs : List Body) → is_show e ≡ false → list_all (may_stand_or_lose e) bs ≡ true → AreOther bs
each_other e [] off all = refl
each_other e (b ∷ bs) off all =
    let q = and_parts (may_stand_or_lose e b) (list_all (may_stand_or_lose e) bs) all in
    λ i. may_other e b off q.0 i && each_other e bs off q.1 i

last_other : (e : Event) (own last : List Body) → Ends e own last → AreOther last
last_other event.Quiesce own last is = ⊎_elim {C = AreOther last} (λ quiet. ap (list_all is_other) quiet.1) (ap (list_all is_other)) is
last_other (event.Junk n bytes) [] last is = ap (list_all is_other) is
last_other (event.Call l x o) own last is = ⊎_elim {C = AreOther last} (ap (list_all is_other)) (ap (list_all is_other)) is
last_other (event.Include l x n) own last is = ⊎_elim {C = AreOther last} (ap (list_all is_other)) (ap (list_all is_other)) is
last_other (event.Commit l) own last is = ⊎_elim {C = AreOther last} (ap (list_all is_other)) (ap (list_all is_other)) is
last_other (event.Abort l) own last is = ⊎_elim {C = AreOther last} (ap (list_all is_other)) (ap (list_all is_other)) is
last_other (event.GiveUp l) own last is = ⊎_elim {C = AreOther last} (ap (list_all is_other)) (ap (list_all is_other)) is
last_other (event.Deliver k) own last is = ⊎_elim {C = AreOther last} (ap (list_all is_other)) (ap (list_all is_other)) is
last_other (event.Tick n) own last is = ⊎_elim {C = AreOther last} (ap (list_all is_other)) (ap (list_all is_other)) is
last_other event.Settle own last is = ⊎_elim {C = AreOther last} (ap (list_all is_other)) (ap (list_all is_other)) is
last_other (event.Restart n) own last is = ⊎_elim {C = AreOther last} (ap (list_all is_other)) (ap (list_all is_other)) is
last_other (event.Junk n bytes) (b ∷ own) last is = ap (list_all is_other) is
last_other e own last is = ap (list_all is_other) is

lines_other : (hd : Header) (p : Past) (e : Event) (bodies : List Body) → is_show e ≡ false → HasLines hd p e bodies → AreOther bodies
lines_other hd p e bodies off l = ap (list_all is_other) l.parts
    ∙ list_both is_other l.own (l.others ++ l.last) (own_other hd p e l.own off l.begins)
    (list_both is_other l.others l.last (each_other e l.others off l.only) (last_other e l.own l.last l.ends))

-- such lines pass any test of shown ones
none_so : (of : Body → Bool) → ((b : Body) → is_other b ≡ true → of b ≡ false) → (h : Here) (bs : List Body) →
    AreOther bs → are_so (row (λ g. of)) h bs ≡ true
none_so of off h [] all = refl
none_so of off h (b ∷ bs) all =
    let q = and_parts (is_other b) (list_all is_other bs) all in
    λ i. (not (off b q.0 i) || has_cause h b) && none_so of off (behind h b) bs q.1 i

no_entry_of : (b : Body) → is_other b ≡ true → is_entry_shown b ≡ false
no_entry_of (body.Entry x v servers stores) is = absurd (cc is)
no_entry_of b is = refl

no_copy_of : (b : Body) → is_other b ≡ true → is_copy_shown b ≡ false
no_copy_of (body.Copy n x v u payload) is = absurd (cc is)
no_copy_of b is = refl

-- ---- a show

list_same : (ns : List ℕ) → same_list ns ns ≡ true
list_same [] = refl
list_same (n ∷ ns) = λ i. same_number n i && list_same ns i

some_is : {A : Type 0} {a b : A} → Some a ≡ Some b → a ≡ b
some_is {A} {a} {b} is = let k : ◌≡◌ {A = Option A} (Some a) (Some b) = is in cc k

-- the row of an entry, and of a copy, in the parts of the place where it stands
abbrev EntrySo : Header → Start → Event → List Line → ℕ → ℕ → List ℕ → List ℕ → Bool
EntrySo hd st e before x v servers stores =
    shows_object x e && (((entry_from hd st.marks before x).version == v)
    && (same_list (servers_of_line (object_line hd x)) servers && same_list (listed hd before x) stores))

abbrev CopySo : Header → Start → Event → List Line → List Line → ℕ → ℕ → ℕ → Uid → List ℕ → Bool
CopySo hd st e before lines n x v u payload = shows_object x e && (not (is_down st lines n) && (not (is_among (listed hd before x) n)
    || is_state v u payload (last_from hd st.marks before x)))

-- where nodes stand at their places and files are clean
module _ (hd : Header) (w t : World) (x e : ℕ) (places : (n : ℕ) (m : Node) → at_place n w.nodes ≡ Some m → m.number ≡ n)
    (nodes : t.nodes ≡ w.nodes) (clean : IsCleanIn hd w.lines x (see [] w)) (lasting : AreLasting hd w.lines x (see [] w)) where
  abbrev Entry_now : ObjectState
  Entry_now = entry_from hd w.start.marks w.lines x

  abbrev Last_now : ObjectState
  Last_now = last_from hd w.start.marks w.lines x

  in_world : (k : ℕ) (m : Node) → at_place k t.nodes ≡ Some m → at_place k w.nodes ≡ Some m
  in_world k m there = ap (at_place k) (sym nodes) ∙ there

  -- node 1, where it shows an entry
  first_at : (y v : ℕ) (servers stores : List ℕ) (h : IsHeldEntry x t y v servers stores) → at_place 1 w.nodes ≡ Some h.node
  first_at y v servers stores h =
      subst (λ k. at_place k w.nodes ≡ Some h.node) (sym (places h.at h.node (in_world h.at h.node h.there)) ∙ eqb-true h.node.number 1 h.first)
      (in_world h.at h.node h.there)

  entry_held : (y v : ℕ) (servers stores : List ℕ) → IsHeldEntry x t y v servers stores →
      EntrySo hd w.start (event.Show x) w.lines y v servers stores ≡ true
  entry_held y v servers stores h =
      (λ i. EntrySo hd w.start (event.Show x) w.lines (h.shows i) (h.version i) (h.servers_are i) (h.stores_are i))
      ∙ ap (λ (z : ObjectState). EntrySo hd w.start (event.Show x) w.lines x z.version (state_entry z).servers (state_entry z).stores) is
      ∙ (λ i. same_number x i && (same_number (let z = Entry_now in z.version) i && (servers_so i && stores_so i)))
    where
      is : h.state ≡ Entry_now
      is = some_is (sym h.held ∙ clean.names h.node (first_at y v servers stores h) h.free)

      lists : state_entry Entry_now ≡ record { servers = servers_of_line (object_line hd x); stores = listed hd w.lines x }
      lists = entry_back (record { servers = servers_of_line (object_line hd x); stores = listed hd w.lines x })

      servers_so : same_list (servers_of_line (object_line hd x)) (state_entry Entry_now).servers ≡ true
      servers_so = (λ i. same_list (servers_of_line (object_line hd x)) (let e = lists i in e.servers))
          ∙ list_same (servers_of_line (object_line hd x))

      stores_so : same_list (listed hd w.lines x) (state_entry Entry_now).stores ≡ true
      stores_so = (λ i. same_list (listed hd w.lines x) (let e = lists i in e.stores)) ∙ list_same (listed hd w.lines x)

  copy_held : (ms : List Line) → (n y v : ℕ) (u : Uid) (payload : List ℕ) → IsHeldCopy x t n y v u payload →
      is_down w.start (w.lines ++ ms) n ≡ false → CopySo hd w.start (event.Show x) w.lines (w.lines ++ ms) n y v u payload ≡ true
  copy_held ms n y v u payload h up =
      (λ i. CopySo hd w.start (event.Show x) w.lines (w.lines ++ ms) n (h.shows i) (h.version i) (h.writer i) (h.content i))
      ∙ (λ i. same_number x i && (not (up i) && listed_so (is_among (listed hd w.lines x) n) refl i))
    where
      at : n ≡ h.at
      at = h.number ∙ places h.at h.node (in_world h.at h.node h.there)

      Same : Bool
      Same = is_state h.state.version h.state.writer h.state.payload Last_now

      same : is_among (listed hd w.lines x) n ≡ true → Same ≡ true
      same on =
          let is : h.state ≡ Last_now = some_is (sym h.held ∙ lasting h.node h.at (in_world h.at h.node h.there)
          (subst (λ k. is_among (listed hd w.lines x) k ≡ true) at on) h.free) in
          ap (λ (z : ObjectState). is_state z.version z.writer z.payload Last_now) is
          ∙ (λ i. same_number (let z = Last_now in z.version) i && (uid_same (let z = Last_now in z.writer) i
          && list_same (let z = Last_now in z.payload) i))

      listed_so : (b : Bool) → is_among (listed hd w.lines x) n ≡ b → (not b || Same) ≡ true
      listed_so true on = same on
      listed_so false off = refl

  -- where a line comes behind these lines of the event
  pub record IsHere (h : Here) (ms : List Line) : Type 0 where
    pub header : h.header ≡ hd
    pub start : h.start ≡ w.start
    pub event : h.event ≡ event.Show x
    pub first : h.first ≡ length w.lines
    pub lines : h.lines ≡ w.lines ++ ms
    pub number : h.number ≡ e

  before_is : (h : Here) (ms : List Line) → IsHere h ms → take h.first h.lines ≡ w.lines
  before_is h ms is = (λ i. take (is.first i) (is.lines i)) ∙ take-append_seam w.lines ms

  entry_at : (h : Here) (ms : List Line) → IsHere h ms → (b : Body) → IsHeldLine x t b → row (λ g. is_entry_shown) h b ≡ true
  entry_at h ms is (body.Entry y v servers stores) held =
      (λ i. EntrySo (is.header i) (is.start i) (is.event i) (before_is h ms is i) y v servers stores) ∙ entry_held y v servers stores held
  entry_at h ms is b held = refl

  copy_at : (h : Here) (ms : List Line) → IsHere h ms → (b : Body) → IsHeldLine x t b → IsUpLine w.start (w.lines ++ ms) b →
      row (λ g. is_copy_shown) h b ≡ true
  copy_at h ms is (body.Copy n y v u payload) held up =
      (λ i. CopySo (is.header i) (is.start i) (is.event i) (before_is h ms is i) (is.lines i) n y v u payload)
      ∙ copy_held ms n y v u payload held up
  copy_at h ms is b held up = refl

  further : (h : Here) (ms : List Line) (b : Body) → IsHere h ms → IsHere (behind h b) (ms ++ record { event = h.number; body = b } ∷ [])
  further h ms b is = record {
    header = is.header;
    start = is.start;
    event = is.event;
    first = is.first;
    lines = (λ i. is.lines i ++ record { event = h.number; body = b } ∷ []) ∙ append_assoc w.lines ms
        (record { event = h.number; body = b } ∷ []);
    number = is.number;
  }

  pub shown_so : (h : Here) (ms : List Line) (bs : List Body) → IsHere h ms → AllByRecursion (IsHeldLine x t) bs →
      AreUpLines w.start e (w.lines ++ ms) bs →
      (are_so (row (λ g. is_entry_shown)) h bs ≡ true) × (are_so (row (λ g. is_copy_shown)) h bs ≡ true)
  shown_so h ms [] is held ups = (refl, refl)
  shown_so h ms (b ∷ bs) is held ups =
      let l : Line = record { event = h.number; body = b } in
      let r = shown_so (behind h b) (ms ++ l ∷ []) bs (further h ms b is) held.1
      (subst (λ ls. AreUpLines w.start e ls bs) ((λ i. (w.lines ++ ms) ++ numbered (sym is.number i) (b ∷ []))
      ∙ append_assoc w.lines ms (l ∷ [])) ups.1) in (
        (λ i. entry_at h ms is b held.0 i && r.0 i),
        (λ i. copy_at h ms is b held.0 ups.0 i && r.1 i),
      )

-- an object with a class has its line
has_line : (hd : Header) (x : ℕ) → is_some (class_at x hd) ≡ true → is_some (object_line hd x) ≡ true
has_line hd x = by (object_line hd x)
  where
    by : (o : Option Words.ObjectLine) → is_some (class_in o) ≡ true → is_some o ≡ true
    by None is = absurd (cc is)
    by (Some l) is = refl

-- ---- event by event

-- behind one more move
all_more : (ms : List Move) (m : Move) (w : World) → all_moved (ms ++ m ∷ []) w ≡ moved m (all_moved ms w)
all_more [] m w = refl
all_more (k ∷ ms) m w = all_more ms m (moved k w)

long_more : (ms : List Move) (m : Move) → length (ms ++ m ∷ []) ≡ length ms + 1
long_more [] m = refl
long_more (k ∷ ms) m = ap suc (long_more ms m) ∙ by (length ms)
  where
    by : (n : ℕ) → suc (n + 1) ≡ suc n + 1
    by n = omega arith

-- files are clean after each run
clean_after : (hd : Header) (r : Run hd) → IsInForm hd r → (x : ℕ) → is_some (object_line hd x) ≡ true →
    IsCleanIn hd (journal_by hd r) x (see [] (world_by hd r)) × AreLasting hd (journal_by hd r) x (see [] (world_by hd r))
clean_after hd r form x there =
    let h = runs_in_form hd r form in
    let w = world_by hd r in
    let keeping = (let k = h.0 in k.keeping) in
    let joined = reached_both hd form.header w h.0 h.1 in
    let tied = lock_tied hd w keeping joined in
    let held = held_in hd w keeping joined in
    let decide = decides_in hd w keeping joined in
    (clean_of hd w keeping form.header tied held decide x there, lasting_of hd w keeping form.header tied held decide x there)

-- What a line shows was held behind some run in form, of an object of the header.
pub record WasHeld (hd : Header) (b : Body) : Type 0 where
  pub run : Run hd
  pub form : IsInForm hd run
  pub x : ℕ
  pub there : is_some (object_line hd x) ≡ true
  pub world : World
  pub nodes : world.nodes ≡ (let w = world_by hd run in w.nodes)
  pub held : IsHeldLine x world b

-- or it shows nothing
abbrev pub ShowsHeldLine : Header → Body → Type 0
ShowsHeldLine hd b = (is_other b ≡ true) ⊎ WasHeld hd b

module _ (hd : Header) (form : HeaderFits hd) (st : Start) (formed : IsFormed hd st) (firsts : FirstsAreHeld hd st.marks) where
  -- an event and its stops are in form
  abbrev Form : Move → Type 0
  Form m = EventInForm (event_of m) × IsStoppedInForm m

  -- A run up to an event, and the moves that led there.
  record Stands (p : Past) (w : World) : Type 0 where
    pub turned : events.Turned hd form p w
    pub front : List Move
    pub world : w ≡ all_moved front (world_from hd st)
    pub events_form : AreMovesInForm front
    pub stops_form : AreStopsInForm front
    pub long : length front ≡ p.count

  abbrev run_to : (p : Past) (w : World) → Stands p w → Run hd
  run_to p w s = record { start = st; formed = formed; moves = s.front }

  form_now : (p : Past) (w : World) (s : Stands p w) → p.count ≤ most_events → IsInForm hd (run_to p w s)
  form_now p w s few = record {
    header = form;
    held = firsts;
    events = s.events_form;
    few = subst (λ n. n ≤ most_events) (sym s.long) few;
    stops = s.stops_form;
  }

  clean_now : (p : Past) (w : World) (s : Stands p w) → p.count ≤ most_events → (x : ℕ) → is_some (object_line hd x) ≡ true →
      IsCleanIn hd w.lines x (see [] w) × AreLasting hd w.lines x (see [] w)
  clean_now p w s few x there = subst (λ (v : World). IsCleanIn hd v.lines x (see [] v) × AreLasting hd v.lines x (see [] v)) (sym s.world)
      (clean_after hd (run_to p w s) (form_now p w s few) x there)

  start_now : (p : Past) (w : World) (s : Stands p w) → w.start ≡ st
  start_now p w s = ap (λ (v : World). v.start) s.world ∙ start_stays hd (run_to p w s)

  -- both rows, in runs of few events, and what is shown was held
  abbrev Both : Past → Event → List Body → Type 0
  Both p e bodies = p.count ≤ most_events →
      (RowStep (λ h. is_entry_shown) hd p e bodies × RowStep (λ h. is_copy_shown) hd p e bodies) × AllByRecursion (ShowsHeldLine hd) bodies

  module _ (m : Move) (p : Past) (w : World) (s : Stands p w) (on : w.over ≡ false) where
    abbrev t : World
    t = counted (record w { arms = m.falls })

    abbrev arm : Arm
    arm = let a = m.asked in a.arm

    base : frames.Stands hd form p w
    base = let z = s.turned in z.base.base.base

    free : w.over ≡ false → w.full ≡ false
    free = let z = s.turned in z.base.base.full

    start : p.start ≡ w.start
    start = let z = s.turned in z.base.base.start

    other_both : (e : Event) (bodies : List Body) → AreOther bodies → Both p e bodies
    other_both e bodies other few = (
      (
        none_so is_entry_shown no_entry_of (here_at hd p e bodies) bodies other,
        none_so is_copy_shown no_copy_of (here_at hd p e bodies) bodies other,
      ),
      each bodies other,
    )
      where
        each : (bs : List Body) → AreOther bs → AllByRecursion (ShowsHeldLine hd) bs
        each [] are = tt
        each (b ∷ bs) are = let q = and_parts (is_other b) (list_all is_other bs) are in (inl q.0, each bs q.1)

    -- an object that is shown is there
    object_there : (x : ℕ) → refused_by_any (event.Show x) t ≡ None → is_some (object_line hd x) ≡ true
    object_there x none = ap (λ h. is_some (object_line h x)) (sym base.is) ∙ has_line t.header x (by (is_some (class_at x t.header)) refl none)
      where
        by : (b : Bool) → is_some (class_at x t.header) ≡ b →
            joined (first_reason ((13, not b) ∷ [])) (node_refusal (event.Show x) t) ≡ None → is_some (class_at x t.header) ≡ true
        by true is none = is
        by false is none = let no_way : ◌≡◌ {A = Option ℕ} (Some 13) None = none in absurd (cc no_way)

    show_both : (x : ℕ) (bodies : List Body) → refused_by_any (event.Show x) t ≡ None →
        w.lines ++ block t.event bodies ≡ (limited (show_all x (node_numbers t) t)).lines → Both p (event.Show x) bodies
    show_both x bodies none lines few =
        let c = clean_now p w s few x (object_there x none) in (
          shown_so hd w t x t.event places refl c.0 c.1
              (here_at hd p (event.Show x) bodies) [] bodies (record {
                header = refl;
                start = start;
                event = refl;
                first = ap length base.lines;
                lines = base.lines ∙ sym (append-nil w.lines);
                number = λ i. base.count i + 1;
              }) (subst (AllByRecursion (IsHeldLine x t)) (sym are) held.has)
              (subst (λ ls. AreUpLines w.start t.event ls bodies) (sym (append-nil w.lines))
              (subst (AreUpLines w.start t.event w.lines) (sym are) held.ups)),
          each bodies (subst (AllByRecursion (IsHeldLine x t)) (sym are) held.has),
        )
      where
        each : (bs : List Body) → AllByRecursion (IsHeldLine x t) bs → AllByRecursion (ShowsHeldLine hd) bs
        each [] all = tt
        each (b ∷ bs) all = (
          inr (record {
            run = run_to p w s;
            form = form_now p w s few;
            x = x;
            there = object_there x none;
            world = t;
            nodes = ap (λ (v : World). v.nodes) s.world;
            held = all.0;
          }),
          each bs all.1,
        )

        places : (n : ℕ) (q : Node) → at_place n w.nodes ≡ Some q → q.number ≡ n
        places n q there = (let b = base.placed in b.nodes n q there).1

        live : (j : ℕ) (q : Node) → at_place j w.nodes ≡ Some q → is_some q.live ≡ true → is_down w.start w.lines j ≡ false
        live j q there up = (λ i. is_down (sym start i) (sym base.lines i) j) ∙ (let z = base.tells in z.ups j q there) ∙ ap not up

        v : World
        v = show_all x (node_numbers t) t

        held : ShowsHeld w.start x t v
        held = held_all w.start x t places live (node_numbers t)

        whole : limited v ≡ v
        whole = let r = shows_all x (node_numbers t) t base.few in
            λ i. cond ((r.full ∙ free on) i) (says (body.Limit which.Frames ∷ []) (record v { over = true })) v

        are : bodies ≡ held.added
        are = same_bodies t.event bodies held.added w.lines (lines ∙ ap (λ (y : World). y.lines) whole ∙ held.lines)

    its_both : (e : Event) (bodies : List Body) → LinesStep hd p e bodies → Came e arm t bodies → Both p e bodies
    its_both e bodies step came = by e (show_or e) step came
      where
        show_or : (e : Event) → (is_show e ≡ false) ⊎ ((x : ℕ) × (e ≡ event.Show x))
        show_or (event.Show x) = inr (x, refl)
        show_or e = inl refl

        by : (e : Event) → (is_show e ≡ false) ⊎ ((x : ℕ) × (e ≡ event.Show x)) → LinesStep hd p e bodies → Came e arm t bodies →
            Both p e bodies
        by e (inl off) step (IsRefused c refused is) = other_both e bodies (ap (list_all is_other) is)
        by e (inl off) step (IsRun granted isnt lines) = other_both e bodies (lines_other hd p e bodies off (step.lines isnt))
        by e (inr s) step (IsRefused c refused is) = other_both e bodies (ap (list_all is_other) is)
        by e (inr s) step (IsRun granted isnt lines) = subst (λ z. Both p z bodies) (sym s.1) (show_both s.0 bodies
            (subst (λ z. refused_by_any z t ≡ None) s.1 granted) (subst (λ z. w.lines ++ block t.event bodies
            ≡ (limited (happens z arm t)).lines) s.1 lines))

    goes : Form m → Outcome Both Stands m p w
    goes its = by (events.goes hd form m p w its.1 s.turned on)
      where
        by : Outcome (LinesStep hd) (events.Turned hd form) m p w → Outcome Both Stands m p w
        by (Ended over event lines) = Ended over event lines
        by (Went bodies step after) =
            let z = s.turned in
            let came = (refusing.goes_with hd form m p w its.1 z.base.base on bodies (let b = after.base in b.base.base)).0 in
            Went bodies (its_both (event_of m) bodies step came) (record {
              turned = after;
              front = s.front ++ m ∷ [];
              world = ap (moved m) s.world ∙ sym (all_more s.front m (world_from hd st));
              events_form = all_append (λ (k : Move). EventInForm (event_of k)) s.front (m ∷ []) s.events_form (its.0, tt);
              stops_form = all_append IsStoppedInForm s.front (m ∷ []) s.stops_form (its.1, tt);
              long = long_more s.front m ∙ ap (λ n. n + 1) s.long;
            })

  first_so : Stands (at_start st) (world_from hd st)
  first_so = record {
    turned = events.first_turned hd form st formed;
    front = [];
    world = refl;
    events_form = tt;
    stops_form = tt;
    long = refl;
  }

-- ---- runs

few_along : (A B : Past → Event → List Body → Type 0) (top : ℕ) → ((p : Past) (e : Event) (bodies : List Body) → p.count ≤ top →
    A p e bodies → B p e bodies) → (es : List Event) (p end : Past) → p.count + length es ≤ top → Along A p es end → Along B p es end
few_along A B top to [] p end few a = a
few_along A B top to (e ∷ es) p end few a = (
  a.0,
  to p e a.0 (here p.count (length es) few) a.1,
  few_along A B top to es (next p e a.0) end (rest p.count (length es) few) a.2,
)
  where
    here : (a n : ℕ) → a + suc n ≤ top → a ≤ top
    here a n few = omega (arith, few)

    rest : (a n : ℕ) → a + suc n ≤ top → (a + 1) + n ≤ top
    rest a n few = omega (arith, few)

take_short : {A : Type 0} (n : ℕ) (xs : List A) → length (take n xs) ≤ length xs
take_short zero xs = by xs
  where
    by : {A : Type 0} (xs : List A) → length (take 0 xs) ≤ length xs
    by [] = omega arith
    by (x ∷ xs) = omega arith
take_short (suc n) [] = omega arith
take_short (suc n) (x ∷ xs) = let ih = take_short n xs in omega (arith, ih)

forms_of : (ms : List Move) → AreMovesInForm ms → AreStopsInForm ms → AllByRecursion (λ (m : Move). EventInForm (event_of m)
    × IsStoppedInForm m) ms
forms_of [] a b = tt
forms_of (m ∷ ms) a b = ((a.0, b.0), forms_of ms a.1 b.1)

both_run : (hd : Header) (r : Run hd) (form : IsInForm hd r) →
    Runs (Both hd form.header r.start r.formed form.held) r.start (run_events hd r) (journal_by hd r)
both_run hd r form =
    runs_along (Both hd form.header r.start r.formed form.held) (Stands hd form.header r.start r.formed form.held)
    (Form hd form.header r.start r.formed form.held)
    (λ p w s. let z = s.turned in z.base.base.base.lines) (λ p w s. let z = s.turned in z.base.base.base.count)
    (λ m p w its s on. goes hd form.header r.start r.formed form.held m p w s on its) r.start r.moves (world_from hd r.start)
    (forms_of r.moves form.events form.stops) (first_so hd form.header r.start r.formed form.held)

-- what holds in runs of few events holds in each run in form
few_run : (hd : Header) (r : Run hd) (form : IsInForm hd r) (A B : Past → Event → List Body → Type 0) →
    ((p : Past) (e : Event) (bodies : List Body) → p.count ≤ most_events → A p e bodies → B p e bodies) →
    Runs A r.start (run_events hd r) (journal_by hd r) → Runs B r.start (run_events hd r) (journal_by hd r)
few_run hd r form A B to runs = (
  runs.0,
  runs.1,
  few_along A B most_events to (run_events hd r) (at_start r.start) runs.0 (short most_events (length (run_events hd r)) (length r.moves)
      (subst (λ n. length (run_events hd r) ≤ n) (Words.length-map r.moves event_of)
      (take_short (let w = world_by hd r in w.event) (map event_of r.moves)))
      form.few) runs.2,
  runs.3,
  runs.4,
)
  where
    short : (top n k : ℕ) → n ≤ k → k ≤ top → 0 + n ≤ top
    short top n k a b = omega (arith, a, b)

pub entry_row : RowHolds is_entry_shown
entry_row hd r form = few_run hd r form (Both hd form.header r.start r.formed form.held) (RowStep (λ h. is_entry_shown) hd)
    (λ p e bodies few both. (both few).0.0) (both_run hd r form)

pub copy_row : RowHolds is_copy_shown
copy_row hd r form = few_run hd r form (Both hd form.header r.start r.formed form.held) (RowStep (λ h. is_copy_shown) hd)
    (λ p e bodies few both. (both few).0.1) (both_run hd r form)

-- ---- lines

abbrev AllShow : Header → List Line → Type 0
AllShow hd lines = AllByRecursion (λ (l : Line). ShowsHeldLine hd l.body) lines

block_shows : (hd : Header) (n : ℕ) (bs : List Body) → AllByRecursion (ShowsHeldLine hd) bs → AllShow hd (block n bs)
block_shows hd n [] all = tt
block_shows hd n (b ∷ bs) all = (all.0, block_shows hd n bs all.1)

along_shows : (hd : Header) (es : List Event) (p end : Past) → Along (λ q e bodies. AllByRecursion (ShowsHeldLine hd) bodies) p es end →
    AllShow hd p.lines → AllShow hd end.lines
along_shows hd [] p end a so = subst (λ (q : Past). AllShow hd q.lines) a so
along_shows hd (e ∷ es) p end a so = along_shows hd es (next p e a.0) end a.2
    (all_append (λ (l : Line). ShowsHeldLine hd l.body) p.lines (block (p.count + 1) a.0) so (block_shows hd (p.count + 1) a.0 a.1))

ending_shows : (hd : Header) (n : ℕ) (ending : List Line) → AreEnding n ending → AllShow hd ending
ending_shows hd n [] are = tt
ending_shows hd n (l ∷ []) are = (inl (one l.body are.1), tt)
  where
    one : (b : Body) → is_ending b ≡ true → is_other b ≡ true
    one (body.Entry x v servers stores) is = absurd (cc is)
    one (body.Copy n x v u payload) is = absurd (cc is)
    one b is = refl
ending_shows hd n (l ∷ m ∷ rest) are = absurd are

-- each line of a run that shows something shows what was held
pub runs_show_held : (hd : Header) (r : Run hd) → IsInForm hd r → AllShow hd (journal_by hd r)
runs_show_held hd r form =
    let q = few_run hd r form (Both hd form.header r.start r.formed form.held) (λ p e bodies. AllByRecursion (ShowsHeldLine hd) bodies)
    (λ p e bodies few both. (both few).1) (both_run hd r form) in
    subst (AllShow hd) (sym q.3) (all_append (λ (l : Line). ShowsHeldLine hd l.body) (let p = q.0 in p.lines) q.1
    (along_shows hd (run_events hd r) (at_start r.start) q.0 q.2 tt) (ending_shows hd (length (run_events hd r)) q.1 q.4))
