-- One line more of a run.
use Rattle.std.proofs.Common.{◌≡◌, inl, inr, ℕ, ◌+◌, ◌<◌, ◌⊎◌, List, [], ◌∷◌, ◌++◌, length, length-append, Bool, true, false, Option, Some}
use Rattle.std.proofs.Common.{None, Result, Ok, Err, OnOk, IsOk, refl, sym, ◌∙◌, ap, subst, arith}
use Rattle.std.proofs.Math.Logic.{⊎_elim}
use Rattle.std.proofs.lemmas.List.{append-nil}
use Rattle.arj_journal.specs.ScriptForm.{EventInForm}
use Rattle.arj_journal.specs.declared.body.Line.{Line}
use Rattle.arj_journal.specs.declared.event.Event.{Event}
use Rattle.arj_journal.specs.declared.header.Header.{Header}
use Rattle.arj_script.specs.declared.reader.Item.{Item}
use Rattle.arj_script.specs.declared.reader.Item.TheVariants as item
use Rattle.arj_script.specs.Grammar.{Asks, Blank, Form, FormatOne, HasForm, Nodes, Object, Objects, Place, Run, Running, Start, begun, next_place}
use Rattle.arj_script.specs.Input.{events_of, Tells}
use Rattle.arj_script.proofs.Lines.{events_of-append}
use Rattle.arj_loop.specs.declared.machine.Machine.{Ghosts}
use Rattle.arj_loop.specs.Forms.{HaveForms}
use Rattle.arj_loop.specs.Input.{header_from}
use Rattle.arj_loop.specs.Running.{MachineRuns, Stage, Started, Stepped, Refused, IsStanding, AsksTooMany, AskedOf, ChangedBy, ChangedSince}
use Rattle.arj_loop.specs.Running.{HasRun, hand, header_at, held_by, overflown}
use Rattle.arj_loop.proofs.Steps.{events_within, have_forms_more, header_stays, header_then}

-- the reader's answer
abbrev pub Taken : Place → List ℕ → Item → Place → Type 0
Taken place line i after = (form : Form) × HasForm place line form × Tells place form i × (after ≡ next_place place form)

-- A form that is no event and no end of the header.
record IsQuiet (place : Place) (form : Form) : Type 0 where
  events : events_of (form ∷ []) ≡ []
  header : header_from place (form ∷ []) ≡ None
  running : place ≡ Running → next_place place form ≡ Running
  waiting : (place ≡ Running → ⊥) → next_place place form ≡ Running → ⊥

quiet_blank : (place : Place) → IsQuiet place Blank
quiet_blank Start = record { events = refl; header = refl; running = λ e. e; waiting = λ no e. no e }
quiet_blank (Objects g) = record { events = refl; header = refl; running = λ e. e; waiting = λ no e. no e }
quiet_blank Running = record { events = refl; header = refl; running = λ e. e; waiting = λ no e. no e }

not_objects : (g : Header) → Objects g ≡ Running → ⊥
not_objects g e = cc

quiet_of : (place : Place) (line : List ℕ) (form : Form) → HasForm place line form →
    Tells place form item.Blank ⊎ Tells place form item.Part → IsQuiet place form
quiet_of place line Blank h told = quiet_blank place
quiet_of Start line (Nodes n) h told =
    record {
      events = refl;
      header = refl;
      running = λ e. absurd (let never : Start ≡ Running = e in cc);
      waiting =
          λ no e. not_objects (begun n) e;
    }
quiet_of (Objects g) line (Nodes m) h told = absurd h.fits
quiet_of Running line (Nodes m) h told = absurd h.fits
quiet_of Start line FormatOne h told = absurd h.fits
quiet_of (Objects g) line FormatOne h told =
    record { events = refl; header = refl; running = λ e. absurd (not_objects g e); waiting = λ no e. not_objects _ e }
quiet_of Running line FormatOne h told = absurd h.fits
quiet_of Start line (Object o) h told = absurd h.fits
quiet_of (Objects g) line (Object o) h told =
    record { events = refl; header = refl; running = λ e. absurd (not_objects g e); waiting = λ no e. not_objects _ e }
quiet_of Running line (Object o) h told = absurd h.fits
quiet_of Start line Run h told = absurd h.fits
quiet_of (Objects g) line Run h told = absurd (⊎_elim (λ t. t) (λ t. t) told)
quiet_of Running line Run h told = absurd h.fits
quiet_of Start line (Asks e) h told = absurd h.fits
quiet_of (Objects g) line (Asks e) h told = absurd h.fits
quiet_of Running line (Asks e) h told = absurd (⊎_elim (λ t. t) (λ t. t) told)

machine_quiet : {D M : Type 0} (view : Ghosts M D) (first rack : List D) (lines : List (List ℕ)) (forms : List Form) (place : Place) (form : Form) (header : Header) (journal : List Line) (machine : Option M)
    → HaveForms Start lines forms place → IsQuiet place form → MachineRuns view first rack forms place header journal machine →
    MachineRuns view first rack (forms ++ form ∷ []) (next_place place form) header journal machine
machine_quiet view first rack lines forms place form header journal None read q h =
    let events : events_of (forms ++ form ∷ []) ≡ [] = events_of-append forms (form ∷ []) ∙ (λ i. h.3 i ++ q.events i) in
    (q.waiting h.0, h.1, header_then Start forms (form ∷ []) lines place read h.2 ∙ q.header, events, h.4, h.5)
machine_quiet view first rack lines forms place form header journal (Some machine) read q h =
    let events : events_of (forms ++ form ∷ []) ≡ events_of forms =
    events_of-append forms (form ∷ []) ∙ ((λ j. events_of forms ++ q.events j) ∙ append-nil (events_of forms)) in
    (q.running h.0, header_stays Start forms (form ∷ []) header h.1, subst (λ es. view.ran first header es rack journal machine) (sym events) h.2, h.3 ∙ ap length (sym events))

count_more : (forms : List Form) (form : Form) (count : ℕ) → count ≡ length forms → count + 1 ≡ length (forms ++ form ∷ [])
count_more forms form count is = omega (arith, is, length-append forms (form ∷ []))

-- a line that is no event and no end of the header
pub stage_quiet : {D M : Type 0} (view : Ghosts M D) (first rack : List D) (lines : List (List ℕ)) (line : List ℕ) (place after : Place) (machine : Option M) (count : ℕ) (journal : List Line)
    → (form : Form) × HasForm place line form × (Tells place form item.Blank ⊎ Tells place form item.Part) × (after ≡ next_place place form) → count < 100000
    → Stage view first rack lines place (hand machine count journal) →
    Stage view first rack (lines ++ line ∷ []) after (hand machine (count + 1) journal)
stage_quiet view first rack lines line place after machine count journal taken room s =
    let form = taken.0 in
    let q = quiet_of place line form taken.1 taken.2 in
    let made : Stage view first rack (lines ++ line ∷ []) (next_place place form) (hand machine (count + 1) journal) = record {
      forms = s.forms ++ form ∷ [];
      header = s.header;
      read = have_forms_more Start place lines s.forms line form s.read taken.1;
      counted = count_more s.forms form count s.counted;
      within = omega (arith, room);
      machine_is = machine_quiet view first rack lines s.forms place form s.header journal machine s.read q s.machine_is;
    } in
    subst (λ p. Stage view first rack (lines ++ line ∷ []) p (hand machine (count + 1) journal)) (sym taken.3) made

-- the line `run`: the header that it ends
record IsRun (place : Place) (form : Form) (header : Header) : Type 0 where
  place_is : place ≡ Objects header
  form_is : form ≡ Run

run_of : (place : Place) (line : List ℕ) (form : Form) (header : Header) → HasForm place line form → Tells place form (item.Run header) →
    IsRun place form header
run_of Start line Blank header h told = absurd told
run_of (Objects g) line Blank header h told = absurd told
run_of Running line Blank header h told = absurd told
run_of Start line (Nodes n) header h told = absurd told
run_of (Objects g) line (Nodes m) header h told = absurd told
run_of Running line (Nodes m) header h told = absurd told
run_of Start line FormatOne header h told = absurd told
run_of (Objects g) line FormatOne header h told = absurd told
run_of Running line FormatOne header h told = absurd told
run_of Start line (Object o) header h told = absurd told
run_of (Objects g) line (Object o) header h told = absurd told
run_of Running line (Object o) header h told = absurd told
run_of Start line Run header h told = absurd h.fits
run_of (Objects g) line Run header h told = record { place_is = ap Objects (sym told); form_is = refl }
run_of Running line Run header h told = absurd h.fits
run_of Start line (Asks e) header h told = absurd h.fits
run_of (Objects g) line (Asks e) header h told = absurd h.fits
run_of Running line (Asks e) header h told = absurd told

-- before `run` the disks are as they were
pub ready_at : {D M : Type 0} (view : Ghosts M D) (first rack : List D) (lines : List (List ℕ)) (line : List ℕ) (place after : Place) (header : Header) (machine : Option M) (count : ℕ) (journal : List Line)
    → Taken place line (item.Run header) after → Stage view first rack lines place (hand machine count journal) → view.ready rack
ready_at view first rack lines line place after header None count journal taken s = subst view.ready (sym s.machine_is.1) s.machine_is.5
ready_at view first rack lines line place after header (Some machine) count journal taken s =
    let run = run_of place line taken.0 header taken.1 taken.2 in
    absurd (not_objects header (sym run.place_is ∙ s.machine_is.0))

-- nor is a machine made
pub bare_at : {D M : Type 0} (view : Ghosts M D) (first rack : List D) (lines : List (List ℕ)) (line : List ℕ) (place after : Place) (header : Header) (machine : Option M) (count : ℕ) (journal : List Line)
    → Taken place line (item.Run header) after → Stage view first rack lines place (hand machine count journal) → machine ≡ None
bare_at view first rack lines line place after header None count journal taken s = refl
bare_at view first rack lines line place after header (Some machine) count journal taken s =
    let run = run_of place line taken.0 header taken.1 taken.2 in
    absurd (not_objects header (sym run.place_is ∙ s.machine_is.0))

stage_run_at : {D M : Type 0} (view : Ghosts M D) (first rack after_rack : List D) (lines : List (List ℕ)) (line : List ℕ) (header : Header) (machine after_machine : Option M) (count : ℕ) (journal : List Line)
    → HasForm (Objects header) line Run → count < 100000 →
    Started view rack after_rack header after_machine
    → Stage view first rack lines (Objects header) (hand machine count journal) →
    Stage view first after_rack (lines ++ line ∷ []) Running (hand after_machine (count + 1) journal)
stage_run_at view first rack after_rack lines line header (Some machine) after_machine count journal has room st s =
    absurd (not_objects header s.machine_is.0)
stage_run_at {D} {M} view first rack after_rack lines line header None after_machine count journal has room st s =
    let h = s.machine_is in
    let events : events_of (s.forms ++ Run ∷ []) ≡ [] = events_of-append s.forms (Run ∷ []) ∙ (λ i. h.3 i ++ []) in
    let ran : view.ran first header (events_of (s.forms ++ Run ∷ [])) after_rack journal st.made =
    subst (λ es. view.ran first header es after_rack journal st.made) (sym events)
    (subst (λ js. view.ran first header [] after_rack js st.made) (sym h.4) (subst (λ r. view.ran r header [] after_rack [] st.made) h.1 st.ran))
    in
    let stands : MachineRuns view first after_rack (s.forms ++ Run ∷ []) Running header journal (Some st.made) = (
      refl,
      header_then Start s.forms (Run ∷ []) lines (Objects header) s.read h.2,
      ran,
      st.steps ∙ ap length (sym events),
    )
    in
    record {
      forms = s.forms ++ Run ∷ [];
      header = header;
      read = have_forms_more Start (Objects header) lines s.forms line Run s.read has;
      counted = count_more s.forms Run count s.counted;
      within = omega (arith, room);
      machine_is = subst (λ en. MachineRuns view first after_rack (s.forms ++ Run ∷ []) Running header journal en) (sym st.machine_is) stands;
    }

-- the line `run`, with which the machine starts
pub stage_run : {D M : Type 0} (view : Ghosts M D) (first rack after_rack : List D) (lines : List (List ℕ)) (line : List ℕ) (place after : Place) (header : Header) (machine after_machine : Option M) (count : ℕ) (journal : List Line)
    → Taken place line (item.Run header) after → count < 100000 → Started view rack after_rack header after_machine
    → Stage view first rack lines place (hand machine count journal) →
    Stage view first after_rack (lines ++ line ∷ []) after (hand after_machine (count + 1) journal)
stage_run view first rack after_rack lines line place after header machine after_machine count journal taken room st s =
    let run = run_of place line taken.0 header taken.1 taken.2 in
    let has : HasForm (Objects header) line Run =
    subst (λ p. HasForm p line Run) run.place_is (subst (λ f. HasForm place line f) run.form_is taken.1) in
    let ends : Running ≡ after = sym (taken.3 ∙ (λ i. next_place (run.place_is i) (run.form_is i))) in
    subst (λ p. Stage view first after_rack (lines ++ line ∷ []) p (hand after_machine (count + 1) journal)) ends
    (stage_run_at view first rack after_rack lines line header machine after_machine count journal has room st
    (subst (λ p. Stage view first rack lines p (hand machine count journal)) run.place_is s))

-- an event: its form at its place
record IsEvent (place : Place) (form : Form) (told : Event) : Type 0 where
  place_is : place ≡ Running
  form_is : form ≡ Asks told

event_of : (place : Place) (line : List ℕ) (form : Form) (told : Event) → HasForm place line form → Tells place form (item.Event told) →
    IsEvent place form told
event_of Start line Blank e h told = absurd told
event_of (Objects g) line Blank e h told = absurd told
event_of Running line Blank e h told = absurd told
event_of Start line (Nodes n) e h told = absurd told
event_of (Objects g) line (Nodes m) e h told = absurd told
event_of Running line (Nodes m) e h told = absurd told
event_of Start line FormatOne e h told = absurd told
event_of (Objects g) line FormatOne e h told = absurd told
event_of Running line FormatOne e h told = absurd told
event_of Start line (Object o) e h told = absurd told
event_of (Objects g) line (Object o) e h told = absurd told
event_of Running line (Object o) e h told = absurd told
event_of Start line Run e h told = absurd h.fits
event_of (Objects g) line Run e h told = absurd told
event_of Running line Run e h told = absurd h.fits
event_of Start line (Asks asked) e h told = absurd h.fits
event_of (Objects g) line (Asks asked) e h told = absurd h.fits
event_of Running line (Asks asked) e h told = record { place_is = refl; form_is = ap Asks (sym told) }

pub some_is : {A : Type 0} (a b : A) → Some a ≡ Some b → a ≡ b
some_is a b h = cc

-- the event that the reader tells of is in form
pub event_in_form : (place : Place) (line : List ℕ) (after : Place) (e : Event) → Taken place line (item.Event e) after → EventInForm e
event_in_form place line after e taken =
    let is = event_of place line taken.0 e taken.1 taken.2 in
    let has : HasForm Running line (Asks e) =
    subst (λ p. HasForm p line (Asks e)) is.place_is (subst (λ f. HasForm place line f) is.form_is taken.1) in
    has.fits

stage_event_at : {D M : Type 0} (view : Ghosts M D) (first rack after_rack : List D) (lines : List (List ℕ)) (line : List ℕ) (e : Event) (machine after_machine : Option M) (count : ℕ) (journal after_journal : List Line)
    → HasForm Running line (Asks e) → count < 100000 →
    Stepped view (held_by rack machine journal) (held_by after_rack after_machine after_journal) e
    → Stage view first rack lines Running (hand machine count journal) →
    Stage view first after_rack (lines ++ line ∷ []) Running (hand after_machine (count + 1) after_journal)
stage_event_at view first rack after_rack lines line e None after_machine count journal after_journal has room st s =
    absurd (s.machine_is.0 refl)
stage_event_at {D} {M} view first rack after_rack lines line e (Some machine) after_machine count journal after_journal has room st s =
    let h = s.machine_is in
    let same : machine ≡ st.before = some_is machine st.before st.machine_was in
    let events : events_of (s.forms ++ Asks e ∷ []) ≡ events_of s.forms ++ e ∷ [] = events_of-append s.forms (Asks e ∷ []) in
    let ran : view.ran first s.header (events_of (s.forms ++ Asks e ∷ [])) after_rack after_journal st.after =
    subst (λ es. view.ran first s.header es after_rack after_journal st.after) (sym events)
    (st.ran first s.header (events_of s.forms) (subst (λ en. view.ran first s.header (events_of s.forms) rack journal en) same h.2))
    in
    let steps : view.steps st.after ≡ length (events_of (s.forms ++ Asks e ∷ [])) =
    omega (arith, st.steps, ap view.steps same, h.3, ap length events, length-append (events_of s.forms) (e ∷ []))
    in
    let stands : MachineRuns view first after_rack (s.forms ++ Asks e ∷ []) Running s.header after_journal (Some st.after) =
    (refl, header_stays Start s.forms (Asks e ∷ []) s.header h.1, ran, steps)
    in
    record {
      forms = s.forms ++ Asks e ∷ [];
      header = s.header;
      read = have_forms_more Start Running lines s.forms line (Asks e) s.read has;
      counted = count_more s.forms (Asks e) count s.counted;
      within = omega (arith, room);
      machine_is = subst (λ en. MachineRuns view first after_rack (s.forms ++ Asks e ∷ []) Running s.header after_journal en) (sym st.machine_is) stands;
    }

-- an event that the machine ran
pub stage_event : {D M : Type 0} (view : Ghosts M D) (first rack after_rack : List D) (lines : List (List ℕ)) (line : List ℕ) (place after : Place) (e : Event) (machine after_machine : Option M) (count : ℕ) (journal after_journal : List Line)
    → Taken place line (item.Event e) after → count < 100000 →
    Stepped view (held_by rack machine journal) (held_by after_rack after_machine after_journal) e
    → Stage view first rack lines place (hand machine count journal) →
    Stage view first after_rack (lines ++ line ∷ []) after (hand after_machine (count + 1) after_journal)
stage_event view first rack after_rack lines line place after e machine after_machine count journal after_journal taken room st s =
    let is = event_of place line taken.0 e taken.1 taken.2 in
    let has : HasForm Running line (Asks e) =
    subst (λ p. HasForm p line (Asks e)) is.place_is (subst (λ f. HasForm place line f) is.form_is taken.1) in
    let ends : Running ≡ after = sym (taken.3 ∙ (λ i. next_place (is.place_is i) (is.form_is i))) in
    subst (λ p. Stage view first after_rack (lines ++ line ∷ []) p (hand after_machine (count + 1) after_journal)) ends
    (stage_event_at view first rack after_rack lines line e machine after_machine count journal after_journal has room st
    (subst (λ p. Stage view first rack lines p (hand machine count journal)) is.place_is s))

-- behind `run` the machine is there, with room for an event more
pub standing : {D M : Type 0} (view : Ghosts M D) (first rack : List D) (lines : List (List ℕ)) (line : List ℕ) (place after : Place) (e : Event) (machine : Option M) (count : ℕ) (journal : List Line)
    → Taken place line (item.Event e) after → Stage view first rack lines place (hand machine count journal) →
    overflown view machine ≡ false → IsStanding view rack journal machine
standing view first rack lines line place after e None count journal taken s going =
    absurd (s.machine_is.0 (event_of place line taken.0 e taken.1 taken.2).place_is)
standing view first rack lines line place after e (Some machine) count journal taken s going =
    (omega (arith, s.machine_is.3, events_within s.forms, s.counted, s.within), going, (first, s.header, events_of s.forms, s.machine_is.2))

-- an event that the machine refused for want of labels
pub stage_labels : {D M : Type 0} (view : Ghosts M D) (first rack after_rack : List D) (lines : List (List ℕ)) (line : List ℕ) (place after : Place) (e : Event) (machine after_machine : Option M) (count : ℕ) (journal after_journal : List Line)
    → Taken place line (item.Event e) after → after_journal ≡ journal →
    Refused view (held_by rack machine journal) (held_by after_rack after_machine after_journal) e
    → Stage view first rack lines place (hand machine count journal)
    → (now : Stage view first after_rack lines after (hand after_machine count after_journal)) × AsksTooMany view now.header after_rack after_machine after line
stage_labels view first rack after_rack lines line place after e None after_machine count journal after_journal taken still st s =
    absurd (let never : None ≡ Some st.before = st.machine_was in cc)
stage_labels {D} {M} view first rack after_rack lines line place after e (Some machine) after_machine count journal after_journal taken still st s =
    let is = event_of place line taken.0 e taken.1 taken.2 in
    let has : HasForm Running line (Asks e) =
    subst (λ p. HasForm p line (Asks e)) is.place_is (subst (λ f. HasForm place line f) is.form_is taken.1) in
    let ends : Running ≡ after = sym (taken.3 ∙ (λ i. next_place (is.place_is i) (is.form_is i))) in
    let h = s.machine_is in
    let same : machine ≡ st.before = some_is machine st.before st.machine_was in
    let full = st.full first s.header (events_of s.forms) (subst (λ en. view.ran first s.header (events_of s.forms) rack journal en) same h.2) in
    let stands : MachineRuns view first after_rack s.forms Running s.header after_journal (Some st.after) =
    (refl, h.1, full.0, st.steps ∙ (ap view.steps (sym same) ∙ h.3)) in
    let at_after : MachineRuns view first after_rack s.forms after s.header after_journal after_machine =
    subst (λ en. MachineRuns view first after_rack s.forms after s.header after_journal en) (sym st.machine_is)
    (subst (λ p. MachineRuns view first after_rack s.forms p s.header after_journal (Some st.after)) ends stands)
    in (
      record {
        forms = s.forms;
        header = s.header;
        read = subst (λ p. HaveForms Start lines s.forms p) (is.place_is ∙ ends) s.read;
        counted = s.counted;
        within = s.within;
        machine_is = at_after;
      },
      subst (λ en. AsksTooMany view s.header after_rack en after line) (sym st.machine_is) (e, subst (λ p. HasForm p line (Asks e)) ends has, full.1),
    )

pub both_ok : {T E P Q R : Type 0} (r : Result T E) → (P → Q → R) → OnOk r P → OnOk r Q → OnOk r R
both_ok (Ok x) f p q = f p q
both_ok (Err e) f p q = tt

pub ok_from : {T E P : Type 0} (r : Result T E) → (IsOk r → P) → OnOk r P
ok_from (Ok x) f = f refl
ok_from (Err e) f = tt

-- the same stage, at a place and a count that are the same
pub stage_moved : {D M : Type 0} (view : Ghosts M D) (first rack : List D) (lines : List (List ℕ)) (p q : Place) (machine : Option M) (m n : ℕ) (journal : List Line)
    → q ≡ p → n ≡ m → Stage view first rack lines p (hand machine m journal) → Stage view first rack lines q (hand machine n journal)
stage_moved view first rack lines p q machine m n journal place count s =
    subst (λ k. Stage view first rack lines q (hand machine k journal)) (sym count) (subst (λ r. Stage view first rack lines r (hand machine m journal)) (sym place) s)

abbrev pub Limited : {D M : Type 0} (view : Ghosts M D) (first rack : List D) (lines : List (List ℕ)) (place : Place) (machine : Option M) (count : ℕ) (journal : List Line) (line : List ℕ) → Type 0
Limited view first rack lines place machine count journal line =
    (now : Stage view first rack lines place (hand machine count journal)) × (count < 100000) × AsksTooMany view now.header rack machine place line

pub limited_moved : {D M : Type 0} (view : Ghosts M D) (first rack : List D) (lines : List (List ℕ)) (p q : Place) (machine : Option M) (m n : ℕ) (journal : List Line) (line : List ℕ)
    → q ≡ p → n ≡ m → Limited view first rack lines p machine m journal line → Limited view first rack lines q machine n journal line
limited_moved view first rack lines p q machine m n journal line place count h =
    subst (λ k. Limited view first rack lines q machine k journal line) (sym count)
    (subst (λ r. Limited view first rack lines r machine m journal line) (sym place) h)

-- ---- what a line did to the disks

-- they have stayed
pub unchanged : {D M : Type 0} (view : Ghosts M D) (header : Header) (place : Place) (lines : List (List ℕ)) (rack : List D) →
    ChangedSince view header place lines rack rack
unchanged view header place [] rack = refl
unchanged view header place (line ∷ lines) rack = inl refl

-- they were formatted
pub format_since : {D M : Type 0} (view : Ghosts M D) (header : Header) (place : Place) (line : List ℕ) (rest tail : List (List ℕ)) (before after : List D) → rest ≡ line ∷ tail → HasForm place line Run → view.moved (header_at place) [] before after
    → ChangedSince view header place rest before after
format_since view header place line rest tail before after is form moved =
    subst (λ lines. ChangedSince view header place lines before after) (sym is) (inr (Run, form, moved))

-- `run` formats the disks by the header of its place
pub formatted_by : {D M : Type 0} (view : Ghosts M D) (before after : List D) (place : Place) (line : List ℕ) (next : Place) (header : Header)
    → Taken place line (item.Run header) next → view.moved header [] before after →
    HasForm place line Run × view.moved (header_at place) [] before after
formatted_by view before after place line next header taken moved =
    let run = run_of place line taken.0 header taken.1 taken.2 in (
      subst (λ f. HasForm place line f) run.form_is taken.1,
      subst (λ h. view.moved h [] before after) (ap header_at (sym run.place_is)) moved,
    )

-- `run` formats the disks
pub changed_run : {D M : Type 0} (view : Ghosts M D) (given : Header) (before after : List D) (place : Place) (line : List ℕ) (next : Place) (header : Header)
    → Taken place line (item.Run header) next → view.moved header [] before after → ChangedBy view given place line before after
changed_run view given before after place line next header taken moved =
    let f = formatted_by view before after place line next header taken moved in inr (Run, f.0, f.1)

-- an event is run under the header of the lines before it
pub changed_event : {D M : Type 0} (view : Ghosts M D) (first rack after : List D) (lines : List (List ℕ)) (line : List ℕ) (place next : Place) (e : Event) (machine : Option M) (count : ℕ) (journal : List Line)
    → Taken place line (item.Event e) next → (stage : Stage view first rack lines place (hand machine count journal))
    → ((first : List D) (header : Header) (events : List Event) → HasRun view first header events (held_by rack machine journal) →
    view.moved header (e ∷ []) rack after)
    → ChangedBy view stage.header place line rack after
changed_event view first rack after lines line place next e None count journal taken s moved =
    absurd (s.machine_is.0 (event_of place line taken.0 e taken.1 taken.2).place_is)
changed_event view first rack after lines line place next e (Some machine) count journal taken s moved =
    let is = event_of place line taken.0 e taken.1 taken.2 in
    inr (Asks e, subst (λ f. HasForm place line f) is.form_is taken.1, moved first s.header (events_of s.forms) s.machine_is.2)
