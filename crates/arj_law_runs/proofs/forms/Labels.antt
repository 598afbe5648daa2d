-- Labels of lines are in form: each is that of an action that began, by an event in form; and so are lines of labels and nodes alone.
use Rattle.arj_law_parts.proofs.Words
use Words.{◌≡◌, List, [], ◌∷◌, Bool, true, false, cond, Option, Some, None, refl, sym, subst, AllByRecursion, ℕ, bytes_eq, bytes_eq-Decides}
use Words.{is_eq, match_ordering, insert_entry, Body, Event, Header, Kind, Label, label_cmp, name, Line, option_map}
use Words.{Giving, Labelled, World, all_moved, counted, first_reason, giving, happens, lacks_labels, limited, moved, no_labels, reasons}
use Words.{run_event}
use Words.{run_unless, world_by, world_from, Move, is_serial}
use Words.body
use Words.event
use Words.kind
use Rattle.arj_law_runs.proofs.Terms
use Terms.{book, new_book, turned, AreRight, IsGiven, Right, label_at}
use Rattle.arj_journal.specs.LineForm.{BodyInForm, LineInForm, ParentInForm}
use Rattle.arj_journal.specs.ScriptForm.{EventInForm}
use Rattle.arj_law_runs.proofs.addresses.Runs.{lines_name}
use Rattle.arj_law_runs.proofs.bindings.Labels.{happens_labels, limited_labels}
use Rattle.arj_law_runs.proofs.calls.Reaching.{moves_keep}
use Rattle.arj_law_runs.proofs.journal.Runs.{kept_written}
use Rattle.arj_law_runs.proofs.kept.Labels.{one_name}
use Rattle.arj_law_runs.proofs.forms.World.{node_form, runs_say_in_form}
use Rattle.arj_law_runs.specs.addresses.Addresses.{IsNode, SaysOf}
use Rattle.arj_law_runs.specs.forms.Labels.{LabelsInForm, RunsSayLabels, RunsSayNames, is_of_names}
use Rattle.arj_law_runs.specs.forms.World.{IsSaidInForm}
use Rattle.arj_law_runs.specs.journal.Book.{Book, book_from}
use Rattle.arj_law_runs.specs.journal.Right.{IsBelow}
use Rattle.arj_model.specs.Actions.{Act, act_in}
use Rattle.arj_promise.specs.Runs.{AreMovesInForm, HeaderFits}
use Rattle.arj_protocol.specs.World.{Asked}
use Rattle.arj_text.specs.Label.{LabelInForm, is_label}
use Rattle.std.proofs.Common.{Ordering, Less, Equal, Greater}

some_is : {A : Type 0} {a b : A} → ◌≡◌ {A = Option A} (Some a) (Some b) → a ≡ b
some_is is = cc is

-- ---- labels that were given

abbrev GivenInForm : List (Label × Labelled) → Type 0
GivenInForm given = AllByRecursion (λ (g : Label × Labelled). LabelInForm g.0) given

insert_form : (l : Label) (v : Labelled) (m : List (Label × Labelled)) → LabelInForm l → GivenInForm m →
    GivenInForm (insert_entry label_cmp m l v)
insert_form l v [] its all = (its, tt)
insert_form l v (e ∷ es) its all = by (label_cmp l e.0) (insert_form l v es its all.1)
  where
    by : (r : Ordering) → GivenInForm (insert_entry label_cmp es l v) →
        GivenInForm (match_ordering r ((l, v) ∷ e ∷ es) ((e.0, v) ∷ es) (e ∷ insert_entry label_cmp es l v))
    by Less rest = (its, all)
    by Equal rest = all
    by Greater rest = (all.0, rest)

found_form : (l : Label) (m : List (Label × Labelled)) (g : Labelled) → GivenInForm m → label_at l m ≡ Some g → LabelInForm l
found_form l [] g all is = let no_way : ◌≡◌ {A = Option Labelled} None (Some g) = is in absurd (cc no_way)
found_form l (e ∷ es) g all is = by (is_eq (label_cmp l e.0)) refl is (found_form l es g all.1)
  where
    by : (b : Bool) → is_eq (label_cmp l e.0) ≡ b → cond b (Some e.1) (label_at l es) ≡ Some g → (label_at l es ≡ Some g → LabelInForm l) →
        LabelInForm l
    by true same found rest = subst (λ n. is_label n ≡ true) (sym (one_name l e.0 same)) all.0
    by false other found rest = rest found

-- an event in form gives labels in form
giving_form : (e : Event) (w : World) (g : Giving) → EventInForm e → giving e w ≡ Some g → LabelInForm g.label
giving_form (event.Begin l n) w g form is = subst (λ (h : Giving). LabelInForm h.label) (some_is is) form.0
giving_form (event.Serial l n) w g form is = subst (λ (h : Giving). LabelInForm h.label) (some_is is) form.0
giving_form (event.BeginIn l p) w g form is = subst (λ (h : Giving). LabelInForm h.label) (some_is is) form.0
giving_form (event.Top l p) w g form is = subst (λ (h : Giving). LabelInForm h.label) (some_is is) form.0
giving_form e w g form is = let no_way : ◌≡◌ {A = Option Giving} None (Some g) = is in absurd (cc no_way)

abbrev WorldInForm : World → Type 0
WorldInForm w = GivenInForm w.labels

event_form : (e : Asked) (w : World) → EventInForm e.event → WorldInForm w → WorldInForm (run_event e w)
event_form e w form all = over w.over
  where
    lacks : (b : Bool) → WorldInForm (cond b (no_labels w) (limited (happens e.event e.arm (counted w))))
    lacks true = all
    lacks false = limited_labels GivenInForm (happens e.event e.arm (counted w)) (happens_labels GivenInForm e.event e.arm (counted w)
        (λ g is. insert_form g.label (record { node = g.node; serial = is_serial g.kind }) w.labels
        (giving_form e.event (counted w) g form is) all) all)

    refused : (r : Option ℕ) → WorldInForm (run_unless e.event e.arm w r)
    refused None = lacks (lacks_labels (giving e.event w) w)
    refused (Some c) = all

    over : (b : Bool) → WorldInForm (cond b w (run_unless e.event e.arm w (first_reason (reasons e.event w))))
    over true = all
    over false = refused (first_reason (reasons e.event w))

moves_form : (ms : List Move) (w : World) → AreMovesInForm ms → WorldInForm w → WorldInForm (all_moved ms w)
moves_form [] w form all = all
moves_form (m ∷ ms) w form all = moves_form ms (moved m w) form.1 (event_form m.asked (record w { arms = m.falls }) form.0 all)

-- ---- actions that began

abbrev ActsInForm : List Act → Type 0
ActsInForm acts = AllByRecursion (λ (a : Act). is_label a.label ≡ true) acts

given_acts : (given : List (Label × Labelled)) (acts : List Act) → GivenInForm given → AllByRecursion (IsGiven given) acts → ActsInForm acts
given_acts given [] all each = tt
given_acts given (a ∷ acts) all each =
    let g = each.0 in (subst (λ n. is_label n ≡ true) g.2 (found_form g.0 given g.1 all g.3), given_acts given acts all each.1)

-- the action of a label has it
named_form : (acts : List Act) (n : List ℕ) (a : Act) → ActsInForm acts → act_in acts n ≡ Some a → is_label n ≡ true
named_form [] n a all is = let no_way : ◌≡◌ {A = Option Act} None (Some a) = is in absurd (cc no_way)
named_form (b ∷ acts) n a all is = by (bytes_eq b.label n) refl is (named_form acts n a all.1)
  where
    by : (t : Bool) → bytes_eq b.label n ≡ t → cond t (Some b) (act_in acts n) ≡ Some a → (act_in acts n ≡ Some a → is_label n ≡ true) →
        is_label n ≡ true
    by true same found rest = subst (λ m. is_label m ≡ true) ((bytes_eq-Decides b.label n).0 same) all.0
    by false other found rest = rest found

-- ---- lines

-- what is so of the actions behind lines is so of those before
module _ (P : Act → Type 0) where
  turned_less : (B : Book) (b : Body) → AllByRecursion P (turned B b).acts → AllByRecursion P B.acts
  turned_less B (body.Began l k u p) all = all.1
  turned_less B b all = all

  pub acts_less : (B : Book) (lines : List Line) → AllByRecursion P (book_from B lines).acts → AllByRecursion P B.acts
  acts_less B [] all = all
  acts_less B (line ∷ lines) all = turned_less B line.body (acts_less (turned B line.body) lines all)

below_form : (acts : List Act) (k : Kind) (p : Option Label) → ActsInForm acts → IsBelow acts k (option_map name p) → ParentInForm p
below_form acts k None all below = tt
below_form acts kind.Independent (Some p) all below = named_form acts (name p) below.0 all below.1
below_form acts kind.Nested (Some p) all below = named_form acts (name p) below.0 all below.1
below_form acts kind.Constituent (Some p) all below = named_form acts (name p) below.0 all below.1
below_form acts kind.Top (Some p) all below = absurd below
below_form acts kind.Serial (Some p) all below = absurd below

body_form : (B : Book) (b : Body) → Right B b → ActsInForm (turned B b).acts → LabelsInForm b
body_form B (body.Began l k u p) right all = (all.0, below_form B.acts k p all.1 right.2)
body_form B (body.Committing l) right all = named_form B.acts (name l) right.0 all right.1.named
body_form B (body.Committed l) right all = named_form B.acts (name l) right.0 all right.1.named
body_form B (body.Ended l) right all = named_form B.acts (name l) right.0 all right.1.named
body_form B (body.Aborted l c) right all = named_form B.acts (name l) right.0 all right.1.named
body_form B (body.Ok l x o a) right all = named_form B.acts (name l) right.0 all right.1.named
body_form B (body.Includes l x n) right all = named_form B.acts (name l) right.0 all right.1.named
body_form B (body.Excluded l x n) right all = named_form B.acts (name l) right.0 all right.1.named
body_form B (body.Conflict l h m n) right all = named_form B.acts (name l) right.0 all right.1
body_form B (body.Lost l n) right all = named_form B.acts (name l) right.0 all right.1
body_form B (body.Changed l n d) right all = named_form B.acts (name l) right.0 all right.1
body_form B (body.GaveUp l n) right all = named_form B.acts (name l) right.0 all right.1
body_form B b right all = tt

lines_form : (B : Book) (lines : List Line) → AreRight B lines → ActsInForm (book_from B lines).acts →
    AllByRecursion (λ (line : Line). LabelsInForm line.body) lines
lines_form B [] right all = tt
lines_form B (line ∷ lines) right all = (
  body_form B line.body right.0 (acts_less (λ (a : Act). is_label a.label ≡ true) (turned B line.body) lines all),
  lines_form (turned B line.body) lines right.1 all,
)

pub runs_say_labels : RunsSayLabels
runs_say_labels hd r form =
    let w = world_by hd r in
    let k = kept_written hd w (moves_keep hd r) in
    let written = k.1 in
    lines_form new_book w.lines written.right
    (given_acts w.labels (book w.lines).acts (moves_form r.moves (world_from hd r.start) form.events tt) written.labels)

-- ---- lines of names

names_form : (hd : Header) → HeaderFits hd → (b : Body) → LabelsInForm b → SaysOf (IsNode hd) b → is_of_names b ≡ true → BodyInForm b
names_form hd form (body.Lost l n) label node is = (label, node_form hd form n node)
names_form hd form (body.GaveUp l n) label node is = (label, node_form hd form n node)
names_form hd form (body.Committing l) label node is = label
names_form hd form (body.Committed l) label node is = label
names_form hd form (body.Ended l) label node is = label
names_form hd form b label node is = absurd (cc is)

pub runs_say_names : RunsSayNames
runs_say_names hd r form =
    let w = world_by hd r in
    by w.lines (runs_say_in_form hd r form) (runs_say_labels hd r form) (lines_name hd form.header r)
  where
    by : (lines : List Line) → AllByRecursion IsSaidInForm lines → AllByRecursion (λ (line : Line). LabelsInForm line.body) lines
        → AllByRecursion (λ (line : Line). SaysOf (IsNode hd) line.body) lines →
        AllByRecursion (λ (line : Line). is_of_names line.body ≡ true → LineInForm line) lines
    by [] numbers labels nodes = tt
    by (line ∷ lines) numbers labels nodes = (
      λ is. (numbers.0.0, names_form hd form.header line.body labels.0 nodes.0 is),
      by lines numbers.1 labels.1 nodes.1,
    )
