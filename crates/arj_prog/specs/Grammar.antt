-- The grammar of client programs: which form a line may have at its place.
use Rattle.std.specs.Prelude.{◌≡◌, ◌≤◌, ℕ, List, [], ◌++◌, length, codes, ⊤, Bool, true, false, if◌then◌else◌, Option, Some, None, is_some}
use Rattle.std.specs.Fmt.{decimal}
use Rattle.arj_journal.specs.declared.header.Header.{Header}
use Rattle.arj_journal.specs.ScriptForm.{HeaderInForm}
use Rattle.arj_prog.specs.declared.draft.Draft.{Draft}
use Rattle.arj_prog.specs.declared.limits.TheConstants.{TURNS}
use Rattle.arj_prog.specs.declared.place.Place.{Place}
use Rattle.arj_prog.specs.declared.place.Place.TheVariants.{Heading, Seeded, Drafting, Over}
use Rattle.arj_prog.specs.declared.plan.Plan.{Plan}
use Rattle.arj_prog.specs.declared.reader.ProgItem.{ProgItem}
use Rattle.arj_prog.specs.declared.reader.ProgItem.TheVariants as item
use Rattle.arj_prog.specs.declared.said.Said.{Said}
use Rattle.arj_prog.specs.Drafts.{draft_behind, fits_draft, is_run, plan_of}
use Rattle.arj_prog.specs.Lines.{SaidInForm, said_text}
use Rattle.arj_script.specs.declared.limits.TheConstants.{LINE_BYTES}
use Rattle.arj_script.specs.Grammar as script
use Rattle.arj_text.specs.declared.field.TheConstants.{WORD_MAX}
use Rattle.arj_text.specs.Fields.{IsWithin}

-- What a line says: nothing, a part of the header, what the draws begin with, how many turns there are, or a line of the
-- programs.
pub data Form : Type 0 where
  Blank : Form
  Head : script.Form → Form
  Seed : ℕ → Form
  Turns : ℕ → Form
  Says : Said → Form

-- a part of a header may stand: not `run`
abbrev pub FitsHead : script.Place → script.Form → Type 0
FitsHead place (script.Nodes n) = script.Fits place (script.Nodes n)
FitsHead place script.FormatOne = script.Fits place script.FormatOne
FitsHead place (script.Object o) = script.Fits place (script.Object o)
FitsHead place _ = ⊥

-- the seed may stand behind the count of nodes
abbrev pub SeedInForm : script.Place → ℕ → Type 0
SeedInForm place n = (is_some (script.nodes_at place) ≡ true) × IsWithin 0 WORD_MAX n

-- Which form may stand at a place: the header; behind its nodes the seed; then the turns; then programs and `run`.
abbrev pub Fits : Place → Form → Type 0
Fits place Blank = ⊤
Fits (Heading h) (Head f) = FitsHead h f
Fits (Heading h) (Seed n) = SeedInForm h n
Fits (Seeded header seed) (Turns n) = IsWithin 1 TURNS n
Fits (Drafting d) (Says s) = SaidInForm d.header.objects s × (fits_draft s d ≡ true)
Fits _ _ = ⊥

-- behind the seed
abbrev pub seeded : script.Place → ℕ → Place
seeded (script.Objects header) seed = Seeded header seed
seeded h seed = Heading h

-- behind the turns
abbrev pub drafted : Header → ℕ → ℕ → Place
drafted header seed turns = Drafting (record { header = header; seed = seed; turns = turns; programs = []; opening = None })

-- the place behind a form
abbrev pub next_place : Place → Form → Place
next_place (Heading h) (Head f) = Heading (script.next_place h f)
next_place (Heading h) (Seed n) = seeded h n
next_place (Seeded header seed) (Turns n) = drafted header seed n
next_place (Drafting d) (Says s) = if is_run s then Over else Drafting (draft_behind s d)
next_place place _ = place

-- the bytes spell the form
abbrev pub Spells : List ℕ → Form → Type 0
Spells bytes Blank = script.IsBlank bytes
Spells bytes (Head f) = script.Spells bytes f
Spells bytes (Seed n) = bytes ≡ codes "seed " ++ decimal n
Spells bytes (Turns n) = bytes ≡ codes "turns " ++ decimal n
Spells bytes (Says s) = bytes ≡ said_text s

-- A line that is not too long has this form at this place.
pub record HasForm (place : Place) (bytes : List ℕ) (form : Form) : Type 0 where
  pub short : length bytes ≤ LINE_BYTES
  pub fits : Fits place form
  pub spells : Spells bytes form

-- the line isn't in the grammar at this place
abbrev pub IsBadLine : Place → List ℕ → Type 0
IsBadLine place bytes = (form : Form) → HasForm place bytes form → ⊥

-- what the reader tells of a line of the programs: a part, or at `run` the plan that was read
abbrev pub TellsSaid : Bool → Draft → ProgItem → Type 0
TellsSaid false d item.Part = ⊤
TellsSaid true d (item.Run plan) = plan ≡ plan_of d
TellsSaid _ _ _ = ⊥

-- what the reader tells of a form at its place
abbrev pub Tells : Place → Form → ProgItem → Type 0
Tells place Blank item.Blank = ⊤
Tells place (Head f) item.Part = ⊤
Tells place (Seed n) item.Part = ⊤
Tells place (Turns n) item.Part = ⊤
Tells (Drafting d) (Says s) told = TellsSaid (is_run s) d told
Tells _ _ _ = ⊥

-- what a line of a header makes of its reader: another part of the header; or its end, with the seed
abbrev pub HeadingTook : script.Place → script.Place → List ℕ → Option (Header × ℕ) → Type 0
HeadingTook old new bytes None = (f : script.Form) × FitsHead old f × script.Spells bytes f × (new ≡ script.next_place old f)
HeadingTook old new bytes (Some p) =
    (old ≡ script.Objects p.0) × IsWithin 0 WORD_MAX p.1 × (bytes ≡ codes "seed " ++ decimal p.1)

-- what a line of the programs makes of the draft: it goes on; or it is run, as this plan
abbrev pub DraftTook : Draft → Draft → Said → Option Plan → Type 0
DraftTook old new s None = (is_run s ≡ false) × (new ≡ draft_behind s old)
DraftTook old new s (Some plan) = (is_run s ≡ true) × (plan ≡ plan_of old)

-- the header of a plan that the reader tells of is in form
abbrev pub TellsInForm : ProgItem → Type 0
TellsInForm (item.Run plan) = HeaderInForm plan.header
TellsInForm _ = ⊤
