-- What is taken at each place, and what is bad there.
use Rattle.std.proofs.Common.{◌≡◌, ◌≢◌, ℕ, ◌≤◌, List, ◌++◌, length, true, false, Option, Some, None, refl, sym, ◌∙◌, ap, subst}
use Rattle.std.specs.Prelude.{codes, is_some, if◌then◌else◌}
use Rattle.std.specs.Fmt.{decimal}
use Rattle.arj_journal.specs.declared.header.Header.{Header}
use Rattle.arj_prog.specs.declared.draft.Draft.{Draft}
use Rattle.arj_prog.specs.declared.place.Place.{Place}
use Rattle.arj_prog.specs.declared.place.Place.TheVariants.{Heading, Seeded, Drafting, Over}
use Rattle.arj_prog.specs.declared.plan.Plan.{Plan}
use Rattle.arj_prog.specs.declared.reader.ProgItem.{ProgItem}
use Rattle.arj_prog.specs.declared.reader.ProgItem.TheVariants as item
use Rattle.arj_prog.specs.declared.said.Said.{Said}
use Rattle.arj_prog.specs.declared.opening.Opening.{Opening}
use Rattle.arj_prog.specs.declared.said.Said.TheVariants as said
use Rattle.arj_prog.specs.Drafts.{behind_line, draft_at, draft_behind, ends_program, fits_draft, with_opening, with_program}
use Rattle.arj_prog.specs.Grammar.{Form, Blank, Head, Seed, Turns, Says, DraftTook, FitsHead, HasForm, HeadingTook, IsBadLine, SeedInForm}
use Rattle.arj_prog.specs.Grammar.{Tells, TellsSaid, drafted, next_place, seeded}
use Rattle.arj_prog.specs.Lines.{SaidInForm, said_text}
use Rattle.arj_script.specs.Grammar as script
use Rattle.arj_script.specs.declared.limits.TheConstants.{LINE_BYTES}
use Rattle.arj_text.specs.Fields.{IsRead, IsWithin, behind}

-- The line has a form at its place, of which the item tells, and the reader goes on behind it.
abbrev pub Took : Place → List ℕ → ProgItem → Place → Type 0
Took place bytes told new = (form : Form) × HasForm place bytes form × Tells place form told × (new ≡ next_place place form)

pub took_head : (h new : script.Place) (bytes : List ℕ) → length bytes ≤ LINE_BYTES → HeadingTook h new bytes None →
    Took (Heading h) bytes item.Part (Heading new)
took_head h new bytes short t =
    let has : HasForm (Heading h) bytes (Head t.0) = record { short = short; fits = t.1; spells = t.2 } in
    (Head t.0, has, tt, ap (λ q. Heading q) t.3)

pub took_seed : (h new : script.Place) (bytes : List ℕ) (header : Header) (seed : ℕ) → length bytes ≤ LINE_BYTES →
    HeadingTook h new bytes (Some (header, seed)) → Took (Heading h) bytes item.Part (Seeded header seed)
took_seed h new bytes header seed short t =
    let there : is_some (script.nodes_at h) ≡ true = ap (λ q. is_some (script.nodes_at q)) t.0 in
    let has : HasForm (Heading h) bytes (Seed seed) = record { short = short; fits = (there, t.1); spells = t.2 } in
    let next : seeded h seed ≡ Seeded header seed = ap (λ q. seeded q seed) t.0 in
    (Seed seed, has, tt, sym next)

pub took_turns : (header : Header) (seed : ℕ) (bytes : List ℕ) (d : Draft) → length bytes ≤ LINE_BYTES →
    (n : ℕ) × IsWithin 1 20000 n × (bytes ≡ codes "turns " ++ decimal n) × (Drafting d ≡ drafted header seed n) →
    Took (Seeded header seed) bytes item.Part (Drafting d)
took_turns header seed bytes d short t =
    let has : HasForm (Seeded header seed) bytes (Turns t.0) = record { short = short; fits = t.1; spells = t.2 } in
    (Turns t.0, has, tt, t.3)

pub took_line : (d new : Draft) (bytes : List ℕ) → length bytes ≤ LINE_BYTES →
    (s : Said) × SaidInForm d.header.objects s × (fits_draft s d ≡ true) × (bytes ≡ said_text s) × DraftTook d new s None →
    Took (Drafting d) bytes item.Part (Drafting new)
took_line d new bytes short t =
    let has : HasForm (Drafting d) bytes (Says t.0) = record { short = short; fits = (t.1, t.2); spells = t.3 } in
    let told : TellsSaid false d item.Part = tt in
    (Says t.0, has, subst (λ b. TellsSaid b d item.Part) (sym t.4.0) told, ap (λ q. Drafting q) t.4.1 ∙ ap (λ b. if b then Over else Drafting (draft_behind t.0 d)) (sym t.4.0))

pub took_run : (d new : Draft) (bytes : List ℕ) (plan : Plan) → length bytes ≤ LINE_BYTES →
    (s : Said) × SaidInForm d.header.objects s × (fits_draft s d ≡ true) × (bytes ≡ said_text s) × DraftTook d new s (Some plan) →
    Took (Drafting d) bytes (item.Run plan) Over
took_run d new bytes plan short t =
    let has : HasForm (Drafting d) bytes (Says t.0) = record { short = short; fits = (t.1, t.2); spells = t.3 } in
    (Says t.0, has, subst (λ b. TellsSaid b d (item.Run plan)) (sym t.4.0) t.4.1, ap (λ b. if b then Over else Drafting (draft_behind t.0 d)) (sym t.4.0))

-- Bad lines.
pub bad_heading : (h : script.Place) (bytes : List ℕ) → (script.IsBlank bytes → ⊥) →
    IsRead (SeedInForm h) (behind (codes "seed ") decimal) bytes None → ((f : script.Form) → FitsHead h f → script.Spells bytes f → ⊥) →
    IsBadLine (Heading h) bytes
bad_heading h bytes says no_seed no_head = λ form has. cases form has
  where
    cases : (form : Form) → HasForm (Heading h) bytes form → ⊥
    cases Blank has = says has.spells
    cases (Head f) has = no_head f has.fits has.spells
    cases (Seed n) has = no_seed n has.fits has.spells
    cases (Turns n) has = has.fits
    cases (Says s) has = has.fits

pub bad_seeded : (header : Header) (seed : ℕ) (bytes : List ℕ) → (script.IsBlank bytes → ⊥) →
    ((n : ℕ) → IsWithin 1 20000 n → bytes ≢ codes "turns " ++ decimal n) → IsBadLine (Seeded header seed) bytes
bad_seeded header seed bytes says none = λ form has. cases form has
  where
    cases : (form : Form) → HasForm (Seeded header seed) bytes form → ⊥
    cases Blank has = says has.spells
    cases (Head f) has = has.fits
    cases (Seed n) has = has.fits
    cases (Turns n) has = none n has.fits has.spells
    cases (Says s) has = has.fits

pub bad_draft : (d : Draft) (bytes : List ℕ) → (script.IsBlank bytes → ⊥) →
    ((s : Said) → SaidInForm d.header.objects s → fits_draft s d ≡ true → bytes ≢ said_text s) → IsBadLine (Drafting d) bytes
bad_draft d bytes says none = λ form has. cases form has
  where
    cases : (form : Form) → HasForm (Drafting d) bytes form → ⊥
    cases Blank has = says has.spells
    cases (Head f) has = has.fits
    cases (Seed n) has = has.fits
    cases (Turns n) has = has.fits
    cases (Says s) has = none s has.fits.0 has.fits.1 has.spells

pub bad_over : (bytes : List ℕ) → (script.IsBlank bytes → ⊥) → IsBadLine Over bytes
bad_over bytes says = λ form has. cases form has
  where
    cases : (form : Form) → HasForm Over bytes form → ⊥
    cases Blank has = says has.spells
    cases (Head f) has = has.fits
    cases (Seed n) has = has.fits
    cases (Turns n) has = has.fits
    cases (Says s) has = has.fits

-- No line changes the header.
pub kept_header : (s : Said) (d : Draft) → (draft_behind s d).header ≡ d.header
kept_header s d = at d.opening
  where
    between : (s : Said) → (draft_at None s d).header ≡ d.header
    between (said.Prog label node retry) = refl
    between _ = refl

    at : (o : Option Opening) → (draft_at o s d).header ≡ d.header
    at None = between s
    at (Some o) =
        elim (ends_program s o) as (λ b. (if b then with_program o d else with_opening (Some (behind_line s o)) d).header ≡ d.header) [ true ↦ refl | false ↦ refl ]
