-- A plan that was read has no more than it may have.
use Rattle.std.proofs.Common.{◌≡◌, ◌≤◌, ◌<◌, ℕ, List, [], ◌∷◌, ◌++◌, length, refl, sym, subst, arith, true, false, Option}
use Rattle.std.proofs.Common.{Some, None}
use Rattle.std.proofs.lemmas.Bool.{and_parts, both_ways}
use Rattle.std.proofs.lemmas.Bool.Decides.{nat_tests}
use Rattle.std.proofs.lemmas.List.{length-append}
use Rattle.std.specs.List.{AllByRecursion}
use Rattle.std.specs.Prelude.{Bool, ⊤, IfSome, if◌then◌else◌, nat_lt}
use Rattle.arj_journal.specs.ScriptForm.{HeaderInForm}
use Rattle.arj_prog.proofs.Places.{kept_header}
use Rattle.arj_prog.specs.Drafts.{behind_line, draft_at, draft_behind, ends_program, fits_at, fits_draft, is_run, plan_of, program_of}
use Rattle.arj_prog.specs.Drafts.{with_opening}
use Rattle.arj_prog.specs.Drafts.{with_program}
use Rattle.arj_prog.specs.Grammar.{Blank, Fits, Form, Head, Says, Seed, Turns, next_place, seeded}
use Rattle.arj_prog.specs.Lines.{SaidInForm}
use Rattle.arj_prog.specs.Written.{draft_lines, plan_lines}
use Rattle.arj_prog.specs.declared.draft.Draft.{Draft}
use Rattle.arj_prog.specs.declared.opening.Opening.{Opening}
use Rattle.arj_prog.specs.declared.place.Place.{Place}
use Rattle.arj_prog.specs.declared.place.Place.TheVariants.{Heading, Seeded, Drafting, Over}
use Rattle.arj_prog.specs.declared.plan.Plan.{Plan}
use Rattle.arj_prog.specs.declared.plan.Program.{Program}
use Rattle.arj_prog.specs.declared.said.Said.{Said}
use Rattle.arj_prog.specs.declared.said.Said.TheVariants as said
use Rattle.arj_programs.specs.Input.{HaveForms, IsFit, IsPlan, beginning}
use Rattle.arj_progrun.specs.InForm.{PlanInForm}
use Rattle.arj_script.specs.Grammar as script

-- ---- laws of the crates below

-- each line that is taken stands behind those that a draft was read from
abbrev pub LinesGrow : Type 0
LinesGrow = (s : Said) (d : Draft) → fits_draft s d ≡ true → is_run s ≡ false → draft_lines (draft_behind s d) ≡ draft_lines d ++ s ∷ []

-- at `run` these are the lines of the plan
abbrev pub LinesAreKept : Type 0
LinesAreKept = (d : Draft) → fits_draft said.Run d ≡ true → draft_lines d ≡ plan_lines (plan_of d)

-- a plan of lines in form is in form
abbrev pub PlansAreInForm : Type 0
PlansAreInForm =
    (plan : Plan) → HeaderInForm plan.header → AllByRecursion (SaidInForm (let h = plan.header in h.objects)) (plan_lines plan) →
    PlanInForm plan

-- ---- drafts

-- so many programs may stand before one that is open
abbrev HaveRoom : List Program → Option Opening → Type 0
HaveRoom ps o = (length ps ≤ 16) × IfSome o (λ _. length ps < 16)

-- A draft of few turns and programs, of lines in form.
record IsDraft (d : Draft) : Type 0 where
  pub turns : d.turns ≤ 20000
  pub room : HaveRoom d.programs d.opening
  pub lines : AllByRecursion (SaidInForm (let h = d.header in h.objects)) (draft_lines d)

abbrev IsGood : Place → Type 0
IsGood (Drafting d) = IsDraft d
IsGood _ = ⊤

kept_turns : (s : Said) (d : Draft) → (let e = draft_behind s d in e.turns) ≡ d.turns
kept_turns s d = at d.opening
  where
    between : (s : Said) → (let e = draft_at None s d in e.turns) ≡ d.turns
    between (said.Prog label node retry) = refl
    between _ = refl

    at : (o : Option Opening) → (let e = draft_at o s d in e.turns) ≡ d.turns
    at None = between s
    at (Some o) =
        elim (ends_program s o) as (λ b. (let e =
        (if b then with_program o d else with_opening (Some (behind_line s o)) d) in e.turns) ≡ d.turns)
        [ true ↦ refl | false ↦ refl ]

room_more : (s : Said) (d : Draft) → fits_draft s d ≡ true → is_run s ≡ false → HaveRoom d.programs d.opening →
    (let e = draft_behind s d in HaveRoom e.programs e.opening)
room_more s d fits goes = at d.opening fits
  where
    between : (s : Said) → fits_at None s d ≡ true → is_run s ≡ false → length d.programs ≤ 16 →
        (let e = draft_at None s d in HaveRoom e.programs e.opening)
    between (said.Prog label node retry) fits goes few =
        let room : nat_lt (length d.programs) 16 ≡ true = (and_parts _ _ ((and_parts _ _ fits).0)).0 in
        let less : length d.programs < 16 = grind (arith, nat_tests) in
        (few, less)
    between said.Run fits goes few = absurd (both_ways true goes refl)
    between _ fits goes few = absurd (both_ways false refl fits)

    inside : (b : Bool) (o : Opening) → length d.programs < 16 →
        (let e = (if b then with_program o d else with_opening (Some (behind_line s o)) d) in HaveRoom e.programs e.opening)
    inside true o less = (omega (arith, less, length-append d.programs (program_of o ∷ [])), tt)
    inside false o less = (omega (arith, less), less)

    at : (o : Option Opening) → fits_at o s d ≡ true → HaveRoom d.programs o →
        (let e = draft_at o s d in HaveRoom e.programs e.opening)
    at None fits room = between s fits goes room.0
    at (Some o) fits room = inside (ends_program s o) o room.1

all_more : {X : Type 0} (P : X → Type 0) (xs : List X) (y : X) → AllByRecursion P xs → P y → AllByRecursion P (xs ++ y ∷ [])
all_more P [] y all one = (one, tt)
all_more P (x ∷ xs) y all one = (all.0, all_more P xs y all.1 one)

draft_more : LinesGrow → (s : Said) (d : Draft) → IsDraft d → SaidInForm (let h = d.header in h.objects) s → fits_draft s d ≡ true →
    is_run s ≡ false → IsDraft (draft_behind s d)
draft_more grow s d good said fits goes = record {
  turns = subst (λ n. n ≤ 20000) (sym (kept_turns s d)) good.turns;
  room = room_more s d fits goes good.room;
  lines = subst (λ h. AllByRecursion (SaidInForm (let k = h in k.objects)) (draft_lines (draft_behind s d))) (sym (kept_header s d))
      (subst (λ ls. AllByRecursion (SaidInForm (let h = d.header in h.objects)) ls) (sym (grow s d fits goes))
      (all_more _ (draft_lines d) s good.lines said));
}

says_good : LinesGrow → (s : Said) (d : Draft) → IsDraft d → SaidInForm (let h = d.header in h.objects) s → fits_draft s d ≡ true →
    IsGood (if is_run s then Over else Drafting (draft_behind s d))
says_good grow s d good said fits = by (is_run s) refl
  where
    by : (b : Bool) → is_run s ≡ b → IsGood (if b then Over else Drafting (draft_behind s d))
    by true is = tt
    by false is = draft_more grow s d good said fits is

seeded_good : (h : script.Place) (n : ℕ) → IsGood (seeded h n)
seeded_good script.Start n = tt
seeded_good (script.Objects g) n = tt
seeded_good script.Running n = tt

step_good : LinesGrow → (place : Place) (form : Form) → IsGood place → Fits place form → IsGood (next_place place form)
step_good grow (Heading h) Blank good fits = tt
step_good grow (Heading h) (Head f) good fits = tt
step_good grow (Heading h) (Seed n) good fits = seeded_good h n
step_good grow (Heading h) (Turns n) good fits = absurd fits
step_good grow (Heading h) (Says s) good fits = absurd fits
step_good grow (Seeded h seed) Blank good fits = tt
step_good grow (Seeded h seed) (Head f) good fits = absurd fits
step_good grow (Seeded h seed) (Seed n) good fits = absurd fits
step_good grow (Seeded h seed) (Turns n) good fits =
    record { turns = fits.1; room = (let e : length {A = Program} [] ≤ 16 = omega arith in e, tt); lines = tt }
step_good grow (Seeded h seed) (Says s) good fits = absurd fits
step_good grow (Drafting d) Blank good fits = good
step_good grow (Drafting d) (Head f) good fits = absurd fits
step_good grow (Drafting d) (Seed n) good fits = absurd fits
step_good grow (Drafting d) (Turns n) good fits = absurd fits
step_good grow (Drafting d) (Says s) good fits = says_good grow s d good fits.0 fits.1
step_good grow Over Blank good fits = tt
step_good grow Over (Head f) good fits = absurd fits
step_good grow Over (Seed n) good fits = absurd fits
step_good grow Over (Turns n) good fits = absurd fits
step_good grow Over (Says s) good fits = absurd fits

forms_good : LinesGrow → (place : Place) (lines : List (List ℕ)) (forms : List Form) (end : Place) → HaveForms place lines forms end →
    IsGood place → IsGood end
forms_good grow place [] [] end is good = subst IsGood is good
forms_good grow place (line ∷ lines) (form ∷ forms) end (h, more) good =
    forms_good grow (next_place place form) lines forms end more (step_good grow place form good h.fits)
forms_good grow place [] (form ∷ forms) end is good = absurd is
forms_good grow place (line ∷ lines) [] end is good = absurd is

some_program : (d : Draft) → fits_draft said.Run d ≡ true → 0 < length d.programs
some_program d fits = at d.opening fits
  where
    at : (o : Option Opening) → fits_at o said.Run d ≡ true → 0 < length d.programs
    at None is = grind (arith, nat_tests)
    at (Some o) is = absurd (both_ways false refl is)

-- a plan that was read is fit
pub plan_is_fit : LinesGrow → LinesAreKept → PlansAreInForm → (lines : List (List ℕ)) (plan : Plan) → HeaderInForm plan.header →
    IsPlan lines plan → IsFit plan
plan_is_fit grow kept in_form lines plan header p =
    let good : IsDraft p.draft = forms_good grow beginning p.front p.forms (Drafting p.draft) p.read tt in
    let runs = p.runs in
    let fits : fits_draft said.Run p.draft ≡ true = let f = runs.fits in f.1 in
    let back : plan_of p.draft ≡ plan = sym p.plan_is in
    let said = subst (λ ls. AllByRecursion (SaidInForm (let h = (let d =
    p.draft in d.header) in h.objects)) ls) (kept p.draft fits) good.lines in
    record {
      form = in_form plan header
          (subst (λ q. AllByRecursion (SaidInForm (let h = (let r = q in r.header) in h.objects)) (plan_lines q)) back said);
      turns = subst (λ q. (let r = q in r.turns) ≤ 20000) back good.turns;
      some = subst (λ q. 0 < length (let r = q in r.programs)) back (some_program p.draft fits);
      few = subst (λ q. length (let r = q in r.programs) ≤ 16) back (let r = good.room in r.0);
    }
