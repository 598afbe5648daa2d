-- One line more of client programs.
use Rattle.std.proofs.Common.{◌≡◌, ◌≢◌, ◌∙◌, ◌≤◌, ◌<◌, ◌+◌, ℕ, List, [], ◌∷◌, ◌++◌, length, refl, sym, ap, subst, arith, true, false}
use Rattle.std.proofs.Common.{Option, Some, None}
use Rattle.std.proofs.Common.{append_assoc}
use Rattle.std.proofs.lemmas.Bool.{both_ways}
use Rattle.std.proofs.lemmas.List.{length-append}
use Rattle.std.specs.List.{AllByRecursion}
use Rattle.std.specs.Prelude.{Bool, IfSome, if◌then◌else◌}
use Rattle.arj_journal.specs.ScriptForm.{HeaderInForm}
use Rattle.arj_prog.specs.Drafts.{draft_behind, is_run, plan_of}
use Rattle.arj_prog.specs.Grammar.{Blank, Form, HasForm, Head, Says, Seed, Tells, TellsInForm, TellsSaid, Turns, next_place, seeded}
use Rattle.arj_prog.specs.declared.draft.Draft.{Draft}
use Rattle.arj_prog.specs.declared.place.Place.{Place}
use Rattle.arj_prog.specs.declared.place.Place.TheVariants.{Heading, Seeded, Drafting, Over}
use Rattle.arj_prog.specs.declared.plan.Plan.{Plan}
use Rattle.arj_prog.specs.declared.reader.ProgItem.{ProgItem}
use Rattle.arj_prog.specs.declared.reader.ProgItem.TheVariants as item
use Rattle.arj_prog.specs.declared.said.Said.{Said}
use Rattle.arj_prog.specs.declared.said.Said.TheVariants as said
use Rattle.arj_programs.specs.Input.{HaveForms, IsBlankBehind, IsFrontAt, IsPlan, beginning}
use Rattle.arj_programs.specs.Keeping.{plan_behind}
use Rattle.arj_programs.specs.Taking.{IsAt}
use Rattle.arj_programs.specs.declared.taking.Taking.{Taking}
use Rattle.arj_script.specs.Grammar as script

-- what the reader says of a line that it takes
abbrev pub Taken : Place → List ℕ → ProgItem → Place → Type 0
Taken place line i after = (form : Form) × HasForm place line form × Tells place form i × (after ≡ next_place place form)

forms_more : (place end : Place) (lines : List (List ℕ)) (forms : List Form) (line : List ℕ) (form : Form) →
    HaveForms place lines forms end → HasForm end line form →
    HaveForms place (lines ++ line ∷ []) (forms ++ form ∷ []) (next_place end form)
forms_more place end [] [] line form is has = (subst (λ p. HasForm p line form) (sym is) has, ap (λ p. next_place p form) is)
forms_more place end (l ∷ lines) (f ∷ forms) line form (h, more) has =
    (h, forms_more (next_place place f) end lines forms line form more has)
forms_more place end [] (f ∷ forms) line form is has = absurd is
forms_more place end (l ∷ lines) [] line form is has = absurd is

all_more : {X : Type 0} (P : X → Type 0) (xs : List X) (y : X) → AllByRecursion P xs → P y → AllByRecursion P (xs ++ y ∷ [])
all_more P [] y all one = (one, tt)
all_more P (x ∷ xs) y all one = (all.0, all_more P xs y all.1 one)

-- ---- before `run`

heading_not_over : (h : script.Place) → Heading h ≢ Over
heading_not_over h e = cc

seeded_not_over : (h : script.Place) (n : ℕ) → seeded h n ≢ Over
seeded_not_over script.Start n e = cc
seeded_not_over (script.Objects g) n e = cc
seeded_not_over script.Running n e = cc

drafting_not_over : (d : Draft) → Drafting d ≢ Over
drafting_not_over d e = cc

-- a part of the plan
part : (done : List (List ℕ)) (line : List ℕ) (place : Place) (form : Form) → ((forms : List Form) × HaveForms beginning done forms place) →
    HasForm place line form → next_place place form ≢ Over → IsFrontAt (done ++ line ∷ []) (next_place place form) None
part done line place form read has not = (not, (read.0 ++ form ∷ [], forms_more beginning place done read.0 line form read.1 has))

is_run_line : (s : Said) → is_run s ≡ true → s ≡ said.Run
is_run_line said.Run is = refl
is_run_line _ is = absurd (both_ways false refl is)

-- the line `run`
ended : (done : List (List ℕ)) (line : List ℕ) (d : Draft) (s : Said) (plan : Plan) →
    ((forms : List Form) × HaveForms beginning done forms (Drafting d)) → HasForm (Drafting d) line (Says s) → is_run s ≡ true →
    plan ≡ plan_of d → IsPlan (done ++ line ∷ []) plan
ended done line d s plan read has is plan_is = record {
  front = done;
  run = line;
  back = [];
  cut = refl;
  forms = read.0;
  draft = d;
  read = read.1;
  runs = subst (λ t. HasForm (Drafting d) line (Says t)) (is_run_line s is) has;
  plan_is = plan_is;
  blank = tt;
}

said_more : (done : List (List ℕ)) (line : List ℕ) (d : Draft) (s : Said) (i : ProgItem) (b : Bool) → is_run s ≡ b →
    ((forms : List Form) × HaveForms beginning done forms (Drafting d)) → HasForm (Drafting d) line (Says s) → TellsSaid b d i →
    IsFrontAt (done ++ line ∷ []) (if b then Over else Drafting (draft_behind s d)) (plan_behind i None)
said_more done line d s item.Part false is read has told =
    subst (λ b. IsFrontAt (done ++ line ∷ []) (if b then Over else Drafting (draft_behind s d)) None) is
    (part done line (Drafting d) (Says s) read has
    (subst (λ b. (if b then Over else Drafting (draft_behind s d)) ≢ Over) (sym is) (drafting_not_over (draft_behind s d))))
said_more done line d s (item.Run plan) true is read has told = (refl, ended done line d s plan read has is told)
said_more done line d s item.Blank true is read has told = absurd told
said_more done line d s item.Part true is read has told = absurd told
said_more done line d s item.Blank false is read has told = absurd told
said_more done line d s (item.Run plan) false is read has told = absurd told

none_more : (done : List (List ℕ)) (line : List ℕ) (place : Place) (form : Form) (i : ProgItem) → place ≢ Over →
    ((forms : List Form) × HaveForms beginning done forms place) → HasForm place line form → Tells place form i →
    IsFrontAt (done ++ line ∷ []) (next_place place form) (plan_behind i None)
none_more done line (Heading h) Blank item.Blank not read has told = part done line (Heading h) Blank read has not
none_more done line (Heading h) (Head f) item.Part not read has told = part done line (Heading h) (Head f) read has (heading_not_over _)
none_more done line (Heading h) (Seed n) item.Part not read has told = part done line (Heading h) (Seed n) read has (seeded_not_over h n)
none_more done line (Heading h) (Turns n) i not read has told = absurd has.fits
none_more done line (Heading h) (Says s) i not read has told = absurd has.fits
none_more done line (Seeded h seed) Blank item.Blank not read has told = part done line (Seeded h seed) Blank read has not
none_more done line (Seeded h seed) (Head f) i not read has told = absurd has.fits
none_more done line (Seeded h seed) (Seed n) i not read has told = absurd has.fits
none_more done line (Seeded h seed) (Turns n) item.Part not read has told =
    part done line (Seeded h seed) (Turns n) read has (drafting_not_over _)
none_more done line (Seeded h seed) (Says s) i not read has told = absurd has.fits
none_more done line (Drafting d) Blank item.Blank not read has told = part done line (Drafting d) Blank read has not
none_more done line (Drafting d) (Head f) i not read has told = absurd has.fits
none_more done line (Drafting d) (Seed n) i not read has told = absurd has.fits
none_more done line (Drafting d) (Turns n) i not read has told = absurd has.fits
none_more done line (Drafting d) (Says s) i not read has told = said_more done line d s i (is_run s) refl read has told
none_more done line Over form i not read has told = absurd (not refl)
none_more done line (Heading h) Blank item.Part not read has told = absurd told
none_more done line (Heading h) Blank (item.Run plan) not read has told = absurd told
none_more done line (Heading h) (Head f) item.Blank not read has told = absurd told
none_more done line (Heading h) (Head f) (item.Run plan) not read has told = absurd told
none_more done line (Heading h) (Seed n) item.Blank not read has told = absurd told
none_more done line (Heading h) (Seed n) (item.Run plan) not read has told = absurd told
none_more done line (Seeded h seed) Blank item.Part not read has told = absurd told
none_more done line (Seeded h seed) Blank (item.Run plan) not read has told = absurd told
none_more done line (Seeded h seed) (Turns n) item.Blank not read has told = absurd told
none_more done line (Seeded h seed) (Turns n) (item.Run plan) not read has told = absurd told
none_more done line (Drafting d) Blank item.Part not read has told = absurd told
none_more done line (Drafting d) Blank (item.Run plan) not read has told = absurd told

-- ---- behind it

behind : (done : List (List ℕ)) (line : List ℕ) (plan : Plan) → IsPlan done plan → HasForm Over line Blank → IsPlan (done ++ line ∷ []) plan
behind done line plan p has = record {
  front = p.front;
  run = p.run;
  back = p.back ++ line ∷ [];
  cut = ap (λ ls. ls ++ line ∷ []) p.cut ∙ append_assoc p.front (p.run ∷ p.back) (line ∷ []);
  forms = p.forms;
  draft = p.draft;
  read = p.read;
  runs = p.runs;
  plan_is = p.plan_is;
  blank = all_more IsBlankBehind p.back line p.blank has;
}

over_more : (done : List (List ℕ)) (line : List ℕ) (plan : Plan) (form : Form) (i : ProgItem) → IsPlan done plan → HasForm Over line form →
    Tells Over form i → IsFrontAt (done ++ line ∷ []) (next_place Over form) (plan_behind i (Some plan))
over_more done line plan Blank item.Blank p has told = (refl, behind done line plan p has)
over_more done line plan Blank item.Part p has told = absurd told
over_more done line plan Blank (item.Run q) p has told = absurd told
over_more done line plan (Head f) i p has told = absurd has.fits
over_more done line plan (Seed n) i p has told = absurd has.fits
over_more done line plan (Turns n) i p has told = absurd has.fits
over_more done line plan (Says s) i p has told = absurd has.fits

-- ---- a line more

at_more : (done : List (List ℕ)) (line : List ℕ) (place : Place) (o : Option Plan) (form : Form) (i : ProgItem) → IsFrontAt done place o →
    HasForm place line form → Tells place form i → IsFrontAt (done ++ line ∷ []) (next_place place form) (plan_behind i o)
at_more done line place None form i (not, read) has told = none_more done line place form i not read has told
at_more done line place (Some plan) form i (over, p) has told =
    subst (λ q. IsFrontAt (done ++ line ∷ []) (next_place q form) (plan_behind i (Some plan))) (sym over)
    (over_more done line plan form i p (subst (λ q. HasForm q line form) over has) (subst (λ q. Tells q form i) over told))

header_more : (i : ProgItem) (o : Option Plan) → TellsInForm i → IfSome o (λ plan. HeaderInForm plan.header) →
    IfSome (plan_behind i o) (λ plan. HeaderInForm plan.header)
header_more item.Blank o form h = h
header_more item.Part o form h = h
header_more (item.Run plan) o form h = form

pub taken_at : (done : List (List ℕ)) (line : List ℕ) (t : Taking) (after : Place) (i : ProgItem) → Taken t.reader line i after →
    TellsInForm i → t.lines < 100000 → IsAt done t →
    IsAt (done ++ line ∷ []) (record t { reader = after; plan = plan_behind i t.plan; lines = t.lines + 1 })
taken_at done line t after i (form, has, told, is) in_form room at =
    let front = at.front in
    let few : length (done ++ line ∷ []) ≤ 100000 = omega (arith, room, at.counted, length-append done (line ∷ [])) in
    record {
      counted = omega (arith, at.counted, length-append done (line ∷ []));
      front = record {
        at = subst (λ p. IsFrontAt (done ++ line ∷ []) p (plan_behind i t.plan)) (sym is)
            (at_more done line t.reader t.plan form i front.at has told);
        few = few;
      };
      header = header_more i t.plan in_form at.header;
    }

pub nothing_at : (t : Taking) → t.reader ≡ beginning → t.plan ≡ None → t.lines ≡ 0 → IsAt [] t
nothing_at t reader plan lines = record {
  counted = lines;
  front = record {
    at = subst (λ o. IsFrontAt [] t.reader o) (sym plan)
        ((λ over. heading_not_over script.Start (sym reader ∙ over)), ([], sym reader));
    few = let e : length {A = List ℕ} [] ≤ 100000 = omega arith in e;
  };
  header = subst (λ o. IfSome o (λ plan. HeaderInForm plan.header)) (sym plan) tt;
}
