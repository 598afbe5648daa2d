-- One line more of an image.
use Rattle.std.proofs.Common.{◌≡◌, ◌⊎◌, inl, inr, ℕ, ◌+◌, ◌≤◌, ◌<◌, List, [], ◌∷◌, ◌++◌, length, length-append, Bool, true, false, cond, refl, sym, ◌∙◌, ap, subst, arith}
use Rattle.std.proofs.Common.{◌||◌, nat_le}
use Rattle.std.proofs.lemmas.Bool.Decides.{nat_tests}
use Rattle.arj_auditing.specs.Found.{HasRoom}
use Rattle.arj_auditing.specs.Parts.{IsFront, Leads}
use Rattle.arj_auditing.specs.Taking.{IsAt, is_full_at}
use Rattle.arj_auditing.specs.declared.intake.Intake.{Intake}
use Rattle.arj_image.specs.Grammar.{Counts, FitsAt, Files, Form, FormatOne, Has, HasForm, Journal, Nodes, Object, Says, is_whole, next_at, next_place, nothing_read}
use Rattle.arj_image.specs.declared.image.Image.{Image}
use Rattle.arj_image.specs.declared.place.Place.{Place}
use Rattle.arj_image.specs.declared.place.Stage.{Stage}
use Rattle.arj_image.specs.declared.place.Stage.TheVariants as stage

leads_more : (p : Place) (lines : List (List ℕ)) (q : Place) (line : List ℕ) (f : Form) → Leads p lines q → HasForm q line f →
    Leads p (lines ++ line ∷ []) (next_place q f)
leads_more p [] q line f is has = (f, subst (λ r. HasForm r line f) (sym is) has, ap (λ r. next_place r f) is)
leads_more p (l ∷ lines) q line f (g, fits, leads) has = (g, fits, leads_more (next_place p g) lines q line f leads has)

-- a file more, where the lines so far were an image
files_at : (s : Stage) (i : Image) (f : Form) → FitsAt s i f →
    (let p = next_at s i f in let j = p.image in length j.files) ≡ cond (is_whole s) (length i.files + 1) (length i.files)
files_at stage.Start i (Nodes n) fits = refl
files_at stage.Objects i FormatOne fits = refl
files_at stage.Objects i (Object o) fits = refl
files_at stage.Objects i (Counts p) fits = refl
files_at stage.Counted i Journal fits = refl
files_at stage.Journal i (Says l) fits = refl
files_at stage.Journal i Files fits = refl
files_at stage.Files i (Has f) fits = length-append i.files (f ∷ [])
files_at stage.Start i FormatOne fits = absurd fits
files_at stage.Start i (Object o) fits = absurd fits
files_at stage.Start i (Counts p) fits = absurd fits
files_at stage.Start i Journal fits = absurd fits
files_at stage.Start i (Says l) fits = absurd fits
files_at stage.Start i Files fits = absurd fits
files_at stage.Start i (Has f) fits = absurd fits
files_at stage.Objects i (Nodes n) fits = absurd fits
files_at stage.Objects i Journal fits = absurd fits
files_at stage.Objects i (Says l) fits = absurd fits
files_at stage.Objects i Files fits = absurd fits
files_at stage.Objects i (Has f) fits = absurd fits
files_at stage.Counted i (Nodes n) fits = absurd fits
files_at stage.Counted i FormatOne fits = absurd fits
files_at stage.Counted i (Object o) fits = absurd fits
files_at stage.Counted i (Counts p) fits = absurd fits
files_at stage.Counted i (Says l) fits = absurd fits
files_at stage.Counted i Files fits = absurd fits
files_at stage.Counted i (Has f) fits = absurd fits
files_at stage.Journal i (Nodes n) fits = absurd fits
files_at stage.Journal i FormatOne fits = absurd fits
files_at stage.Journal i (Object o) fits = absurd fits
files_at stage.Journal i (Counts p) fits = absurd fits
files_at stage.Journal i Journal fits = absurd fits
files_at stage.Journal i (Has f) fits = absurd fits
files_at stage.Files i (Nodes n) fits = absurd fits
files_at stage.Files i FormatOne fits = absurd fits
files_at stage.Files i (Object o) fits = absurd fits
files_at stage.Files i (Counts p) fits = absurd fits
files_at stage.Files i Journal fits = absurd fits
files_at stage.Files i (Says l) fits = absurd fits
files_at stage.Files i Files fits = absurd fits

few_files : (b : Bool) (n m : ℕ) → m ≡ cond b (n + 1) n → n < 20000 → m ≤ 20000
few_files true n m is lt = omega (arith, is, lt)
few_files false n m is lt = omega (arith, is, lt)

-- a line more of the front of an image
pub front_more : (done : List (List ℕ)) (place : Place) (line : List ℕ) (f : Form) → IsFront done place → HasForm place line f → HasRoom done place →
    IsFront (done ++ line ∷ []) (next_place place f)
front_more done place line f front has room =
    let i = place.image in
    let next = next_place place f in
    let j = next.image in
    record {
      leads = leads_more nothing_read done place line f front.leads has;
      few = omega (arith, room.0, length-append done (line ∷ []));
      files = few_files (is_whole place.stage) (length i.files) (length j.files) (files_at place.stage place.image f has.fits) room.1;
    }

-- what is kept behind a line more
pub taken_more : (done : List (List ℕ)) (line : List ℕ) (old new : Intake) (whole : Bool) (f : Form) → IsAt done old → HasForm old.reader line f →
    HasRoom done old.reader → new.reader ≡ next_place old.reader f → new.lines ≡ old.lines + 1
    → new.files ≡ cond old.whole (old.files + 1) old.files → new.whole ≡ whole → whole ≡ (let p = new.reader in is_whole p.stage) → IsAt (done ++ line ∷ []) new
taken_more done line old new whole f at has room reader lines files was is =
    let p = old.reader in
    let i = p.image in
    let n = new.reader in
    let q = next_place old.reader f in
    record {
      front = subst (IsFront (done ++ line ∷ [])) (sym reader) (front_more done old.reader line f at.front has room);
      lines_are = lines ∙ ap (λ n. n + 1) at.lines_are ∙ sym (length-append done (line ∷ []));
      files_are = files ∙ (λ k. cond (at.whole_is k) (at.files_are k + 1) (at.files_are k)) ∙ sym (files_at p.stage p.image f has.fits)
          ∙ sym (ap (λ (r : Place). let j = r.image in length j.files) reader);
      whole_is = was ∙ is;
    }

room_in : (lines files most few : ℕ) → (nat_le most lines || nat_le few files) ≡ false → (lines < most) × (files < few)
room_in lines files most few full = by (nat_le most lines) refl (nat_le few files) refl full
  where
    by : (a : Bool) → nat_le most lines ≡ a → (b : Bool) → nat_le few files ≡ b → (a || b) ≡ false → (lines < most) × (files < few)
    by false e false g h = (grind (arith, nat_tests, e), grind (arith, nat_tests, g))
    by true e b g h = cc h
    by false e true g h = cc h

-- there is room for another
pub has_room : (done : List (List ℕ)) (taken : Intake) → IsAt done taken → is_full_at taken ≡ false → HasRoom done taken.reader
has_room done taken at free =
    let room = room_in taken.lines taken.files 2000000 20000 free in
    (omega (arith, room.0, at.lines_are), omega (arith, room.1, at.files_are))

full_in : (lines files most few : ℕ) → (nat_le most lines || nat_le few files) ≡ true → (most ≤ lines) ⊎ (few ≤ files)
full_in lines files most few full = by (nat_le most lines) refl (nat_le few files) refl full
  where
    by : (a : Bool) → nat_le most lines ≡ a → (b : Bool) → nat_le few files ≡ b → (a || b) ≡ true → (most ≤ lines) ⊎ (few ≤ files)
    by true e b g h = inl (grind (arith, nat_tests, e))
    by false e true g h = inr (grind (arith, nat_tests, g))
    by false e false g h = cc h

-- there is none
pub has_no_room : (done : List (List ℕ)) (taken : Intake) → IsAt done taken → is_full_at taken ≡ true →
    (length done ≡ 2000000) ⊎ (let p = taken.reader in let i = p.image in length i.files ≡ 20000)
has_no_room done taken at full = by (full_in taken.lines taken.files 2000000 20000 full)
  where
    front : IsFront done taken.reader
    front = at.front

    by : (2000000 ≤ taken.lines) ⊎ (20000 ≤ taken.files) → (length done ≡ 2000000) ⊎ (let p = taken.reader in let i = p.image in length i.files ≡ 20000)
    by (inl many) = inl (omega (arith, many, at.lines_are, front.few))
    by (inr many) = inr (omega (arith, many, at.files_are, front.files))

-- few lines were taken
pub few_lines : (done : List (List ℕ)) (taken : Intake) → IsAt done taken → taken.lines ≤ 2000000
few_lines done taken at = let front = at.front in omega (arith, at.lines_are, front.few)
