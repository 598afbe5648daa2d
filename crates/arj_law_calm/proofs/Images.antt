-- Calm images leave what a run can begin with.
use Rattle.std.proofs.Common.{◌≡◌, ◌≤◌, ◌<◌, ◌+◌, ◌-◌, ◌==◌, ◌&&◌, ℕ, List, [], ◌∷◌, ◌++◌, length, Bool, true, false, Option, Some, None}
use Rattle.std.proofs.Common.{refl, sym, ◌∙◌, ap, subst}
use Rattle.std.proofs.Common.{arith, if◌then◌else◌, nat_lt, nat_le}
use Rattle.std.specs.List.{AllByRecursion, list_all}
use Rattle.std.specs.Option.{option_map, unwrap_or}
use Rattle.std.proofs.lemmas.Bool.{and_parts, leb-true}
use Rattle.arj_audit.specs.Calm.{IsCalm}
use Rattle.arj_base.specs.declared.state.Format.{Format}
use Rattle.arj_disk.specs.declared.slot.Slot.{Slot}
use Rattle.arj_disk.specs.declared.slot.Slot.TheVariants as slot
use Rattle.arj_image.specs.Grammar.{ObjectFits}
use Rattle.arj_image.specs.Texts.{is_last}
use Rattle.arj_image.specs.Written.{AreInTurn, ImageInForm}
use Rattle.arj_image.specs.declared.image.Image.{Image}
use Rattle.arj_image.specs.declared.image.NodeFile.{NodeFile}
use Rattle.arj_journal.specs.ScriptForm.{AreHeld, HeaderInForm, ObjectLineInForm, are_by_number}
use Rattle.arj_journal.specs.declared.body.Body.{Body}
use Rattle.arj_journal.specs.declared.body.Body.TheVariants as body
use Rattle.arj_journal.specs.declared.body.Line.{Line}
use Rattle.arj_journal.specs.declared.header.ObjectLine.{ObjectLine}
use Rattle.arj_model.specs.Actions.{Begun, begun_of}
use Rattle.arj_reading.specs.Readable.{Readable}
use Rattle.arj_rest.specs.Nodes.{body_fits, frame_of, is_within, line_fits}
use Rattle.arj_saved.specs.Files.{are_in_place, inc_at, inc_in, is_in_place, is_inc, is_inc_slot}
use Rattle.arj_saved.specs.Saved.{disks_of}
use Rattle.arj_saved.specs.declared.files.TheConstants.{MOST_COUNT}
use Rattle.arj_text.specs.Label.{name}
use Rattle.arj_law_calm.specs.Leaves.{HasBegun, Leaves}
use Rattle.arj_law_calm.specs.Starts.{incs_before}

-- ---- the header

last_of : {A : Type 0} (t : A → Bool) (xs : List A) (a : A) → is_last t (xs ++ a ∷ []) ≡ t a
last_of t [] a = refl
last_of t (x ∷ []) a = refl
last_of t (x ∷ y ∷ xs) a = last_of t (y ∷ xs) a

module _ (nodes : ℕ) (f : Format) where
  forms : (before os : List ObjectLine) → AreInTurn (ObjectFits nodes f) before os → AllByRecursion (ObjectLineInForm nodes) os
  forms before [] turn = tt
  forms before (o ∷ os) turn = (turn.0.0, forms (before ++ o ∷ []) os turn.1)

  holds : (before os : List ObjectLine) → AreInTurn (ObjectFits nodes f) before os → AreHeld f os
  holds before [] turn = tt
  holds before (o ∷ os) turn = (turn.0.2, holds (before ++ o ∷ []) os turn.1)

  rises : (before os : List ObjectLine) → AreInTurn (ObjectFits nodes f) before os → are_by_number os ≡ true
  rises before [] turn = refl
  rises before (o ∷ []) turn = refl
  rises before (o ∷ p ∷ os) turn =
      let above : nat_lt o.x p.x ≡ true = sym (last_of (λ (q : ObjectLine). nat_lt q.x p.x) before o) ∙ turn.1.0.1 in
      let more : are_by_number (p ∷ os) ≡ true = rises (before ++ o ∷ []) (p ∷ os) turn.1 in
      λ i. above i && more i

header_form : (image : Image) → ImageInForm image → HeaderInForm image.header
header_form image form = record {
  nodes = form.nodes;
  objects = (
    forms (let h = image.header in h.nodes) (let h = image.header in h.format) [] (let h = image.header in h.objects) form.objects,
    rises (let h = image.header in h.nodes) (let h = image.header in h.format) [] (let h = image.header in h.objects) form.objects,
  );
  held = holds (let h = image.header in h.nodes) (let h = image.header in h.format) [] (let h = image.header in h.objects) form.objects;
}

-- ---- incarnations

inc_there : (n : ℕ) (q : Slot) (bytes : List ℕ) → is_inc_slot q ≡ true → is_in_place n q bytes ≡ true → is_inc (inc_in bytes) ≡ true
inc_there n slot.Incarnation bytes is there = there
inc_there n q bytes is there = absurd (cc is)

most : (o : Option ℕ) → is_inc o ≡ true → (i : ℕ) → o ≡ Some i → i ≤ MOST_COUNT
most None is i e = absurd (cc is)
most (Some m) is i e = let same : m ≡ i = cc e in
    subst (λ k. k ≤ MOST_COUNT) same (leb-true m MOST_COUNT (and_parts (nat_le 1 m) (nat_le m MOST_COUNT) is).1)

-- none is too great
inc_low : (files : List NodeFile) → are_in_place files ≡ true → (n i : ℕ) → inc_at files n ≡ Some i → i ≤ MOST_COUNT
inc_low [] place n i is = absurd (cc is)
inc_low (f ∷ fs) place n i is = by ((f.node == n) && is_inc_slot f.slot) refl is (inc_low fs parts.1 n i)
  where
    parts : (is_in_place f.node f.slot f.bytes ≡ true) × (are_in_place fs ≡ true)
    parts = and_parts (is_in_place f.node f.slot f.bytes) (are_in_place fs) place

    by : (b : Bool) → ((f.node == n) && is_inc_slot f.slot) ≡ b → (if b then inc_in f.bytes else inc_at fs n) ≡ Some i →
        (inc_at fs n ≡ Some i → i ≤ MOST_COUNT) → i ≤ MOST_COUNT
    by true e is ih =
        most (inc_in f.bytes) (inc_there f.node f.slot f.bytes (and_parts (f.node == n) (is_inc_slot f.slot) e).1 parts.0) i is
    by false e is ih = ih is

low_before : (files : List NodeFile) → are_in_place files ≡ true → (n : ℕ) → incs_before files n < 4000000000
low_before files place n = by (inc_at files n) refl
  where
    by : (o : Option ℕ) → inc_at files n ≡ o → unwrap_or o 0 - 1 < 4000000000
    by None e = omega arith
    by (Some i) e = let top : i ≤ 4000000000 = inc_low files place n i e in omega (arith, top)

-- ---- actions

known_begun : (nodes : ℕ) (files : List NodeFile) (b : Body) → body_fits nodes files b ≡ true → (g : Begun) → begun_of b ≡ Some g →
    HasBegun (incs_before files) g.uid
known_begun nodes files (body.Began l k u p) fits g is =
    let same : record { label = name l; kind = k; uid = u; parent = option_map name p } ≡ g = cc is in
    subst (λ (c : Begun). HasBegun (incs_before files) c.uid) same (by (inc_at files u.node) refl parts.1)
  where
    rest : (nat_le 1 u.node ≡ true) × ((nat_le u.node nodes && is_within u.inc (inc_at files u.node)) ≡ true)
    rest = and_parts (nat_le 1 u.node) (nat_le u.node nodes && is_within u.inc (inc_at files u.node)) fits

    parts : (nat_le u.node nodes ≡ true) × (is_within u.inc (inc_at files u.node) ≡ true)
    parts = and_parts (nat_le u.node nodes) (is_within u.inc (inc_at files u.node)) rest.1

    by : (o : Option ℕ) → inc_at files u.node ≡ o → is_within u.inc o ≡ true → HasBegun (incs_before files) u
    by None e within = absurd (cc within)
    by (Some i) e within = (
      leb-true 1 u.node rest.0,
      (let le = leb-true u.inc i within in
          let is : incs_before files u.node ≡ i - 1 = ap (λ (o : Option ℕ). unwrap_or o 0 - 1) e in omega (arith, le, is)),
    )
known_begun nodes files b fits g is = absurd (cc is)

known : (image : Image) (ls : List Line) → list_all (line_fits image) ls ≡ true →
    AllByRecursion (λ (l : Line). (b : Begun) → begun_of l.body ≡ Some b → HasBegun (incs_before image.files) b.uid) ls
known image [] fits = tt
known image (l ∷ ls) fits = (
  known_begun (let h = image.header in h.nodes) image.files l.body
      (and_parts (nat_le (frame_of l.body) image.frames) (body_fits (let h = image.header in h.nodes) image.files l.body)
      (and_parts (nat_le l.event image.events) (nat_le (frame_of l.body) image.frames
      && body_fits (let h = image.header in h.nodes) image.files l.body) parts.0).1).1,
  known image ls parts.1,
)
  where
    parts : (line_fits image l ≡ true) × (list_all (line_fits image) ls ≡ true)
    parts = and_parts (line_fits image l) (list_all (line_fits image) ls) fits

-- ---- all of it

pub leaves : (image : Image) → ImageInForm image → length image.journal < 4294967296 → Readable image.header image.journal → IsCalm image →
    Leaves image.header image.journal (disks_of image.files) (incs_before image.files)
leaves image form few readable calm = record {
  header_form = header_form image form;
  readable = readable;
  form = form.journal;
  few = few;
  known = known image image.journal (let s = calm.stopped in let n = s.nodes in n.fits);
  low = low_before image.files (let s = calm.stopped in s.files);
  past = (let t = calm.true_to in t.past);
}
