-- What is right at a line, behind lines that are right, keeps the rules by which journals are read.
use Rattle.arj_law_parts.proofs.Words
use Words.{⊤, ◌≡◌, ◌≤◌, ◌&&◌, ◌||◌, ◌+◌, ◌==◌, ◌∙◌, ℕ, Bool, true, false, cond, not, List, [], ◌∷◌, Option, Some, None, refl, sym, ap}
use Words.{subst, inl, inr}
use Words.{arith, nat_tests, length, nat_lt, nat_le, option_map, is_some, uid_eq, uid_is, is_on, In, in_find_none, in_from}
use Words.{name}
use Words.{Body, Header, Kind, Label, Line, ObjectLine, Op, Uid, class_at, class_in, lacks_op, is_serial}
use Words.body
use Words.kind
use Rattle.arj_law_promise.proofs.Terms.{HasObject}
use Rattle.arj_law_runs.proofs.Terms
use Terms.{Act, act_in, acts, path, upwards, has_end, read, Book, book, new_book, is_over, is_top, AreRight, IsBelow}
use Terms.{Right, has_act}
use Rattle.arj_law_runs.proofs.journal.{Books.never, Books.sane_lines, Books.sane_new}
use Rattle.arj_law_runs.proofs.journal.Models.{its_acts, its_call, its_end, named_in}
use Rattle.arj_law_runs.specs.journal.Laws.{called, called_of}
use Rattle.arj_class.specs.Forms.{is_op_in_form}
use Rattle.arj_class.specs.Table.{has_op, own_class}
use Rattle.arj_class.specs.declared.limits.TheConstants.{REGISTER_BYTES}
use Rattle.arj_class.specs.declared.op.Op.TheVariants as op
use Rattle.arj_model.specs.Actions.{ended}
use Rattle.arj_model.specs.Last.{object_line}
use Rattle.arj_start.specs.Limits.{most_on_path}
use Rattle.arj_reading.specs.Readable as reading
use reading.{met, act_by, has_parent, is_parent_of, named_as, object_rule, of_begun, or_else, recovered_rule, unless}
use Rattle.arj_reading.specs.declared.limits.TheConstants.{PATH_ACTIONS}
use Rattle.arj_reading.specs.declared.named.Named.{Named}
use Rattle.arj_reading.specs.declared.rule.Rule.{Rule}
use Rattle.arj_reading.specs.declared.rule.Rule.TheVariants as rule
use Rattle.arj_text.specs.Fields.{OpTextInForm}

-- ---- the same in two places

same_call : (us : List Act) (b : Body) → called_of us b ≡ reading.called_of us b
same_call us (body.Committing l) = refl
same_call us b = refl

called_same : (lines : List Line) → called lines ≡ reading.called lines
called_same lines = λ i. read (λ us b. same_call us b i) [] 0 lines

top_same : (k : Kind) → is_top k ≡ reading.is_top k
top_same kind.Top = refl
top_same kind.Serial = refl
top_same kind.Nested = refl
top_same kind.Constituent = refl
top_same kind.Independent = refl

-- ---- rules

holds : (b : Bool) (r : Rule) → b ≡ true → unless b r ≡ None
holds b r is = ap (λ x. unless x r) is

fails : (b : Bool) (r : Rule) → b ≡ false → unless (not b) r ≡ None
fails b r is = ap (λ x. unless (not x) r) is

both : (p q : Option Rule) → p ≡ None → q ≡ None → or_else p q ≡ None
both p q a b = ap (λ z. or_else z q) a ∙ b

-- ---- actions by their Uids

act_found : (us : List Act) (u : Uid) → has_act us u ≡ true → (a : Act) × (act_by us u ≡ Some a) × In a us × (a.uid ≡ u)
act_found [] u on = absurd (cc on)
act_found (x ∷ us) u on = by (uid_eq x.uid u) refl on (act_found us u)
  where
    by : (b : Bool) → uid_eq x.uid u ≡ b → (b || has_act us u) ≡ true →
        (has_act us u ≡ true → (a : Act) × (act_by us u ≡ Some a) × In a us × (a.uid ≡ u)) →
        (a : Act) × (cond b (Some x) (act_by us u) ≡ Some a) × In a (x ∷ us) × (a.uid ≡ u)
    by true same e ih = (x, refl, inl refl, uid_is x.uid u same)
    by false other e ih = let r = ih e in (r.0, r.1, inr r.2, r.3)

act_new : (us : List Act) (u : Uid) → has_act us u ≡ false → act_by us u ≡ None
act_new [] u off = refl
act_new (x ∷ us) u off = by (uid_eq x.uid u) off (act_new us u)
  where
    by : (b : Bool) → (b || has_act us u) ≡ false → (has_act us u ≡ false → act_by us u ≡ None) → cond b (Some x) (act_by us u) ≡ None
    by true e ih = absurd (cc e)
    by false e ih = ih e

-- ---- an action begins

parent_fits : (us : List Act) (k : Kind) (q : Option (List ℕ)) → IsBelow us k q → has_parent us k q ≡ true
parent_fits us kind.Top None below = refl
parent_fits us kind.Serial None below = refl
parent_fits us kind.Independent (Some q) (s, named, plain) =
    ap (λ o. is_parent_of kind.Independent (option_map named_as o)) named ∙ ap not plain
parent_fits us kind.Nested (Some q) (s, named, plain) =
    ap (λ o. is_parent_of kind.Nested (option_map named_as o)) named ∙ ap not plain
parent_fits us kind.Constituent (Some q) (s, named, serial) =
    ap (λ o. is_parent_of kind.Constituent (option_map named_as o)) named ∙ serial
parent_fits us kind.Top (Some q) below = absurd below
parent_fits us kind.Serial (Some q) below = absurd below
parent_fits us kind.Independent None below = absurd below
parent_fits us kind.Nested None below = absurd below
parent_fits us kind.Constituent None below = absurd below

-- where an action begins behind these, its path is short
abbrev pub ShortBegin : List Act → Body → Type 0
ShortBegin us (body.Began l k u p) = length (upwards (option_map name p) k (path us)) + 1 ≤ most_on_path
ShortBegin us _ = ⊤

less_deep : (n : ℕ) → n + 1 ≤ most_on_path → nat_lt n PATH_ACTIONS ≡ true
less_deep n le = grind (arith, nat_tests, le)

-- ---- an operation

-- a call's object is there and has its operation
abbrev pub CallFits : Header → Body → Type 0
CallFits hd (body.Ok l x o r) = object_rule (object_line hd x) o ≡ None
CallFits hd _ = ⊤

form_fits : (o : Op) → OpTextInForm o → is_op_in_form o ≡ true
form_fits (op.Put bytes) form = short (length bytes) form.0
  where
    short : (n : ℕ) → n ≤ REGISTER_BYTES → nat_le n REGISTER_BYTES ≡ true
    short n le = grind (arith, nat_tests, le)
form_fits (op.Create v) form = ap not form.1
form_fits o form = refl

pub object_fits : (hd : Header) (x : ℕ) (o : Op) → HasObject hd x → lacks_op o (class_at x hd) ≡ false → OpTextInForm o →
    object_rule (object_line hd x) o ≡ None
object_fits hd x o has fits form = by (object_line hd x) refl fits
  where
    itself : (n : ℕ) → (n == n) ≡ true
    itself n = grind arith

    its_op : (b : Bool) → not b ≡ false → unless (b && is_op_in_form o) rule.Operation ≡ None
    its_op true e = holds (is_op_in_form o) rule.Operation (form_fits o form)
    its_op false e = absurd (cc e)

    by : (f : Option ObjectLine) → object_line hd x ≡ f → lacks_op o (class_in f) ≡ false → object_rule f o ≡ None
    by None none e = never (ap (λ y. y == x) has.2 ∙ itself x)
        (in_find_none (λ (p : ObjectLine). p.x == x) has.0 hd.objects none (in_from has.0 hd.objects has.1))
    by (Some p) found e = its_op (has_op (own_class p.value) o) e

-- ---- a line

module _ (hd : Header) (before : List Line) (right : AreRight new_book before) where
  abbrev B : Book
  B = book before

  module _ (a : Act) (there : In a (acts before)) where
    unended : (let V = book before in is_over V a.uid) ≡ false → has_end (ended before) a.id ≡ false
    unended off = its_end before right a there ∙ off

    calls : (c : Bool) → is_on (let V = book before in V.called) a.uid ≡ c → has_end (reading.called before) a.id ≡ c
    calls c is = ap (λ cs. has_end cs a.id) (sym (called_same before)) ∙ its_call before right a there ∙ is

  -- the action of a label
  module _ (l : Label) (a : Act) (named : act_in (let V = book before in V.acts) (name l) ≡ Some a) where
    here : act_in (acts before) (name l) ≡ Some a
    here = ap (λ xs. act_in xs (name l)) (sym (its_acts before right)) ∙ named

    in_acts : In a (acts before)
    in_acts = named_in (acts before) (name l) a here

    of_named : (f : Named → Option Rule) → f (named_as a) ≡ None → of_begun (reading.named (acts before) (name l)) f ≡ None
    of_named f is = ap (λ o. of_begun (option_map named_as o) f) here ∙ is

  was_called : (h c : Bool) → h ≡ c → cond c h true ≡ true
  was_called h true is = is
  was_called h false is = refl

  pub line_keeps : (b : Body) → Right (book before) b → ShortBegin (acts before) b → CallFits hd b →
      reading.body_rule hd (met before) b ≡ None
  line_keeps (body.Began l k u p) (label, uid, below, open_in) short fits =
      let same = its_acts before right in
      both _ _ (ap (λ o. unless (not (is_some (option_map named_as o))) rule.NewLabel)
      (ap (λ xs. act_in xs (name l)) (sym same) ∙ label))
      (both _ _ (ap (λ o. unless (not (is_some (option_map named_as o))) rule.NewUid)
      (act_new (acts before) u (ap (λ xs. has_act xs u) (sym same) ∙ uid)))
      (both _ _ (holds _ rule.Parent (parent_fits (acts before) k (option_map name p)
      (subst (λ xs. IsBelow xs k (option_map name p)) same below)))
      (holds _ rule.Depth (less_deep (length (upwards (option_map name p) k (path (acts before)))) short))))
  line_keeps (body.Recovered n u) may short fits =
      let sane = sane_lines new_book before right sane_new in
      let f = act_found (acts before) u (ap (λ xs. has_act xs u) (sym (its_acts before right)) ∙ sane.called u may.called) in
      ap (λ o. recovered_rule (reading.called before) (option_map named_as o)) f.1
      ∙ holds _ rule.Called (calls f.0 f.2 true (ap (is_on (let V = book before in V.called)) f.3 ∙ may.called))
  line_keeps (body.Ok l x o r) (a, asks, quiet) short fits =
      of_named l a asks.named (reading.named_rule hd (met before) (body.Ok l x o r))
      (both _ _ fits (fails (is_serial a.kind) rule.SerialCalls asks.unserial))
  line_keeps (body.Committing l) (a, opened, top, quiet, closed) short fits =
      of_named l a opened.named (reading.named_rule hd (met before) (body.Committing l))
      (both _ _ (holds _ rule.CommitOfTop (sym (top_same a.kind) ∙ top))
      (fails _ rule.OneCommit (calls a (in_acts l a opened.named) false quiet)))
  line_keeps (body.Committed l) (a, opened, plain, called_as) short fits =
      let there = in_acts l a opened.named in
      of_named l a opened.named (reading.named_rule hd (met before) (body.Committed l))
      (both _ _ (fails _ rule.EndOfKind plain) (both _ _ (fails _ rule.OneEnd (unended a there opened.unended))
      (holds _ rule.Called (was_called (has_end (reading.called before) a.id) (reading.is_top a.kind)
      (calls a there (is_top a.kind) called_as ∙ top_same a.kind)))))
  line_keeps (body.Ended l) (a, opened, serial) short fits =
      of_named l a opened.named (reading.named_rule hd (met before) (body.Ended l))
      (both _ _ (holds _ rule.EndOfKind serial) (fails _ rule.OneEnd (unended a (in_acts l a opened.named) opened.unended)))
  line_keeps (body.Aborted l c) (a, opened) short fits =
      of_named l a opened.named (reading.named_rule hd (met before) (body.Aborted l c))
      (fails _ rule.OneEnd (unended a (in_acts l a opened.named) opened.unended))
  line_keeps (body.Includes l x n) (a, asks, quiet) short fits = of_named l a asks.named (λ z. None) refl
  line_keeps (body.Excluded l x n) (a, asks, on) short fits = of_named l a asks.named (λ z. None) refl
  line_keeps (body.Conflict l h m n) (a, named) short fits = of_named l a named (λ z. None) refl
  line_keeps (body.Lost l n) (a, named) short fits = of_named l a named (λ z. None) refl
  line_keeps (body.Changed l n d) (a, named) short fits = of_named l a named (λ z. None) refl
  line_keeps (body.GaveUp l n) (a, named) short fits = of_named l a named (λ z. None) refl
  line_keeps b right short fits = refl
