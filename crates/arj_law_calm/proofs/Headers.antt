-- The header that goes on.
use Rattle.std.proofs.Common.{◌≡◌, ◌∙◌, ◌==◌, ◌+◌, ℕ, Bool, true, false, cond, List, [], ◌∷◌, map, find, Option, Some, None}
use Rattle.std.proofs.Common.{is_some, refl, sym, ap}
use Rattle.std.proofs.Common.{subst, arith, eqb-true, if◌then◌else◌}
use Rattle.std.specs.List.{AllByRecursion, list_any}
use Rattle.std.specs.Option.{option_map}
use Rattle.arj_class.specs.Forms.{FormatHolds}
use Rattle.arj_class.specs.Table.{value_after}
use Rattle.arj_class.specs.declared.value.Value.{Value}
use Rattle.arj_journal.specs.ScriptForm.{HeaderInForm}
use Rattle.arj_journal.specs.declared.body.Line.{Line}
use Rattle.arj_journal.specs.declared.header.Header.{Header}
use Rattle.arj_journal.specs.declared.header.ObjectLine.{ObjectLine}
use Rattle.arj_law.proofs.Last.{value_of_writes}
use Rattle.arj_law.specs.Joined.{GoesOn, marks_after, values_after}
use Rattle.arj_model.specs.Calls.{Call}
use Rattle.arj_model.specs.Last.{count_tops, first_values, listed, object_line, servers_of_line, stores_of_line, value_of_line, writes_of}
use Rattle.arj_model.specs.Serial.{Values, run, serial_calls}
use Rattle.arj_law.proofs.{Common.all_map, JoinedLists.all_over, Moves.all_arrange}
use Rattle.arj_model.specs.Calls.{committed_calls, tops}
use Rattle.arj_model.specs.Serial.{serial_less, with_value}
use Rattle.arj_promise.specs.Runs.{FirstsAreHeld}
use Rattle.arj_reading.specs.Readable.{object_rule}
use Rattle.arj_replay.specs.Verdict.{HasCall}
use Rattle.arj_class.specs.declared.value.Value.TheVariants.{Counter}
use Rattle.arj_law_calm.specs.Next.{next_header, next_object}

-- ---- what is found of a number

-- what is found has the number
has_number : (x : ℕ) (os : List ObjectLine) (o : ObjectLine) → find (λ (p : ObjectLine). p.x == x) os ≡ Some o → o.x ≡ x
has_number x [] o is = absurd (cc is)
has_number x (p ∷ ps) o is = by (p.x == x) refl is (has_number x ps o)
  where
    by : (b : Bool) → (p.x == x) ≡ b → (if b then Some p else find (λ (q : ObjectLine). q.x == x) ps) ≡ Some o →
        (find (λ (q : ObjectLine). q.x == x) ps ≡ Some o → o.x ≡ x) → o.x ≡ x
    by true e f ih = let same : p ≡ o = cc f in ap (λ (q : ObjectLine). q.x) (sym same) ∙ eqb-true p.x x e
    by false e f ih = ih f

-- what holds of each object holds of what is found
pub holds_found : (P : Value → Type 0) → P (Counter 0) → (x : ℕ) (os : List ObjectLine) →
    AllByRecursion (λ (o : ObjectLine). P o.value) os →
    P (value_of_line (find (λ (p : ObjectLine). p.x == x) os))
holds_found P none x [] all = none
holds_found P none x (o ∷ os) all = by (o.x == x) (holds_found P none x os all.1)
  where
    by : (b : Bool) → P (value_of_line (find (λ (p : ObjectLine). p.x == x) os)) →
        P (value_of_line (if b then Some o else find (λ (p : ObjectLine). p.x == x) os))
    by true ih = all.0
    by false ih = ih

-- ---- an object that no call is of keeps its value

abbrev IsOff : ℕ → Call → Type 0
IsOff x c = (x == c.x) ≡ false

run_off : (values : Values) (x : ℕ) (cs : List Call) → AllByRecursion (IsOff x) cs → run values cs x ≡ values x
run_off values x [] off = refl
run_off values x (c ∷ cs) off = run_off (with_value values c.x (value_after c.op (values c.x))) x cs off.1
    ∙ (λ i. cond (off.0 i) (value_after c.op (values c.x)) (values x))

-- ---- what was never written

pub none_counted : (cs : List Call) → 0 + count_tops cs ≡ 0 → cs ≡ []
none_counted [] e = refl
none_counted (c ∷ cs) e = absurd (by (list_any (λ (d : Call). d.top == c.top) cs) refl e (none_counted cs))
  where
    by : (b : Bool) → list_any (λ (d : Call). d.top == c.top) cs ≡ b → 0 + cond b (count_tops cs) (count_tops cs + 1) ≡ 0 →
        (0 + count_tops cs ≡ 0 → cs ≡ []) → ⊥
    by false any is ih = omega (arith, is)
    by true any is ih =
        let no_way : false ≡ true = ap (λ ds. list_any (λ (d : Call). d.top == c.top) ds) (sym (ih is)) ∙ any in
        cc no_way

module _ (header : Header) (lines : List Line) where
  abbrev next : ObjectLine → ObjectLine
  next = next_object header lines

  -- the line of an object goes on
  found : (x : ℕ) (os : List ObjectLine) →
      find (λ (o : ObjectLine). o.x == x) (map next os) ≡ option_map next (find (λ (o : ObjectLine). o.x == x) os)
  found x [] = refl
  found x (o ∷ os) = by (o.x == x) (found x os)
    where
      by : (b : Bool) → find (λ (p : ObjectLine). p.x == x) (map next os) ≡ option_map next (find (λ (p : ObjectLine). p.x == x) os) →
          (if b then Some (next o) else find (λ (p : ObjectLine). p.x == x) (map next os))
          ≡ option_map next (if b then Some o else find (λ (p : ObjectLine). p.x == x) os)
      by true ih = refl
      by false ih = ih

  pub line_next : (x : ℕ) → object_line (next_header header lines) x ≡ option_map next (object_line header x)
  line_next x = found x header.objects

  -- what is so of the line of object x, and of none, is so of what is found
  by_line : (P : Option ObjectLine → Type 0) (x : ℕ) → (object_line header x ≡ None → P None) →
      ((o : ObjectLine) → object_line header x ≡ Some o → o.x ≡ x → P (Some o)) → P (object_line header x)
  by_line P x none some = by (object_line header x) refl
    where
      by : (o : Option ObjectLine) → object_line header x ≡ o → P o
      by None e = none e
      by (Some o) e = some o e (has_number x header.objects o e)

  -- calls are of objects of the header
  unnamed_off : (x : ℕ) → object_line header x ≡ None → (c : Call) → HasCall header lines c → IsOff x c
  unnamed_off x none c has = by (x == c.x) refl
    where
      by : (b : Bool) → (x == c.x) ≡ b → b ≡ false
      by false e = refl
      by true e =
          let same : object_rule None c.op ≡ None = ap (λ o. object_rule o c.op) (sym none ∙ ap (object_line header)
          (eqb-true x c.x e)) ∙ has.has in
          absurd (cc same)

  abbrev Stays : ℕ → Option ObjectLine → Type 0
  Stays x o = value_of_line (option_map next o) ≡ values_after (first_values header) lines x

  pub goes : AllByRecursion (HasCall header lines) (committed_calls lines) → ((x : ℕ) → is_some (object_line header x) ≡ false →
      listed header lines x ≡ []) → GoesOn header lines (next_header header lines)
  goes calls lists = record {
    objects = λ x. ap is_some (line_next x) ∙ some_next (object_line header x);
    servers = λ x. ap servers_of_line (line_next x) ∙ servers_next (object_line header x);
    stores = λ x. ap stores_of_line (line_next x) ∙ by_line (λ o. stores_of_line (option_map next o) ≡ listed header lines x) x
        (λ none. sym (lists x (ap is_some none))) (λ o is at. ap (listed header lines) at);
    values = λ x. ap value_of_line (line_next x) ∙ by_line (Stays x) x
        (λ none. sym (run_off (first_values header) x (serial_calls lines) (all_arrange (IsOff x) (serial_less (tops lines))
        (committed_calls lines)
        (all_map (HasCall header lines) (IsOff x) (unnamed_off x none) (committed_calls lines) calls)) ∙ ap value_of_line none))
        (λ o is at. ap (values_after (first_values header) lines) at);
    format = refl;
  }
    where
      some_next : (o : Option ObjectLine) → is_some (option_map next o) ≡ is_some o
      some_next None = refl
      some_next (Some o) = refl

      servers_next : (o : Option ObjectLine) → servers_of_line (option_map next o) ≡ servers_of_line o
      servers_next None = refl
      servers_next (Some o) = refl

  pub firsts_held : HeaderInForm header → FirstsAreHeld (next_header header lines) (marks_after header lines)
  firsts_held form = all_over (λ (o : ObjectLine). FormatHolds header.format o.value)
      (λ (o : ObjectLine). (let ms = marks_after header lines in let m = ms.states o.x in m.version) ≡ 0 →
      FormatHolds header.format o.value)
      next (λ o holds first. subst (FormatHolds header.format) (sym (stays o.x first))
      (holds_found (FormatHolds header.format) tt o.x header.objects form.held)) header.objects form.held
    where
      stays : (x : ℕ) → 0 + count_tops (writes_of lines x) ≡ 0 → run (first_values header) (serial_calls lines) x ≡ first_values header x
      stays x first = value_of_writes (first_values header) lines x
          ∙ ap (λ ws. run (first_values header) ws x) (none_counted (writes_of lines x) first)
