-- What is found where reading ended, and what it leaves.
use Rattle.std.proofs.Common.{◌≡◌, ◌⊎◌, inl, inr, ℕ, ◌+◌, List, ◌++◌, Bool, true, false, Option, Some, None, refl, sym, ◌∙◌, ap, subst}
use Rattle.std.proofs.Common.{arith}
use Rattle.std.specs.Prelude.{◌↔◌, codes, if◌then◌else◌}
use Rattle.std.proofs.Math.Logic.{⊎_elim}
use Rattle.arj_checking.specs.Checks.{Checks, Ends, IsInOrder, Writes}
use Rattle.arj_checking.specs.Found.{Finds, IsBadAt, IsBadIn, IsTooMany, IsWhole, finding_status, finding_text, order_text, outside_text}
use Rattle.arj_checking.specs.Found.{verdict_status}
use Rattle.arj_checking.specs.Taking.{IsAt, IsIn, IsWhy, StopsAt, half_at, half_in, most_at}
use Rattle.arj_checking.specs.declared.finding.Finding.{Finding}
use Rattle.arj_checking.specs.declared.finding.Finding.TheVariants as finding
use Rattle.arj_checking.specs.declared.finding.Half.{Half}
use Rattle.arj_checking.specs.declared.parts.Parts.{Parts}
use Rattle.arj_checking.specs.declared.parts.Stop.TheVariants as stop
use Rattle.arj_io.specs.Told.{Takes}
use Rattle.arj_journal.specs.declared.body.Body.TheVariants as body
use Rattle.arj_journal.specs.declared.body.Line.{Line}
use Rattle.arj_journal.specs.declared.body.Which.TheVariants as which
use Rattle.arj_journal.specs.declared.header.Header.{Header}
use Rattle.arj_lines.specs.Reading.{Gave, Input, IsAtLine, IsPastLine}
use Rattle.arj_loop.specs.Input.{source_view}
use Rattle.arj_loop.specs.declared.ending.BadLine.{BadLine}
use Rattle.arj_loop.specs.declared.ending.BadLine.TheVariants as why
use Rattle.arj_model.specs.Calls.{Call}
use Rattle.arj_model.specs.Last.{first_values}
use Rattle.arj_model.specs.Nested.{nested_calls}
use Rattle.arj_model.specs.Serial.{Answers, Values, serial_calls}
use Rattle.arj_reading.specs.Readable.{Readable}
use Rattle.arj_replay.specs.Orders.{nested_difference, serial_difference}
use Rattle.arj_replay.specs.Verdict.{Differs, IsWrong, first_difference}
use Rattle.arj_replay.specs.declared.run.Wrong.{Wrong}
use Rattle.arj_script.specs.Input.{AtEnd, lines_of}

-- ---- where reading ended

long_in : (b : Bool) (given : Input) (done : List (List ℕ)) (parts : Parts) → IsIn b done parts →
    IsPastLine given done (if b then 1100 else 500) → IsBadIn (half_in b) given done why.TooLong
long_in false given done parts is past = (parts.reader, parts.header, is.0, past)
long_in true given done parts is past = (is.0, parts.journal, is.2, past)

-- at a line that is too long
pub finds_long : (given : Input) (done : List (List ℕ)) (parts : Parts) (found : Finding) →
    found ≡ finding.Bad (parts.lines + 1) (half_at parts) why.TooLong → IsAt done parts → IsPastLine given done (most_at parts) →
    Finds given found
finds_long given done parts found is at past =
    subst (λ f. Finds given f) (sym is) (done, ap (λ n. n + 1) at.0, long_in parts.in_journal given done parts at.1 past)

unknown_in : (b : Bool) (given : Input) (done : List (List ℕ)) (line : List ℕ) (parts : Parts) → IsIn b done parts →
    IsWhy b done line stop.Unknown parts → IsAtLine given done line → IsBadIn (half_in b) given done why.Unknown
unknown_in false given done line parts is w at = (parts.reader, parts.header, line, is.0, at, w.0, w.1, w.2)
unknown_in true given done line parts is w at = (is.0, parts.journal, line, is.2, at, w.0, w.1)

-- at one that isn't what may stand there
pub finds_unknown : (given : Input) (done : List (List ℕ)) (line : List ℕ) (parts : Parts) (found : Finding) →
    found ≡ finding.Bad (parts.lines + 1) (half_at parts) why.Unknown → StopsAt done line stop.Unknown parts → IsAtLine given done line →
    Finds given found
finds_unknown given done line parts found is stops at =
    let here = stops.0 in
    subst (λ f. Finds given f) (sym is) (done, ap (λ n. n + 1) here.0, unknown_in parts.in_journal given done line parts here.1 stops.1 at)

missing_in : (b : Bool) (given : Input) (parts : Parts) → b ≡ false → given.stopped ≡ AtEnd → IsIn b (lines_of AtEnd given.came) parts →
    IsBadIn (half_in b) given (lines_of AtEnd given.came) why.Missing
missing_in false given parts script end is = (parts.reader, parts.header, is.0, end, refl)
missing_in true given parts script end is = absurd (let never : true ≡ false = script in cc)

-- at the input's end, before the line `journal`
pub finds_missing : (given : Input) (parts : Parts) (found : Finding) → found ≡ finding.Bad (parts.lines + 1) (half_at parts) why.Missing →
    parts.in_journal ≡ false → given.stopped ≡ AtEnd → IsAt (lines_of AtEnd given.came) parts → Finds given found
finds_missing given parts found is script end at =
    subst (λ f. Finds given f) (sym is) (lines_of AtEnd given.came, ap (λ n. n + 1) at.0, missing_in parts.in_journal given parts script end at.1)

-- ---- what is left

-- no difference is a right answer
abbrev pub IsRight : Type 0
IsRight = (values : Values) (calls : List Call) → (first_difference values calls ≡ None) ↔ Answers values calls

no_wrong : (lines : List Line) (d : Option Differs) → IsWrong lines d None → d ≡ None
no_wrong lines None is = refl
no_wrong lines (Some d) is = absurd is

yes_verdict : IsRight → (given : Input) (before after : Option (List ℕ)) (header : Header) (journal : List Line) (s n : Option Wrong) →
    IsWhole given header journal → Readable header journal
    → IsWrong journal (serial_difference header journal) s → IsWrong journal (nested_difference header journal) n → verdict_status s n ≡ 0 →
    Takes before (order_text (codes "serial") s ++ order_text (codes "nested") n) after
    → IsInOrder given × Takes before (codes "serial yes\n" ++ codes "nested yes\n") after
yes_verdict right given before after header journal None None whole readable serial nested status takes = (
  record {
    header = header;
    journal = journal;
    whole = whole;
    readable = readable;
    serial = (right (first_values header) (serial_calls journal)).0 (no_wrong journal (serial_difference header journal) serial);
    nested = (right (first_values header) (nested_calls journal)).0 (no_wrong journal (nested_difference header journal) nested);
  },
  takes,
)
yes_verdict right given before after header journal None (Some w) whole readable serial nested status takes = absurd (omega (arith, status))
yes_verdict right given before after header journal (Some v) None whole readable serial nested status takes = absurd (omega (arith, status))
yes_verdict right given before after header journal (Some v) (Some w) whole readable serial nested status takes =
    absurd (omega (arith, status))

yes_of : IsRight → (given : Input) (before after : Option (List ℕ)) (f : Finding) → Finds given f → finding_status f ≡ 0 →
    Takes before (finding_text f) after → IsInOrder given × Takes before (codes "serial yes\n" ++ codes "nested yes\n") after
yes_of right given before after (finding.Bad n at w) finds status takes = absurd (omega (arith, status))
yes_of right given before after (finding.Long at) finds status takes = absurd (omega (arith, status))
yes_of right given before after (finding.Unreadable b) finds status takes = absurd (omega (arith, status))
yes_of right given before after (finding.Verdict v) finds status takes =
    let judges = finds.3 in
    let says = judges.1 in
    yes_verdict right given before after finds.0 finds.1 v.serial v.nested finds.2 judges.0 says.serial says.nested status takes

-- a verdict has one of two statuses
two_verdicts : (s n : Option Wrong) → (verdict_status s n ≡ 0) ⊎ (verdict_status s n ≡ 8)
two_verdicts None None = inl refl
two_verdicts None (Some w) = inr refl
two_verdicts (Some v) None = inr refl
two_verdicts (Some v) (Some w) = inr refl

not_verdict : (s n : Option Wrong) (k : ℕ) → (k ≡ 0 → ⊥) → (k ≡ 8 → ⊥) → verdict_status s n ≡ k → ⊥
not_verdict s n k zero eight is = ⊎_elim (λ e. zero (sym is ∙ e)) (λ e. eight (sym is ∙ e)) (two_verdicts s n)

bad_of : (given : Input) (before after : Option (List ℕ)) (f : Finding) (found : Option Finding) → Finds given f → finding_status f ≡ 2 →
    found ≡ Some f → Takes before (finding_text f) after
    → (number : ℕ) × (at : Half) × (w : BadLine) × (found ≡ Some (finding.Bad number at w)) × IsBadAt given number at w × Takes before (outside_text (body.Bad number)) after
bad_of given before after (finding.Bad n at w) found finds status is takes = (n, at, w, is, finds, takes)
bad_of given before after (finding.Long at) found finds status is takes = absurd (omega (arith, status))
bad_of given before after (finding.Unreadable b) found finds status is takes = absurd (omega (arith, status))
bad_of given before after (finding.Verdict v) found finds status is takes =
    absurd (not_verdict v.serial v.nested 2 (λ e. omega (arith, e)) (λ e. omega (arith, e)) status)

many_of : (given : Input) (before after : Option (List ℕ)) (f : Finding) (found : Option Finding) → Finds given f → finding_status f ≡ 6 →
    found ≡ Some f → Takes before (finding_text f) after
    → (at : Half) × (found ≡ Some (finding.Long at)) × IsTooMany given at × Takes before (outside_text (body.Limit which.Lines)) after
many_of given before after (finding.Bad n at w) found finds status is takes = absurd (omega (arith, status))
many_of given before after (finding.Long at) found finds status is takes = (at, is, finds, takes)
many_of given before after (finding.Unreadable b) found finds status is takes = absurd (omega (arith, status))
many_of given before after (finding.Verdict v) found finds status is takes =
    absurd (not_verdict v.serial v.nested 6 (λ e. omega (arith, e)) (λ e. omega (arith, e)) status)

never_of : (f : Finding) (k : ℕ) → (k ≡ 0 → ⊥) → (k ≡ 2 → ⊥) → (k ≡ 6 → ⊥) → (k ≡ 8 → ⊥) → finding_status f ≡ k → ⊥
never_of (finding.Bad n at w) k zero two six eight is = two (sym is)
never_of (finding.Long at) k zero two six eight is = six (sym is)
never_of (finding.Unreadable b) k zero two six eight is = eight (sym is)
never_of (finding.Verdict v) k zero two six eight is = not_verdict v.serial v.nested k zero eight is

-- what was found was written, or wasn't
pub checks_found : IsRight → (given : Input) (before after : Ends) (f : Finding) (status : ℕ) (found : Option Finding) →
    Gave (source_view before.left before.faults) (source_view after.left after.faults) given → Finds given f
    → Writes before.taken after.taken f status found → Checks before after status found
checks_found right given before after f status found reads finds w =
    let wrote : (k : ℕ) → status ≡ k → (k ≡ 4 → ⊥) → (k ≡ 5 → ⊥) →
    (status ≡ finding_status f) × (found ≡ Some f) × Takes before.taken (finding_text f) after.taken
    = λ k is four five. w.wrote (λ e. four (sym is ∙ e)) (λ e. five (sym is ∙ e)) in
    let never : (k : ℕ) → (k ≡ 0 → ⊥) → (k ≡ 2 → ⊥) → (k ≡ 6 → ⊥) → (k ≡ 8 → ⊥) → (k ≡ 4 → ⊥) → (k ≡ 5 → ⊥) → status ≡ k → ⊥
    = λ k zero two six eight four five is. never_of f k zero two six eight (sym ((wrote k is four five).0) ∙ is) in
    record {
      given = given;
      reads = reads;
      yes = λ is. let r =
          wrote 0 is (λ e. omega (arith, e)) (λ e. omega (arith, e)) in yes_of right given before.taken after.taken f finds (sym r.0 ∙ is) r.2;
      bad = λ is. let r =
          wrote 2 is (λ e. omega (arith, e)) (λ e. omega (arith, e)) in bad_of given before.taken after.taken f found finds (sym r.0 ∙ is) r.1 r.2;
      fault = λ is. absurd (never 3 (λ e. omega (arith, e)) (λ e. omega (arith, e)) (λ e. omega (arith, e)) (λ e. omega (arith, e)) (λ e. omega (arith, e)) (λ e. omega (arith, e)) is);
      write = λ is. let r = w.front is in (f, r.0, finds, r.1);
      memory = λ is. w.memory is;
      many = λ is. let r =
          wrote 6 is (λ e. omega (arith, e)) (λ e. omega (arith, e)) in many_of given before.taken after.taken f found finds (sym r.0 ∙ is) r.1 r.2;
      no = λ is. let r = wrote 8 is (λ e. omega (arith, e)) (λ e. omega (arith, e)) in (f, r.1, finds, sym r.0 ∙ is, r.2);
      never = (
        λ is. never 1 (λ e. omega (arith, e)) (λ e. omega (arith, e)) (λ e. omega (arith, e)) (λ e. omega (arith, e)) (λ e. omega (arith, e)) (λ e. omega (arith, e)) is,
        λ is. never 7 (λ e. omega (arith, e)) (λ e. omega (arith, e)) (λ e. omega (arith, e)) (λ e. omega (arith, e)) (λ e. omega (arith, e)) (λ e. omega (arith, e)) is,
      );
    }
