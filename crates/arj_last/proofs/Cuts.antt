-- How many lines of a journal can be read as a run.
use Rattle.std.proofs.Common.{◌≡◌, ◌<◌, ◌≤◌, ℕ, zero, suc, ◌+◌, ◌-◌, List, [], ◌∷◌, ◌++◌, length, take, Bool, true, false, cond, nat_le}
use Rattle.std.proofs.Common.{nat_lt, not}
use Rattle.std.proofs.Common.{Option, Some, None, refl, sym, ◌∙◌, ap, subst, arith, length-append}
use Rattle.std.specs.Prelude.{is_some}
use Rattle.std.proofs.lemmas.Bool.Decides.{nat_tests}
use Rattle.arj_journal.specs.declared.body.Line.{Line}
use Rattle.arj_journal.specs.declared.header.Header.{Header}
use Rattle.arj_reading.specs.Readable.{broken, broken_from, broken_or, line_rule, met}
use Rattle.arj_reading.specs.declared.rule.Broken.{Broken}
use Rattle.arj_reading.specs.declared.rule.Rule.{Rule}
use Rattle.arj_last.specs.Told.{is_readable, readable_count}

-- the first line that breaks a rule stands among these
record Stands (first many : ℕ) (b : Broken) : Type 0 where
  above : first < b.line
  within : b.line ≤ first + many

one_longer : (before : List Line) (line : Line) → length (before ++ line ∷ []) ≡ length before + 1
one_longer before line = length-append before (line ∷ [])

stands : (header : Header) (before : List Line) (last : ℕ) (ls : List Line) (b : Broken) → broken_from header before last ls ≡ Some b →
    Stands (length before) (length ls) b
stands header before last [] b e = absurd (cc e)
stands header before last (l ∷ ls) b e =
    by (line_rule header (met before) last l) (λ g. stands header (before ++ l ∷ []) l.event ls b g) e
  where
    by : (r : Option Rule) → (broken_from header (before ++ l ∷ []) l.event ls ≡ Some b → Stands (length (before ++ l ∷ [])) (length ls) b)
        → broken_or (length before) r (broken_from header (before ++ l ∷ []) l.event ls) ≡ Some b →
        Stands (length before) (length (l ∷ ls)) b
    by None ih g =
        let h = ih g in
        let longer = one_longer before l in
        let above = h.above in
        let within = h.within in
        record { above = omega (arith, longer, above); within = omega (arith, longer, within) }
    by (Some r) ih g =
        let same : record { line = length before + 1; rule = r } ≡ b = cc g in
        let is : length before + 1 ≡ b.line = ap (λ c. c.line) same in
        record { above = omega (arith, is); within = omega (arith, is) }

-- it, where it stands up to this one
abbrev up_to : ℕ → Option Broken → Option Broken
up_to n None = None
up_to n (Some b) = cond (nat_le b.line n) (Some b) None

none_up_to : (n : ℕ) (o : Option Broken) → ((b : Broken) → o ≡ Some b → n < b.line) → None ≡ up_to n o
none_up_to n None h = refl
none_up_to n (Some b) h =
    let lt : n < b.line = h b refl in
    let no : nat_le b.line n ≡ false = grind (arith, nat_tests, lt) in
    (λ i. cond (sym no i) (Some b) None)

-- the first line that breaks a rule, of the first of these lines alone
cut : (header : Header) (before : List Line) (last i : ℕ) (ls : List Line) → i ≤ length ls →
    broken_from header before last (take i ls) ≡ up_to (length before + i) (broken_from header before last ls)
cut header before last zero ls le = none_up_to (length before + 0) (broken_from header before last ls) (λ b e.
    let above = (stands header before last ls b e).above in omega (arith, above))
cut header before last (suc i) [] le = refl
cut header before last (suc i) (l ∷ ls) le =
    by (line_rule header (met before) last l) (cut header (before ++ l ∷ []) l.event i ls (omega (arith, le)))
  where
    rest : Option Broken
    rest = broken_from header (before ++ l ∷ []) l.event ls

    longer : length (before ++ l ∷ []) + i ≡ length before + suc i
    longer = let one = one_longer before l in omega (arith, one)

    by : (r : Option Rule) → broken_from header (before ++ l ∷ []) l.event (take i ls) ≡ up_to (length (before ++ l ∷ []) + i) rest
        → broken_or (length before) r (broken_from header (before ++ l ∷ []) l.event (take i ls)) ≡ up_to (length before + suc i)
        (broken_or (length before) r rest)
    by None ih = ih ∙ ap (λ n. up_to n rest) longer
    by (Some r) ih =
        let yes : nat_le (length before + 1) (length before + suc i) ≡ true = grind (arith, nat_tests) in
        (λ j. cond (sym yes j) (Some (record { line = length before + 1; rule = r })) None)

-- the lines up to one can be read exactly where it stands before the first that breaks a rule
pub readable_here : (header : Header) (lines : List Line) (i : ℕ) → i < length lines →
    nat_lt i (readable_count (length lines) (broken header lines)) ≡ is_readable header (take (i + 1) lines)
readable_here header lines i lt =
    by (broken header lines) (λ b e. stands header [] 0 lines b e)
    ∙ ap (λ o. not (is_some o)) (sym (cut header [] 0 (i + 1) lines (omega (arith, lt))))
  where
    plain : nat_lt i (length lines) ≡ true
    plain = grind (arith, nat_tests, lt)

    by : (o : Option Broken) → ((b : Broken) → o ≡ Some b → Stands 0 (length lines) b) →
        nat_lt i (readable_count (length lines) o) ≡ not (is_some (up_to (0 + (i + 1)) o))
    by None h = plain
    by (Some b) h = both (nat_le b.line (0 + (i + 1))) refl
      where
        positive : 0 < b.line
        positive = (h b refl).above

        both : (t : Bool) → nat_le b.line (0 + (i + 1)) ≡ t → nat_lt i (b.line - 1) ≡ not (is_some (cond t (Some b) None))
        both true e = grind (arith, nat_tests, e, positive)
        both false e = grind (arith, nat_tests, e, positive)

-- no line breaks a rule where as many can be read as there are
pub none_unreadable : (header : Header) (lines : List Line) (n : ℕ) → n ≡ readable_count (length lines) (broken header lines) →
    length lines ≤ n →
    broken header lines ≡ None
none_unreadable header lines n is le = by (broken header lines) (λ b e. stands header [] 0 lines b e) is
  where
    by : (o : Option Broken) → ((b : Broken) → o ≡ Some b → Stands 0 (length lines) b) → n ≡ readable_count (length lines) o → o ≡ None
    by None h e = refl
    by (Some b) h e =
        let above = (h b refl).above in
        let within = (h b refl).within in
        absurd (omega (arith, e, le, above, within))

-- the first that breaks a rule stands behind those that can be read
pub next_unreadable : (header : Header) (lines : List Line) (n : ℕ) → n ≡ readable_count (length lines) (broken header lines) →
    n < length lines →
    (b : Broken) × (broken header lines ≡ Some b) × (n + 1 ≡ b.line)
next_unreadable header lines n is lt = by (broken header lines) (λ b e. stands header [] 0 lines b e) is
  where
    by : (o : Option Broken) → ((b : Broken) → o ≡ Some b → Stands 0 (length lines) b) → n ≡ readable_count (length lines) o →
        (b : Broken) × (o ≡ Some b) × (n + 1 ≡ b.line)
    by None h e = absurd (omega (arith, e, lt))
    by (Some b) h e = let above = (h b refl).above in (b, refl, omega (arith, e, above))
