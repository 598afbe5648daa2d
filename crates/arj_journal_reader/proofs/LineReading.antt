-- A line is read from its text.
use Rattle.std.proofs.Common.{◌≡◌, ◌≢◌, ℕ, List, [], ◌∷◌, ◌++◌, Ok, Err, refl, sym, ◌∙◌, ap, arith, append_assoc}
use Rattle.std.specs.Prelude.{Result, IfOk, IsErrOf, MatchResult}
use Rattle.std.specs.Fmt.{decimal}
use Rattle.std.proofs.lemmas.List.{append_cancel_right}
use Rattle.arj_journal.specs.declared.body.Body.{Body}
use Rattle.arj_journal.specs.declared.body.Line.{Line}
use Rattle.arj_journal_reader.specs.declared.fault.LineFault.{LineFault}
use Rattle.arj_journal_reader.specs.declared.fault.LineFault.TheVariants.{NotALine, Memory}
use Rattle.arj_journal_reader.specs.declared.pieces.Word.{Word}
use Rattle.arj_journal_reader.specs.Form.{Form, ◌▸◌}
use Rattle.arj_journal.specs.LineForm.{BodyInForm, LineInForm}
use Rattle.arj_journal_reader.specs.LineKinds.{word}
use Rattle.arj_journal.specs.LineText.{body_text, line_text}
use Rattle.arj_journal_reader.specs.Reading.{IsTaken}
use Rattle.arj_journal_reader.proofs.Facts.{form_of}
use Rattle.arj_journal_reader.proofs.Journals.{line_once}
use Rattle.arj_journal_reader.proofs.Leaves.{number_lacks, space_apart}

-- the number of an event and what a line says
abbrev pub inner : Form
inner = word ▸ form_of Body BodyInForm body_text

abbrev inner_of : Line → inner.Value
inner_of l = (record { number = l.event }, l.body)

inner_fits : (l : Line) → LineInForm l → inner.InForm (inner_of l)
inner_fits l h = (h.0, number_lacks 32 space_apart l.event (omega (arith, h.0)), h.1)

ends_so : (l : Line) → line_text l ≡ inner.text (inner_of l) ++ 10 ∷ []
ends_so l = sym (append_assoc (decimal l.event) (32 ∷ body_text l.body) (10 ∷ []))

-- Where the end is missing, there is no line.
pub no_end : (bytes : List ℕ) → ((f : List ℕ) → bytes ≢ f ++ 10 ∷ []) → (l : Line) → LineInForm l → bytes ≢ line_text l
no_end bytes none l h e = none (inner.text (inner_of l)) (e ∙ ends_so l)

pub line_fails : (bytes text : List ℕ) (y : LineFault) → bytes ≡ text ++ 10 ∷ [] → IsTaken inner.InForm inner.text text (Err y) →
    IsTaken LineInForm line_text bytes (Err y)
line_fails bytes text NotALine parts none =
    λ l h e. none (inner_of l) (inner_fits l h) (append_cancel_right text (inner.text (inner_of l)) (10 ∷ []) (sym parts ∙ (e ∙ ends_so l)))
line_fails bytes text Memory parts none = tt

pub line_read : (bytes text : List ℕ) (k : Word) (b : Body) → bytes ≡ text ++ 10 ∷ [] → inner.InForm (k, b) × (text ≡ inner.text (k, b)) →
    IsTaken LineInForm line_text bytes (Ok (record { event = k.number; body = b }))
line_read bytes text k b parts read =
    let l : Line = record { event = k.number; body = b } in
    ((read.0.0, read.0.2), parts ∙ (ap (λ t. t ++ 10 ∷ []) read.1 ∙ sym (ends_so l)))

-- the three clauses of the reader
pub read_so : (bytes : List ℕ) (r : Result Line LineFault) → IsTaken LineInForm line_text bytes r →
    IfOk r (λ l. LineInForm l × (bytes ≡ line_text l))
read_so bytes (Ok l) h = h
read_so bytes (Err y) h = tt

pub read_back : (bytes : List ℕ) (r : Result Line LineFault) → IsTaken LineInForm line_text bytes r → (l : Line) → LineInForm l →
    bytes ≡ line_text l → MatchResult r (λ m. m ≡ l) (λ fault. fault ≡ Memory)
read_back bytes (Ok m) h l fits e = line_once m l h.0 fits (sym h.1 ∙ e)
read_back bytes (Err NotALine) h l fits e = absurd (h l fits e)
read_back bytes (Err Memory) h l fits e = refl

pub read_none : (bytes : List ℕ) (r : Result Line LineFault) → IsTaken LineInForm line_text bytes r → IsErrOf r NotALine → (l : Line) →
    LineInForm l → bytes ≢ line_text l
read_none bytes (Ok l) h e = absurd cc
read_none bytes (Err NotALine) h e = h
read_none bytes (Err Memory) h e = absurd cc
