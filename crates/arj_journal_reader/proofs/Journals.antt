-- No two lines have one text, and no two journals.
use Rattle.std.proofs.Common.{◌≡◌, ◌≢◌, ℕ, List, [], ◌∷◌, ◌++◌, false, refl, sym, ◌∙◌, ap, arith, append_assoc}
use Rattle.std.specs.List.{AllByRecursion}
use Rattle.std.specs.Fmt.{decimal}
use Rattle.std.proofs.lemmas.List.{append_cancel_right}
use Rattle.arj_journal.specs.declared.body.Line.{Line}
use Rattle.arj_text.specs.Fields.{has_byte}
use Rattle.arj_journal.specs.LineForm.{LineInForm}
use Rattle.arj_journal.specs.LineText.{body_text, line_text, text}
use Rattle.arj_journal_reader.proofs.ByKind.{Once, lacks_behind}
use Rattle.arj_journal_reader.proofs.Leaves.{end_apart, number_lacks, number_once, space_apart}
use Rattle.arj_journal_reader.proofs.LineFacts.{bodies_facts}
use Rattle.arj_text.proofs.Texts.{cut_once, no_cut}

-- a line without its end
abbrev front : Line → List ℕ
front l = decimal l.event ++ 32 ∷ body_text l.body

ends_so : (l : Line) → line_text l ≡ front l ++ 10 ∷ []
ends_so l = sym (append_assoc (decimal l.event) (32 ∷ body_text l.body) (10 ∷ []))

front_once : Once LineInForm front
front_once l m hl hm e =
    let cuts = cut_once 32 (decimal l.event) (decimal m.event) (body_text l.body) (body_text m.body) (number_lacks 32 space_apart l.event (omega (arith, hl.0))) (number_lacks 32 space_apart m.event (omega (arith, hm.0))) e in
    let event = number_once l.event m.event (omega (arith, hl.0)) (omega (arith, hm.0)) cuts.0 in
    let body = bodies_facts.once l.body m.body hl.1 hm.1 cuts.1 in
    λ i. record { event = event i; body = body i }

pub line_once : Once LineInForm line_text
line_once l m hl hm e = front_once l m hl hm (append_cancel_right (front l) (front m) (10 ∷ []) (sym (ends_so l) ∙ (e ∙ ends_so m)))

front_endless : (l : Line) → LineInForm l → has_byte 10 (front l) ≡ false
front_endless l h =
    lacks_behind 10 32 (decimal l.event) (body_text l.body) refl (number_lacks 10 end_apart l.event (omega (arith, h.0))) (bodies_facts.endless l.body h.1)

-- A journal's text ends its first line at the first line feed.
first_line : (l : Line) (ls : List Line) → text (l ∷ ls) ≡ front l ++ 10 ∷ text ls
first_line l ls = ap (λ t. t ++ text ls) (ends_so l) ∙ append_assoc (front l) (10 ∷ []) (text ls)

no_line : (l : Line) (ls : List Line) → [] ≢ text (l ∷ ls)
no_line l ls e = no_cut 10 [] (front l) (text ls) refl (e ∙ first_line l ls)

pub journal_once : (ls ms : List Line) → AllByRecursion LineInForm ls → AllByRecursion LineInForm ms → text ls ≡ text ms → ls ≡ ms
journal_once [] [] hl hm e = refl
journal_once [] (m ∷ ms) hl hm e = absurd (no_line m ms e)
journal_once (l ∷ ls) [] hl hm e = absurd (no_line l ls (sym e))
journal_once (l ∷ ls) (m ∷ ms) hl hm e =
    let cuts = cut_once 10 (front l) (front m) (text ls) (text ms) (front_endless l hl.0) (front_endless m hm.0) (sym (first_line l ls) ∙ (e ∙ first_line m ms)) in
    let first = front_once l m hl.0 hm.0 cuts.0 in
    let rest = journal_once ls ms hl.1 hm.1 cuts.1 in
    λ i. first i ∷ rest i
