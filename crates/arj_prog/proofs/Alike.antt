-- Lines with one text may stand at the same places.
use Rattle.std.proofs.Common.{◌≡◌, ◌≢◌, ℕ, ◌<◌, ◌^◌, List, ◌∷◌, ◌++◌, true, false, get_or, Option, Some, None, refl, sym, ◌∙◌, ap, arith}
use Rattle.std.specs.Prelude.{◌==◌, ◌&&◌, codes, nat_lt, nat_le, not, length}
use Rattle.std.specs.Fmt.{decimal}
use Rattle.std.proofs.lemmas.Bool.{and_from, both_ways, eq-eqb}
use Rattle.std.proofs.lemmas.Fmt.{decimal_injective}
use Rattle.arj_class.specs.declared.op.Op.{Op}
use Rattle.arj_journal.specs.declared.header.ObjectLine.{ObjectLine}
use Rattle.arj_text.specs.declared.label.Label.{Label}
use Rattle.arj_text.specs.Fields.{IsRead}
use Rattle.arj_text.specs.Label.{name}
use Rattle.arj_text.specs.Words.{answer_text}
use Rattle.arj_text.proofs.Texts.{cut_once, digits_only, same_rest, spaceless_label}
use Rattle.arj_prog.specs.declared.draft.Draft.{Draft}
use Rattle.arj_prog.specs.declared.opening.Opening.{Opening}
use Rattle.arj_prog.specs.declared.said.Said.{Said}
use Rattle.arj_prog.specs.declared.said.Said.TheVariants as said
use Rattle.arj_prog.specs.Drafts.{fits_at, fits_draft, has_name, may_call}
use Rattle.arj_prog.specs.Lines.{HeadInForm, SaidInForm, asked_text, head_text, said_text}
use Rattle.arj_prog.proofs.Asked.{asked_once, same_object}

-- texts that differ in one of their first three bytes
pub differ : (s t : List ℕ) → s ≡ t →
    ((get_or s 0 0 == get_or t 0 0) && ((get_or s 1 0 == get_or t 1 0) && (get_or s 2 0 == get_or t 2 0))) ≡ false → ⊥
differ s t e apart =
    let same : (k : ℕ) → (get_or s k 0 == get_or t k 0) ≡ true = λ k. eq-eqb (get_or s k 0) (get_or t k 0) (ap (λ u. get_or u k 0) e) in
    both_ways _ apart (and_from (get_or s 0 0 == get_or t 0 0) _ (same 0) (and_from (get_or s 1 0 == get_or t 1 0) _ (same 1) (same 2)))

-- a program's first line names one label and one node
same_head : (g h : Label × ℕ × ℕ) → HeadInForm g → HeadInForm h → head_text g ≡ head_text h → (name g.0 ≡ name h.0) × (g.1 ≡ h.1)
same_head g h hg hh e =
    let rest_g = codes "at " ++ (decimal g.1 ++ 32 ∷ (codes "retry " ++ decimal g.2)) in
    let rest_h = codes "at " ++ (decimal h.1 ++ 32 ∷ (codes "retry " ++ decimal h.2)) in
    let outer = cut_once 32 (name g.0) (name h.0) rest_g rest_h (spaceless_label (name g.0) hg.0) (spaceless_label (name h.0) hh.0) e in
    let small_g : g.1 < 2 ^ 64 = omega (arith, hg.1.1) in
    let small_h : h.1 < 2 ^ 64 = omega (arith, hh.1.1) in
    let inner = cut_once 32 (decimal g.1) (decimal h.1) (codes "retry " ++ decimal g.2) (codes "retry " ++ decimal h.2) (digits_only 32 g.1 refl small_g) (digits_only 32 h.1 refl small_h)
    (same_rest (codes "at ") (decimal g.1 ++ 32 ∷ (codes "retry " ++ decimal g.2)) (decimal h.1 ++ 32 ∷ (codes "retry " ++ decimal h.2)) outer.1) in
    (outer.0, decimal_injective g.1 h.1 small_g small_h inner.0)

abbrev Alike : Said → Said → Type 0
Alike s t = (d : Draft) → fits_draft s d ≡ fits_draft t d

-- lines that may stand alike between programs and in each
both : (s t : Said) → ((d : Draft) → fits_at None s d ≡ fits_at None t d) →
    ((d : Draft) (o : Opening) → fits_at (Some o) s d ≡ fits_at (Some o) t d) → Alike s t
both s t outside inside d = cases d.opening
  where
    cases : (o : Option Opening) → fits_at o s d ≡ fits_at o t d
    cases None = outside d
    cases (Some o) = inside d o

pub alike : (os : List ObjectLine) (s t : Said) → SaidInForm os s → SaidInForm os t → said_text s ≡ said_text t → Alike s t
alike os (said.Prog label node retry) (said.Prog other at again) hs ht e =
    let same = same_head (label, node, retry) (other, at, again) hs ht (same_rest (codes "prog ") (head_text (label, node, retry)) (head_text (other, at, again)) e) in
    both (said.Prog label node retry) (said.Prog other at again)
    (λ d i. (nat_lt (length d.programs) 16 && not (has_name (same.0 i) d.programs)) && nat_le (same.1 i) d.header.nodes)
    (λ d o. refl)
alike os (said.Do x op) (said.Do y asked) hs ht e =
    let same = asked_once (x, op) (y, asked) hs.0 ht.0 (same_rest (codes "do ") (asked_text (x, op)) (asked_text (y, asked)) e) in
    both (said.Do x op) (said.Do y asked) (λ d. refl) (λ d o. ap (λ (c : ℕ × Op). may_call c.0 o) same)
alike os (said.Print x op) (said.Print y asked) hs ht e =
    let same = asked_once (x, op) (y, asked) hs.0 ht.0 (same_rest (codes "print ") (asked_text (x, op)) (asked_text (y, asked)) e) in
    both (said.Print x op) (said.Print y asked) (λ d. refl) (λ d o. ap (λ (c : ℕ × Op). may_call c.0 o) same)
alike os (said.If x op answer) (said.If y asked told) hs ht e =
    let r = codes " = " ++ answer_text answer in
    let s = codes " = " ++ answer_text told in
    let same = same_object (x, op) (y, asked) hs.0.0 ht.0.0 r s (same_rest (codes "if ") (asked_text (x, op) ++ r) (asked_text (y, asked) ++ s) e) in
    both (said.If x op answer) (said.If y asked told) (λ d. refl) (λ d o. ap (λ z. may_call z o) same)
alike os said.Else said.Else hs ht e = λ d. refl
alike os (said.Block retry) (said.Block again) hs ht e = both (said.Block retry) (said.Block again) (λ d. refl) (λ d o. refl)
alike os said.End said.End hs ht e = λ d. refl
alike os said.Fail said.Fail hs ht e = λ d. refl
alike os said.Run said.Run hs ht e = λ d. refl
alike os s t hs ht e = absurd (differ (said_text s) (said_text t) e refl)

-- A line that may not stand where the draft is has no other reading that may.
pub no_line : (os : List ObjectLine) (d : Draft) (bytes : List ℕ) (s t : Said) → IsRead (SaidInForm os) said_text bytes (Some s) →
    fits_draft s d ≡ false → SaidInForm os t → fits_draft t d ≡ true → bytes ≢ said_text t
no_line os d bytes s t read refused ht fits e =
    both_ways (fits_draft t d) (sym (alike os s t read.0 ht (sym read.1 ∙ e) d) ∙ refused) fits
