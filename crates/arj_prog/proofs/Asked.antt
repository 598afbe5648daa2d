-- Calls in a line: no two have one text, and where an answer is cut off.
use Rattle.std.proofs.Common.{◌≡◌, ◌≢◌, ℕ, ◌<◌, ◌^◌, List, [], ◌∷◌, ◌++◌, codes, false, Some, None, refl, sym, ◌∙◌, ap, subst, arith, append_assoc}
use Rattle.std.specs.Fmt.{decimal}
use Rattle.std.proofs.lemmas.Bool.{both_ways}
use Rattle.std.proofs.lemmas.Fmt.{decimal_injective}
use Rattle.std.proofs.lemmas.List.{append_cancel_right}
use Rattle.arj_class.specs.declared.op.Op.{Op}
use Rattle.arj_class.specs.declared.op.Op.TheVariants as op
use Rattle.arj_class.specs.declared.op.Answer.{Answer}
use Rattle.arj_journal.specs.declared.header.ObjectLine.{ObjectLine}
use Rattle.arj_text.specs.Fields.{IsRead, OpTextInForm, has_byte}
use Rattle.arj_text.specs.Words.{answer_text, op_text, value_text}
use Rattle.arj_text.proofs.Texts.{cut_once, digits_only, no_cut}
use Rattle.arj_journal_reader.proofs.ByKind.{lacks_both}
use Rattle.arj_journal_reader.proofs.Calls.{op_facts}
use Rattle.arj_journal_reader.proofs.Leaves.{IsApart, hex_lacks}
use Rattle.arj_journal_reader.proofs.ValueTexts.{value_lacks}
use Rattle.arj_prog.specs.Lines.{AnswerInForm, AskedInForm, CallInForm, TestInForm, answers_bytes, asked_text, class_at, has_call}
use Rattle.arj_prog.specs.Lines.{test_text}

-- Objects and operations with one text are the same.
pub same_object : (p q : ℕ × Op) → AskedInForm p → AskedInForm q → (r s : List ℕ) → asked_text p ++ r ≡ asked_text q ++ s → p.0 ≡ q.0
same_object p q hp hq r s e =
    let whole : decimal p.0 ++ 32 ∷ (op_text p.1 ++ r) ≡ decimal q.0 ++ 32 ∷ (op_text q.1 ++ s) =
    sym (append_assoc (decimal p.0) (32 ∷ op_text p.1) r) ∙ (e ∙ append_assoc (decimal q.0) (32 ∷ op_text q.1) s) in
    let small_p : p.0 < 2 ^ 64 = omega (arith, hp.0) in
    let small_q : q.0 < 2 ^ 64 = omega (arith, hq.0) in
    decimal_injective p.0 q.0 small_p small_q (cut_once 32 (decimal p.0) (decimal q.0) (op_text p.1 ++ r) (op_text q.1 ++ s) (digits_only 32 p.0 refl small_p) (digits_only 32 q.0 refl small_q) whole).0

pub asked_once : (p q : ℕ × Op) → AskedInForm p → AskedInForm q → asked_text p ≡ asked_text q → p ≡ q
asked_once p q hp hq e =
    let small_p : p.0 < 2 ^ 64 = omega (arith, hp.0) in
    let small_q : q.0 < 2 ^ 64 = omega (arith, hq.0) in
    let cuts = cut_once 32 (decimal p.0) (decimal q.0) (op_text p.1) (op_text q.1) (digits_only 32 p.0 refl small_p) (digits_only 32 q.0 refl small_q) e in
    let object = decimal_injective p.0 q.0 small_p small_q cuts.0 in
    let asked = op_facts.once p.1 q.1 hp.1 hq.1 cuts.1 in
    λ i. (object i, asked i)

-- A call that its object doesn't have fits nowhere.
pub no_call : (os : List ObjectLine) (bytes : List ℕ) (p : ℕ × Op) → IsRead AskedInForm asked_text bytes (Some p) →
    has_call (class_at p.0 os) p.1 ≡ false → IsRead (CallInForm os) asked_text bytes None
no_call os bytes p read lacks = λ q fits e.
    let same = asked_once p q read.0 fits.0 (sym read.1 ∙ e) in
    both_ways (has_call (class_at q.0 os) q.1) (ap (λ (c : ℕ × Op). has_call (class_at c.0 os) c.1) (sym same) ∙ lacks) fits.1

-- the sign before an answer stands in no call
equals_apart : IsApart 61
equals_apart = record { digit = refl; letter = refl; dash = refl; point = refl; comma = refl }

op_lacks : (o : Op) → OpTextInForm o → has_byte 61 (op_text o) ≡ false
op_lacks op.Get h = refl
op_lacks (op.Add n) h = digits_only 61 n refl h
op_lacks (op.Set n) h = digits_only 61 n refl h
op_lacks (op.Put bytes) h = hex_lacks 61 equals_apart bytes h.1
op_lacks (op.Deposit n) h = digits_only 61 n refl h
op_lacks (op.Withdraw n) h = digits_only 61 n refl h
op_lacks op.Len h = refl
op_lacks (op.Push n) h = digits_only 61 n refl h
op_lacks op.Pop h = refl
op_lacks (op.GetKey k) h = digits_only 61 k refl h
op_lacks (op.PutPair k v) h = lacks_both 61 (decimal k) (32 ∷ decimal v) (digits_only 61 k refl h.0) (digits_only 61 v refl h.1)
op_lacks (op.Remove k) h = digits_only 61 k refl h
op_lacks (op.Create v) h = lacks_both 61 (codes "create ") (value_text v) refl (value_lacks 61 equals_apart refl refl v h.0)
op_lacks op.Destroy h = refl

asked_lacks : (p : ℕ × Op) → AskedInForm p → has_byte 61 (asked_text p ++ 32 ∷ []) ≡ false
asked_lacks p h =
    let small : p.0 < 2 ^ 64 = omega (arith, h.0) in
    lacks_both 61 (asked_text p) (32 ∷ []) (lacks_both 61 (decimal p.0) (32 ∷ op_text p.1) (digits_only 61 p.0 refl small) (op_lacks p.1 h.1)) refl

-- a call and an answer, cut at the sign
abbrev front_of : ℕ × Op × Answer → List ℕ
front_of t = asked_text (t.0, t.1) ++ 32 ∷ []

test_cut : (t : ℕ × Op × Answer) → test_text t ≡ front_of t ++ 61 ∷ (32 ∷ answer_text t.2)
test_cut t = sym (append_assoc (asked_text (t.0, t.1)) (32 ∷ []) (61 ∷ (32 ∷ answer_text t.2)))

pub no_sign : (os : List ObjectLine) (bytes : List ℕ) → has_byte 61 bytes ≡ false → IsRead (TestInForm os) test_text bytes None
no_sign os bytes lacks = λ t fits e. no_cut 61 bytes (front_of t) (32 ∷ answer_text t.2) lacks (e ∙ test_cut t)

pub test_parts : (os : List ObjectLine) (bytes front back : List ℕ) (t : ℕ × Op × Answer) → has_byte 61 front ≡ false →
    bytes ≡ front ++ 61 ∷ back → TestInForm os t → bytes ≡ test_text t → (front ≡ front_of t) × (back ≡ 32 ∷ answer_text t.2)
test_parts os bytes front back t lacks parts fits e =
    cut_once 61 front (front_of t) back (32 ∷ answer_text t.2) lacks (asked_lacks (t.0, t.1) fits.0.0) (sym parts ∙ (e ∙ test_cut t))

pub no_front : (os : List ObjectLine) (bytes front back : List ℕ) → has_byte 61 front ≡ false → bytes ≡ front ++ 61 ∷ back →
    ((f : List ℕ) → front ≢ f ++ 32 ∷ []) → IsRead (TestInForm os) test_text bytes None
no_front os bytes front back lacks parts none =
    λ t fits e. none (asked_text (t.0, t.1)) (test_parts os bytes front back t lacks parts fits e).0

pub no_back : (os : List ObjectLine) (bytes front back : List ℕ) → has_byte 61 front ≡ false → bytes ≡ front ++ 61 ∷ back →
    ((r : List ℕ) → back ≢ 32 ∷ r) → IsRead (TestInForm os) test_text bytes None
no_back os bytes front back lacks parts none = λ t fits e. none (answer_text t.2) (test_parts os bytes front back t lacks parts fits e).1

-- the call before the sign
same_words : (words : List ℕ) (t : ℕ × Op × Answer) → words ++ 32 ∷ [] ≡ front_of t → words ≡ asked_text (t.0, t.1)
same_words words t e = append_cancel_right words (asked_text (t.0, t.1)) (32 ∷ []) e

pub no_words : (os : List ObjectLine) (bytes front back words : List ℕ) → has_byte 61 front ≡ false → bytes ≡ front ++ 61 ∷ back →
    front ≡ words ++ 32 ∷ [] → IsRead (CallInForm os) asked_text words None → IsRead (TestInForm os) test_text bytes None
no_words os bytes front back words lacks parts ends none = λ t fits e.
    none (t.0, t.1) fits.0 (same_words words t (sym ends ∙ (test_parts os bytes front back t lacks parts fits e).0))

pub no_answer : (os : List ObjectLine) (bytes front back words word : List ℕ) (p : ℕ × Op) → has_byte 61 front ≡ false →
    bytes ≡ front ++ 61 ∷ back → front ≡ words ++ 32 ∷ [] → back ≡ 32 ∷ word → IsRead (CallInForm os) asked_text words (Some p) →
    IsRead (AnswerInForm (answers_bytes (class_at p.0 os) p.1)) answer_text word None → IsRead (TestInForm os) test_text bytes None
no_answer os bytes front back words word p lacks parts ends begins read none = λ t fits e.
    let cuts = test_parts os bytes front back t lacks parts fits e in
    let same : p ≡ (t.0, t.1) = asked_once p (t.0, t.1) read.0.0 fits.0.0 (sym read.1 ∙ same_words words t (sym ends ∙ cuts.0)) in
    let rest : 32 ∷ word ≡ 32 ∷ answer_text t.2 = sym begins ∙ cuts.1 in
    let said : word ≡ answer_text t.2 = cc in
    none t.2 (subst (λ (c : ℕ × Op). AnswerInForm (answers_bytes (class_at c.0 os) c.1) t.2) (sym same) fits.1) said

pub test_read : (os : List ObjectLine) (bytes front back words word : List ℕ) (p : ℕ × Op) (a : Answer) → bytes ≡ front ++ 61 ∷ back →
    front ≡ words ++ 32 ∷ [] → back ≡ 32 ∷ word → IsRead (CallInForm os) asked_text words (Some p) →
    IsRead (AnswerInForm (answers_bytes (class_at p.0 os) p.1)) answer_text word (Some a) →
    IsRead (TestInForm os) test_text bytes (Some (p.0, p.1, a))
test_read os bytes front back words word p a parts ends begins read answered =
    let t : ℕ × Op × Answer = (p.0, p.1, a) in
    let front_is : front ≡ front_of t = ends ∙ ap (λ w. w ++ 32 ∷ []) read.1 in
    let back_is : back ≡ 32 ∷ answer_text a = begins ∙ ap (λ w. 32 ∷ w) answered.1 in
    ((read.0, answered.0), parts ∙ ((λ i. front_is i ++ 61 ∷ back_is i) ∙ sym (test_cut t)))
