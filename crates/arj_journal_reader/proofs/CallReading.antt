-- An operation and its answer are read at the last space.
use Rattle.std.proofs.Common.{◌≡◌, ◌≢◌, ℕ, List, ◌∷◌, ◌++◌, false, Ok, Err, Some, None, Option, sym, ◌∙◌, ap, subst, append_assoc}
use Rattle.std.specs.Prelude.{codes}
use Rattle.std.proofs.lemmas.List.{append_cancel_right}
use Rattle.arj_class.specs.declared.op.Op.{Op}
use Rattle.arj_journal_reader.specs.declared.call.Call.{Call}
use Rattle.arj_journal_reader.specs.declared.fault.LineFault.{LineFault}
use Rattle.arj_journal_reader.specs.declared.fault.LineFault.TheVariants.{NotALine, Memory}
use Rattle.arj_text.specs.Fields.{IsAnswer, IsRead, OpTextInForm, has_space}
use Rattle.arj_journal_reader.specs.LineKinds.{call}
use Rattle.arj_journal_reader.specs.Reading.{IsTaken, as_taken}
use Rattle.arj_text.specs.Words.{op_text}
use Rattle.arj_journal_reader.proofs.Calls.{cut_last, op_facts, spaceless_answer}

-- the text of a call, cut at its last space
call_text : (c : Call) → call.text c ≡ (op_text c.op ++ codes " =") ++ 32 ∷ c.answer
call_text c = sym (append_assoc (op_text c.op) (codes " =") (32 ∷ c.answer))

pub call_parts : (bytes front word : List ℕ) (c : Call) → has_space word ≡ false → bytes ≡ front ++ 32 ∷ word → call.InForm c →
    bytes ≡ call.text c → (front ≡ op_text c.op ++ codes " =") × (word ≡ c.answer)
call_parts bytes front word c spaceless parts fits e =
    cut_last front (op_text c.op ++ codes " =") word c.answer spaceless (spaceless_answer c.op c.answer fits.1) (sym parts ∙ (e ∙ call_text c))

-- What was to be taken and wasn't there.
pub none_taken : {A : Type 0} (InForm : A → Type 0) (text : A → List ℕ) (bytes : List ℕ) (found : Option A) (y : LineFault) →
    as_taken found ≡ Err y → IsRead InForm text bytes found → IsTaken InForm text bytes (Err y)
none_taken InForm text bytes None NotALine e h = h
none_taken InForm text bytes None Memory e h = tt
none_taken InForm text bytes (Some a) y e h = absurd cc

pub some_taken : {A : Type 0} (InForm : A → Type 0) (text : A → List ℕ) (bytes : List ℕ) (found : Option A) (a : A) →
    as_taken found ≡ Ok a → IsRead InForm text bytes found → InForm a × (bytes ≡ text a)
some_taken InForm text bytes None a e h = absurd cc
some_taken InForm text bytes (Some b) a e h = let same : b ≡ a = cc in (subst InForm same h.0, h.1 ∙ ap text same)

pub no_equals : (bytes front word : List ℕ) → has_space word ≡ false → bytes ≡ front ++ 32 ∷ word →
    ((f : List ℕ) → front ≢ f ++ codes " =") → (c : Call) → call.InForm c → bytes ≢ call.text c
no_equals bytes front word spaceless parts none c fits e = none (op_text c.op) (call_parts bytes front word c spaceless parts fits e).0

-- the operation of a call that has this text
asked_so : (bytes front word words : List ℕ) (c : Call) → has_space word ≡ false → bytes ≡ front ++ 32 ∷ word →
    front ≡ words ++ codes " =" → call.InForm c → bytes ≡ call.text c → (words ≡ op_text c.op) × (word ≡ c.answer)
asked_so bytes front word words c spaceless parts ends fits e =
    let cuts = call_parts bytes front word c spaceless parts fits e in
    (append_cancel_right words (op_text c.op) (codes " =") (sym ends ∙ cuts.0), cuts.1)

pub no_operation : (bytes front word words : List ℕ) (y : LineFault) → has_space word ≡ false → bytes ≡ front ++ 32 ∷ word →
    front ≡ words ++ codes " =" → IsTaken OpTextInForm op_text words (Err y) → IsTaken call.InForm call.text bytes (Err y)
no_operation bytes front word words NotALine spaceless parts ends none =
    λ c fits e. none c.op fits.0 (asked_so bytes front word words c spaceless parts ends fits e).0
no_operation bytes front word words Memory spaceless parts ends none = tt

pub no_answer : (bytes front word words : List ℕ) (asked : Op) (y : LineFault) → has_space word ≡ false → bytes ≡ front ++ 32 ∷ word →
    front ≡ words ++ codes " =" → OpTextInForm asked × (words ≡ op_text asked) → IsTaken (IsAnswer asked) (λ text. text) word (Err y) →
    IsTaken call.InForm call.text bytes (Err y)
no_answer bytes front word words asked NotALine spaceless parts ends read none =
    λ c fits e.
    let so = asked_so bytes front word words c spaceless parts ends fits e in
    let same = op_facts.once asked c.op read.0 fits.0 (sym read.1 ∙ so.0) in
    none c.answer (subst (λ p. IsAnswer p c.answer) (sym same) fits.1) so.1
no_answer bytes front word words asked Memory spaceless parts ends read none = tt

pub call_read : (bytes front word words answer : List ℕ) (asked : Op) → bytes ≡ front ++ 32 ∷ word → front ≡ words ++ codes " =" →
    OpTextInForm asked × (words ≡ op_text asked) → IsAnswer asked answer × (word ≡ answer) →
    IsTaken call.InForm call.text bytes (Ok (record { op = asked; answer = answer }))
call_read bytes front word words answer asked parts ends read answered =
    let c : Call = record { op = asked; answer = answer } in
    let joined : front ++ 32 ∷ word ≡ (op_text asked ++ codes " =") ++ 32 ∷ answer =
    (λ i. ends i ++ 32 ∷ answered.1 i) ∙ ap (λ t. (t ++ codes " =") ++ 32 ∷ answer) read.1 in
    ((read.0, answered.0), parts ∙ (joined ∙ sym (call_text c)))
