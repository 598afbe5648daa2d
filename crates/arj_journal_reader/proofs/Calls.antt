-- Operations with their answers in a line: which bytes their texts lack, and that no two have one text.
use Rattle.std.proofs.Common.{◌≡◌, ◌≢◌, ℕ, List, [], ◌∷◌, ◌++◌, true, false, refl, sym, ◌∙◌, ap, ◌⊎◌, inl, inr, append_assoc}
use Rattle.std.specs.Prelude.{Bool, codes}
use Rattle.std.specs.Fmt.{decimal}
use Rattle.std.proofs.lemmas.Bool.{both_ways}
use Rattle.std.proofs.lemmas.Fmt.{decimal_injective}
use Rattle.std.proofs.lemmas.List.{append_cancel_right}
use Rattle.arj_class.specs.declared.limits.TheConstants.{REGISTER_BYTES}
use Rattle.arj_class.specs.declared.op.Op.{Op}
use Rattle.arj_class.specs.declared.op.Op.TheVariants as op
use Rattle.arj_class.specs.declared.op.Answer.{Answer}
use Rattle.arj_class.specs.declared.op.Answer.TheVariants as answer
use Rattle.arj_class.specs.declared.value.Value.{Value}
use Rattle.arj_text.specs.Fields.{AnswerTextInForm, AreBytesUpTo, IsAnswer, IsThere, NumberInForm, OpTextInForm, has_byte, has_space}
use Rattle.arj_journal_reader.specs.Form.{Form, Kinds}
use Rattle.arj_journal_reader.specs.LineKinds.{call}
use Rattle.arj_text.specs.Words.{answer_text, hex, op_text, value_text}
use Rattle.arj_journal_reader.specs.Spellings.{IsKnown}
use Rattle.arj_journal_reader.proofs.ByKind.{AreOfKinds, Lacks, LacksIn, Once, OnceIn, Seen, lacks_both}
use Rattle.arj_journal_reader.proofs.Facts.{HaveWords, PieceFacts, form_of, kinds_facts, mixed_facts, spaceless_words}
use Rattle.arj_journal_reader.proofs.Leaves.{IsApart, end_apart, hex_lacks, hex_once, known_once, letters_lack, space_apart}
use Rattle.arj_journal_reader.proofs.ValueTexts.{value_lacks, value_once}
use Rattle.arj_text.proofs.Texts.{cut_once, digits_only, no_cut}

-- A text is cut at the last space in one way.
pub cut_last : (r s w v : List ℕ) → has_space w ≡ false → has_space v ≡ false → r ++ 32 ∷ w ≡ s ++ 32 ∷ v → (r ≡ s) × (w ≡ v)
cut_last [] [] w v hw hv e = (refl, cc)
cut_last [] (b ∷ s) w v hw hv e =
    let tail : w ≡ s ++ 32 ∷ v = cc in
    absurd (no_cut 32 w s v hw tail)
cut_last (a ∷ r) [] w v hw hv e =
    let tail : v ≡ r ++ 32 ∷ w = cc in
    absurd (no_cut 32 v r w hv tail)
cut_last (a ∷ r) (b ∷ s) w v hw hv e =
    let head : a ≡ b = cc in
    let tail : r ++ 32 ∷ w ≡ s ++ 32 ∷ v = cc in
    let rest = cut_last r s w v hw hv tail in
    let fronts : r ≡ s = rest.0 in
    (cc, rest.1)

-- Answers hold no space and no end of a line.
answer_lacks : (k : ℕ) → IsApart k → (p : Op) (a : Answer) → AnswerTextInForm p a → has_byte k (answer_text a) ≡ false
answer_lacks k apart p answer.Done h = letters_lack k apart.letter (codes "done") refl
answer_lacks k apart p (answer.Number m) h = digits_only k m apart.digit h
answer_lacks k apart p (answer.Text bytes) h = hex_lacks k apart bytes h.1.1
answer_lacks k apart p answer.Over h = letters_lack k apart.letter (codes "over") refl
answer_lacks k apart p answer.Short h = letters_lack k apart.letter (codes "short") refl
answer_lacks k apart p answer.Full h = letters_lack k apart.letter (codes "full") refl
answer_lacks k apart p answer.Nothing h = letters_lack k apart.letter (codes "none") refl
answer_lacks k apart p answer.There h = letters_lack k apart.letter (codes "there") refl
answer_lacks k apart p answer.Gone h = letters_lack k apart.letter (codes "gone") refl

pub spaceless_answer : (p : Op) (bytes : List ℕ) → IsAnswer p bytes → has_space bytes ≡ false
spaceless_answer p bytes h = ap (has_byte 32) h.2 ∙ answer_lacks 32 space_apart p h.0 h.1

pub endless_answer : (p : Op) (bytes : List ℕ) → IsAnswer p bytes → has_byte 10 bytes ≡ false
endless_answer p bytes h = ap (has_byte 10) h.2 ∙ answer_lacks 10 end_apart p h.0 h.1

-- The operations with arguments, by their words; four have none.
data OpWord : Type 0 where
  Add : OpWord
  Set : OpWord
  Put : OpWord
  Deposit : OpWord
  Withdraw : OpWord
  Push : OpWord
  Get : OpWord
  Remove : OpWord
  Create : OpWord

abbrev word_of : OpWord → List ℕ
word_of Add = codes "add"
word_of Set = codes "set"
word_of Put = codes "put"
word_of Deposit = codes "deposit"
word_of Withdraw = codes "withdraw"
word_of Push = codes "push"
word_of Get = codes "get"
word_of Remove = codes "remove"
word_of Create = codes "create"

abbrev words : List OpWord
words = Add ∷ Set ∷ Put ∷ Deposit ∷ Withdraw ∷ Push ∷ Get ∷ Remove ∷ Create ∷ []

words_known : IsKnown word_of words
words_known Add = refl
words_known Set = refl
words_known Put = refl
words_known Deposit = refl
words_known Withdraw = refl
words_known Push = refl
words_known Get = refl
words_known Remove = refl
words_known Create = refl

-- what a put says: the bytes of a register, or a key and a value
data Puts : Type 0 where
  Bytes : List ℕ → Puts
  Pair : ℕ → ℕ → Puts

abbrev PutsFit : Puts → Type 0
PutsFit (Bytes bytes) = AreBytesUpTo REGISTER_BYTES bytes
PutsFit (Pair k v) = NumberInForm k × NumberInForm v

abbrev puts_text : Puts → List ℕ
puts_text (Bytes bytes) = hex bytes
puts_text (Pair k v) = decimal k ++ 32 ∷ decimal v

no_pair_bytes : (bytes : List ℕ) (k v : ℕ) → AreBytesUpTo REGISTER_BYTES bytes → hex bytes ≢ decimal k ++ 32 ∷ decimal v
no_pair_bytes bytes k v fits e = no_cut 32 (hex bytes) (decimal k) (decimal v) (hex_lacks 32 space_apart bytes fits.1) e

puts_once : Once PutsFit puts_text
puts_once (Bytes xs) (Bytes ys) hx hy e = ap (λ bs. Bytes bs) (hex_once xs ys hx.1 hy.1 e)
puts_once (Bytes xs) (Pair k v) hx hy e = absurd (no_pair_bytes xs k v hx e)
puts_once (Pair k v) (Bytes ys) hx hy e = absurd (no_pair_bytes ys k v hy (sym e))
puts_once (Pair k v) (Pair l w) hx hy e =
    let cuts = cut_once 32 (decimal k) (decimal l) (decimal v) (decimal w) (digits_only 32 k refl hx.0) (digits_only 32 l refl hy.0) e in
    let key = decimal_injective k l hx.0 hy.0 cuts.0 in
    let value = decimal_injective v w hx.1 hy.1 cuts.1 in
    λ i. Pair (key i) (value i)

puts_endless : Lacks 10 PutsFit puts_text
puts_endless (Bytes bytes) h = hex_lacks 10 end_apart bytes h.1
puts_endless (Pair k v) h = lacks_both 10 (decimal k) (32 ∷ decimal v) (digits_only 10 k refl h.0) (digits_only 10 v refl h.1)

abbrev number : Form
number = record { Value = ℕ; InForm = NumberInForm; text = decimal }

abbrev puts : Form
puts = record { Value = Puts; InForm = PutsFit; text = puts_text }

abbrev there : Form
there = record { Value = Value; InForm = IsThere; text = value_text }

abbrev op_form : OpWord → Form
op_form Put = puts
op_form Add = number
op_form Set = number
op_form Deposit = number
op_form Withdraw = number
op_form Push = number
op_form Get = number
op_form Remove = number
op_form Create = there

abbrev make_put : Puts → Op
make_put (Bytes bytes) = op.Put bytes
make_put (Pair k v) = op.PutPair k v

abbrev make_op : (w : OpWord) → (op_form w).Value → Op
make_op Put v = make_put v
make_op Add v = op.Add v
make_op Set v = op.Set v
make_op Deposit v = op.Deposit v
make_op Withdraw v = op.Withdraw v
make_op Push v = op.Push v
make_op Get v = op.GetKey v
make_op Remove v = op.Remove v
make_op Create v = op.Create v

abbrev ops : Kinds
ops = record { Kind = OpWord; word = word_of; form = op_form; Whole = Op; make = make_op }

abbrev has_words : Op → Bool
has_words op.Get = false
has_words op.Len = false
has_words op.Pop = false
has_words op.Destroy = false
has_words _ = true

abbrev OpFits : Op → Type 0
OpFits p = OpTextInForm p × (has_words p ≡ true)

seen_op : (p : Op) → OpFits p → Seen ops p
seen_op op.Get h = absurd (both_ways false refl h.1)
seen_op (op.Add n) h = record { kind = Add; value = n; fits = h.0; made = refl }
seen_op (op.Set n) h = record { kind = Set; value = n; fits = h.0; made = refl }
seen_op (op.Put bytes) h = record { kind = Put; value = Bytes bytes; fits = h.0; made = refl }
seen_op (op.Deposit n) h = record { kind = Deposit; value = n; fits = h.0; made = refl }
seen_op (op.Withdraw n) h = record { kind = Withdraw; value = n; fits = h.0; made = refl }
seen_op op.Len h = absurd (both_ways false refl h.1)
seen_op (op.Push n) h = record { kind = Push; value = n; fits = h.0; made = refl }
seen_op op.Pop h = absurd (both_ways false refl h.1)
seen_op (op.GetKey k) h = record { kind = Get; value = k; fits = h.0; made = refl }
seen_op (op.PutPair k v) h = record { kind = Put; value = Pair k v; fits = h.0; made = refl }
seen_op (op.Remove k) h = record { kind = Remove; value = k; fits = h.0; made = refl }
seen_op (op.Create v) h = record { kind = Create; value = v; fits = h.0; made = refl }
seen_op op.Destroy h = absurd (both_ways false refl h.1)

op_fits : (w : OpWord) (v : (op_form w).Value) → (op_form w).InForm v → OpFits (make_op w v)
op_fits Put (Bytes bytes) h = (h, refl)
op_fits Put (Pair k v) h = (h, refl)
op_fits Add v h = (h, refl)
op_fits Set v h = (h, refl)
op_fits Deposit v h = (h, refl)
op_fits Withdraw v h = (h, refl)
op_fits Push v h = (h, refl)
op_fits Get v h = (h, refl)
op_fits Remove v h = (h, refl)
op_fits Create v h = (h, refl)

op_spelled : (w : OpWord) (v : (op_form w).Value) → op_text (make_op w v) ≡ word_of w ++ 32 ∷ (op_form w).text v
op_spelled Put (Bytes bytes) = refl
op_spelled Put (Pair k v) = refl
op_spelled Add v = refl
op_spelled Set v = refl
op_spelled Deposit v = refl
op_spelled Withdraw v = refl
op_spelled Push v = refl
op_spelled Get v = refl
op_spelled Remove v = refl
op_spelled Create v = refl

op_words : HaveWords ops words
op_words = record { known = words_known; letters = refl }

ops_are : AreOfKinds ops OpFits op_text
ops_are = record {
  spaceless = spaceless_words ops words op_words;
  apart = known_once word_of words words_known;
  fits = op_fits;
  spelled =
      op_spelled;
  seen = seen_op;
}

number_facts : PieceFacts number
number_facts = record { once = λ m n hm hn e. decimal_injective m n hm hn e; endless = λ n h. digits_only 10 n refl h }

puts_facts : PieceFacts puts
puts_facts = record { once = puts_once; endless = puts_endless }

there_facts : PieceFacts there
there_facts = record {
  once = λ v w hv hw e. value_once v w hv.0 hw.0 e;
  endless = λ v h. value_lacks 10 end_apart refl refl v h.0;
}

op_forms : (w : OpWord) → PieceFacts (op_form w)
op_forms Put = puts_facts
op_forms Add = number_facts
op_forms Set = number_facts
op_forms Deposit = number_facts
op_forms Withdraw = number_facts
op_forms Push = number_facts
op_forms Get = number_facts
op_forms Remove = number_facts
op_forms Create = there_facts

-- the operations without arguments
data Bare : Type 0 where
  BareGet : Bare
  BareLen : Bare
  BarePop : Bare
  BareDestroy : Bare

abbrev bare_op : Bare → Op
bare_op BareGet = op.Get
bare_op BareLen = op.Len
bare_op BarePop = op.Pop
bare_op BareDestroy = op.Destroy

abbrev bares : List Bare
bares = BareGet ∷ BareLen ∷ BarePop ∷ BareDestroy ∷ []

bare_known : IsKnown (λ b. op_text (bare_op b)) bares
bare_known BareGet = refl
bare_known BareLen = refl
bare_known BarePop = refl
bare_known BareDestroy = refl

either : (p : Op) → OpTextInForm p → ((b : Bare) × (bare_op b ≡ p)) ⊎ OpFits p
either op.Get h = inl (BareGet, refl)
either op.Len h = inl (BareLen, refl)
either op.Pop h = inl (BarePop, refl)
either op.Destroy h = inl (BareDestroy, refl)
either (op.Add v) h = inr (h, refl)
either (op.Set v) h = inr (h, refl)
either (op.Put v) h = inr (h, refl)
either (op.Deposit v) h = inr (h, refl)
either (op.Withdraw v) h = inr (h, refl)
either (op.Push v) h = inr (h, refl)
either (op.GetKey v) h = inr (h, refl)
either (op.Remove v) h = inr (h, refl)
either (op.PutPair k v) h = inr (h, refl)
either (op.Create v) h = inr (h, refl)

pub op_facts : PieceFacts (form_of Op OpTextInForm op_text)
op_facts = mixed_facts ops OpFits OpTextInForm op_text (record { Bare = Bare; bare = bare_op; every = bares })
    (record {
      are = ops_are;
      facts = kinds_facts ops words OpFits op_text op_words ops_are op_forms;
      known = bare_known;
      letters =
          refl;
      either = either;
    })

-- an operation and its answer
call_once : OnceIn call
call_once c d hc hd e =
    let fronts : (op_text c.op ++ 32 ∷ 61 ∷ []) ++ 32 ∷ c.answer ≡ (op_text d.op ++ 32 ∷ 61 ∷ []) ++ 32 ∷ d.answer =
    append_assoc (op_text c.op) (32 ∷ 61 ∷ []) (32 ∷ c.answer) ∙ (e ∙ sym (append_assoc (op_text d.op) (32 ∷ 61 ∷ []) (32 ∷ d.answer))) in
    let cuts = cut_last (op_text c.op ++ 32 ∷ 61 ∷ []) (op_text d.op ++ 32 ∷ 61 ∷ []) c.answer d.answer (spaceless_answer c.op c.answer hc.1) (spaceless_answer d.op d.answer hd.1) fronts in
    let asked = op_facts.once c.op d.op hc.0 hd.0 (append_cancel_right (op_text c.op) (op_text d.op) (32 ∷ 61 ∷ []) cuts.0) in
    λ i. record { op = asked i; answer = cuts.1 i }

call_endless : LacksIn 10 call
call_endless c h =
    lacks_both 10 (op_text c.op) (32 ∷ 61 ∷ 32 ∷ c.answer) (op_facts.endless c.op h.0) (lacks_both 10 (32 ∷ 61 ∷ 32 ∷ []) c.answer refl (endless_answer c.op c.answer h.1))

pub call_facts : PieceFacts call
call_facts = record { once = call_once; endless = call_endless }
