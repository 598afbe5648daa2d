-- The texts of answers.
use Rattle.std.proofs.Common.{◌≡◌, ◌≢◌, ℕ, ◌≤◌, List, codes, true, false, Some, refl, arith}
use Rattle.std.specs.Fmt.{decimal}
use Rattle.std.proofs.lemmas.Bool.{both_ways}
use Rattle.arj_class.specs.declared.limits.TheConstants.{REGISTER_BYTES}
use Rattle.arj_class.specs.declared.op.Op.{Op}
use Rattle.arj_class.specs.declared.op.Answer.{Answer}
use Rattle.arj_class.specs.declared.op.Answer.TheVariants as answer
use Rattle.arj_text.specs.Words.{answer_text, hex}
use Rattle.arj_text.specs.Fields.{AreBytesUpTo, IsAnswer, IsRead, IsWithin, NumberInForm, is_get}
use Rattle.arj_journal_reader.specs.Reading.{IsAnswerWord, is_word_answer}

-- the answers that are a word
pub word_answer : (bytes : List ℕ) (a : Answer) → is_word_answer a ≡ true → bytes ≡ answer_text a → IsAnswerWord bytes
word_answer bytes a word e = (a, word, e)

pub no_word_answer : (bytes : List ℕ) → bytes ≢ codes "done" → bytes ≢ codes "over" → bytes ≢ codes "short" → bytes ≢ codes "full" →
    bytes ≢ codes "none" → bytes ≢ codes "there" → bytes ≢ codes "gone" → IsAnswerWord bytes → ⊥
no_word_answer bytes done over short full nothing there gone h = cases h.0 h.1 h.2
  where
    cases : (a : Answer) → is_word_answer a ≡ true → bytes ≢ answer_text a
    cases answer.Done word e = done e
    cases (answer.Number n) word e = both_ways false refl word
    cases (answer.Text bs) word e = both_ways false refl word
    cases answer.Over word e = over e
    cases answer.Short word e = short e
    cases answer.Full word e = full e
    cases answer.Nothing word e = nothing e
    cases answer.There word e = there e
    cases answer.Gone word e = gone e

-- a number, and after a `get` without a key bytes
pub number_answer : (asked : Op) (bytes : List ℕ) (n : ℕ) → IsRead (IsWithin 0 18446744073709551615) decimal bytes (Some n) →
    IsAnswer asked bytes
number_answer asked bytes n read =
    let high : n ≤ 18446744073709551615 = read.0.1 in
    let fits : NumberInForm n = omega arith in
    (answer.Number n, fits, read.1)

pub text_answer : (asked : Op) (bytes found : List ℕ) → is_get asked ≡ true → IsRead (AreBytesUpTo REGISTER_BYTES) hex bytes (Some found) →
    IsAnswer asked bytes
text_answer asked bytes found get read = (answer.Text found, (get, read.0), read.1)
