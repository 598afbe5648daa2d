-- Numbers as they are printed, and as they are read.
use Rattle.std.proofs.Common.{◌≡◌, ℕ, zero, suc, ◌<◌, ◌≤◌, List, [], ◌∷◌, refl, sym, ◌∙◌, ap, subst, arith}
use Rattle.std.specs.Prelude.{Result, Ok, Err, get_or}
use Rattle.std.proofs.Math.Logic.{⊎_elim}
use Rattle.std.proofs.Math.Nat.{eq-or-lt_of_le}
use Rattle.std.specs.Fmt.{decimal}
use Rattle.std.specs.Str.Parse.{AllDigits, ParsesUnsigned, digits_value}
use Rattle.std.proofs.lemmas.Fmt.{decimal-digits_value, decimal_digit, decimal_injective, decimal_nonempty, first_decimal, parse-decimal}
use Rattle.std.proofs.lemmas.Str.Parse.{IsNumeralModel, numerals_by_value, parse_plain, tells_digits}
use Rattle.std.specs.declared.alloc.Global.{Global}
use Rattle.std.specs.Prelude.{String}
use Rattle.arj_bank.specs.Balances.{Reader}
use Rattle.arj_bank.specs.Bank.{Generates}
use Rattle.arj_loop.specs.Replayed.{Answer, Outside}
use Rattle.arj_loop.specs.declared.machine.Machine.{Ghosts}
use Rattle.arj_command.specs.Command.{IsCheck, IsGenerate, IsPlain, IsReplay, NamesBank, most_banks}

own : IsNumeralModel (AllDigits 10) (digits_value 10)
own = numerals_by_value (AllDigits 10) tells_digits

-- a number is printed plainly
pub plain_decimal : (n : ℕ) → n < most_banks → IsPlain (decimal n)
plain_decimal zero small = subst IsPlain (sym (decimal_digit 0 (omega arith))) (omega arith, λ e. absurd (omega (arith, e)), λ e. refl)
plain_decimal (suc k) small =
    let first = first_decimal (suc k) (omega arith) (omega (arith, small)) in
    (decimal_nonempty (suc k) (omega (arith, small)), λ e. absurd (omega (arith, e, first)), λ e. absurd (omega (arith, e, first)))

-- and where a plain text was read as a number, it is that number's
pub read_plain : {E : Type 0} (bytes : List ℕ) (r : Result ℕ E) (n : ℕ) → IsPlain bytes → ParsesUnsigned 32 10 bytes r → r ≡ Ok n →
    bytes ≡ decimal n
read_plain {E} bytes (Ok m) n plain parses is =
    let p = parse_plain own {E = E} 32 bytes (Ok m) parses plain.1 in
    let same : m ≡ n = cc is in
    sym (decimal-digits_value own bytes p.0.0 plain.0 plain.2 (omega (arith, p.0.2))) ∙ ap decimal (sym p.1 ∙ same)
read_plain bytes (Err e) n plain parses is = absurd (cc is)

-- one that is printed was read
pub not_read : {E : Type 0} (bytes : List ℕ) (r : Result ℕ E) (fault : E) (n : ℕ) → n < most_banks → bytes ≡ decimal n →
    ParsesUnsigned 32 10 bytes r → r ≡ Err fault → ⊥
not_read bytes r fault n small is parses failed =
    let found = parse-decimal 32 n bytes r (omega (arith, small)) (omega (arith, small)) is parses in absurd (cc (sym failed ∙ found))

-- words name one text
one_text : (words : List (String Global)) (a b : List ℕ) → NamesBank words a → NamesBank words b → a ≡ b
one_text [] a b first second = absurd first
one_text (word ∷ []) a b first second = absurd first
one_text (word ∷ number ∷ []) a b first second = sym first.1 ∙ second.1
one_text (word ∷ number ∷ more ∷ words) a b first second = absurd first

pub one_number : (words : List (String Global)) (m n : ℕ) → IsGenerate words m → IsGenerate words n → m ≡ n
one_number words m n first second =
    decimal_injective m n (omega (arith, first.0)) (omega (arith, second.0)) (one_text words (decimal m) (decimal n) first.1 second.1)

-- `replay` is one word
pub not_both : (words : List (String Global)) (text : List ℕ) → NamesBank words text → IsReplay words → ⊥
not_both [] text names is = names
not_both (word ∷ []) text names is = names
not_both (word ∷ number ∷ []) text names is = is
not_both (word ∷ number ∷ more ∷ words) text names is = names

-- and so is `check`
pub not_check : (words : List (String Global)) (text : List ℕ) → NamesBank words text → IsCheck words → ⊥
not_check [] text names is = names
not_check (word ∷ []) text names is = names
not_check (word ∷ number ∷ []) text names is = is
not_check (word ∷ number ∷ more ∷ words) text names is = names

-- which is another word
pub not_two : (words : List (String Global)) → IsReplay words → IsCheck words → ⊥
not_two [] replay check = replay
not_two (word ∷ []) replay check = omega (arith, ap (λ bs. get_or bs 0 0) (sym replay ∙ check))
not_two (word ∷ more ∷ words) replay check = replay

-- words ask for one bank
pub generates_one : {D M : Type 0} (m : Ghosts M D) (r : Reader D) (words : List (String Global)) (n k : ℕ) → IsGenerate words n →
    IsGenerate words k → (before after : Outside D) (answer : Answer M)
    → Generates m r n before after answer → Generates m r k before after answer
generates_one m r words n k first second before after answer h =
    subst (λ i. Generates m r i before after answer) (one_number words n k first second) h

-- a status up to 8 that isn't 8
pub le_7 : (n : ℕ) → n ≤ 8 → (n ≡ 8 → ⊥) → n ≤ 7
le_7 n within other = ⊎_elim (λ same. absurd (other same)) (λ less. omega (arith, less)) (eq-or-lt_of_le within)
