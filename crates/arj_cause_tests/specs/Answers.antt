-- Which texts answer an operation, as tests that compute.
use Rattle.std.specs.Prelude.{ℕ, zero, suc, List, [], ◌∷◌, codes, Bool, true, false, ◌==◌, ◌&&◌, ◌||◌, not, nat_le, nat_lt}
use Rattle.std.specs.Str.{bytes_eq}
use Rattle.arj_class.specs.Table.{class_of, is_value_of}
use Rattle.arj_class.specs.declared.op.Op.{Op}
use Rattle.arj_class.specs.declared.op.Op.TheVariants.{Get, Add, Set, Put, Deposit, Withdraw, Len, Push, Pop, GetKey, PutPair, Remove, Create, Destroy}
use Rattle.arj_text.specs.Label.{is_digit}

-- the list is empty
abbrev pub is_nil : {A : Type 0} → List A → Bool
is_nil [] = true
is_nil (a ∷ rest) = false

-- the first list, from its end on, before the second
abbrev pub onto : List ℕ → List ℕ → List ℕ
onto [] behind = behind
onto (d ∷ rest) behind = onto rest (d ∷ behind)

-- Digits, from the last one on, of a number that isn't 0: the last ones of it, where it has more than are written.
abbrev pub are_last : ℕ → List ℕ → Bool
are_last zero digits = is_nil digits
are_last (suc most) [] = false
are_last (suc most) (d ∷ digits) = is_digit d && ((is_nil digits && not (d == 48)) || are_last most digits)

-- the text is a number's, of which at most 64 digits are written
abbrev pub is_number : List ℕ → Bool
is_number text = bytes_eq text (48 ∷ []) || are_last 64 (onto text [])

-- the first digit of the two that stand for some number, and the second
abbrev pub is_high : ℕ → Bool
is_high d = is_digit d || nat_le 97 d

abbrev pub is_low : ℕ → Bool
is_low d = is_digit d || (nat_le 97 d && nat_le d 102)

-- the text is one of pairs of such digits
abbrev pub are_pairs : List ℕ → Bool
are_pairs [] = true
are_pairs (high ∷ []) = false
are_pairs (high ∷ low ∷ rest) = is_high high && (is_low low && are_pairs rest)

-- the text is that of bytes
abbrev pub is_hex : List ℕ → Bool
is_hex [] = false
is_hex (d ∷ rest) = bytes_eq (d ∷ rest) (codes "-") || are_pairs (d ∷ rest)

-- the text is one that the operation answers at some object that is there, of a class that has it
abbrev pub answers_there : Op → List ℕ → Bool
answers_there Get text = is_number text || is_hex text
answers_there (Add n) text = (nat_lt n 18446744073709551616 && bytes_eq text (codes "done")) || bytes_eq text (codes "over")
answers_there (Set n) text = bytes_eq text (codes "done")
answers_there (Put bytes) text = bytes_eq text (codes "done")
answers_there (Deposit n) text = (nat_lt n 18446744073709551616 && bytes_eq text (codes "done")) || bytes_eq text (codes "over")
answers_there (Withdraw n) text = bytes_eq text (codes "done") || (nat_lt 0 n && bytes_eq text (codes "short"))
answers_there Len text = is_number text
answers_there (Push n) text = bytes_eq text (codes "done") || bytes_eq text (codes "full")
answers_there Pop text = bytes_eq text (codes "none") || is_number text
answers_there (GetKey k) text = bytes_eq text (codes "none") || is_number text
answers_there (PutPair k v) text = bytes_eq text (codes "done") || bytes_eq text (codes "full")
answers_there (Remove k) text = bytes_eq text (codes "none") || is_number text
answers_there (Create v) text = is_value_of (class_of v) v && bytes_eq text (codes "there")
answers_there Destroy text = bytes_eq text (codes "done")

-- the text is the one that it answers where the object is gone
abbrev pub answers_gone : Op → List ℕ → Bool
answers_gone (Create v) text = is_value_of (class_of v) v && bytes_eq text (codes "done")
answers_gone op text = bytes_eq text (codes "gone")

-- the text is one that the operation answers at some object of a class that has it
abbrev pub answers : Op → List ℕ → Bool
answers op text = answers_there op text || answers_gone op text
