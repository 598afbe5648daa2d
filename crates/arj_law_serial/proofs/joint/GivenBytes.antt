-- Payloads are bytes where registers have bytes; so it is of values that operations in form leave.
use Rattle.arj_law_parts.proofs.Words
use Words.{◌≡◌, ◌+◌, ◌-◌, ◌<◌, ◌++◌, ℕ, zero, suc, List, [], ◌∷◌, Bool, true, false, if◌then◌else◌, length, nat_lt, arith, ⊤}
use Words.{AllByRecursion}
use Words.{Class, Op, PairsFit, Value, ValueInForm, class_code_of, is_full_for, is_value_of, payload_of, put_pair, value_after, KeysRise}
use Words.class
use Words.value
use Rattle.arj_base.specs.declared.state.Format.TheVariants as format
use Rattle.arj_class.specs.Forms.{FormatHolds, NumbersFit}
use Rattle.arj_class.specs.Keys.{pair_bytes}
use Rattle.arj_class.specs.declared.op.Op.TheVariants as op
use Rattle.arj_law_runs.proofs.addresses.Lists.{all_append, all_flat}
use Rattle.arj_law_serial.proofs.Terms.{OpTextInForm}
use Rattle.arj_law_serial.proofs.joint.GivenForms.{after_in_form}
use Rattle.arj_text.proofs.Values.{value_in_form}
use Rattle.arj_text.specs.Fields.{AreBytes, NumberInForm, PairInForm, ValueTextInForm, is_rising}
use Rattle.std.proofs.Common.{lt-ltb, refl}
use Rattle.std.specs.Int.{byte_at, bytes_high_first}
use Rattle.std.specs.Prelude.{◌%◌, ◌/◌, ◌^◌, ◌&&◌}

-- what a register holds are bytes
abbrev pub SaysBytes : Value → Type 0
SaysBytes (value.Register bytes) = AreBytes bytes
SaysBytes v = ⊤

-- ---- bytes

high_bytes : (k n : ℕ) → AreBytes (bytes_high_first k n)
high_bytes zero n = tt
high_bytes (suc k) n = (below k, high_bytes k n)
  where
    less : (m : ℕ) → m % 256 < 256
    less m = omega arith

    below : (j : ℕ) → byte_at j n < 256
    below zero = less n
    below (suc j) = less (n / 256 ^ suc j)

any : {X : Type 0} (xs : List X) → AllByRecursion (λ (x : X). ⊤) xs
any [] = tt
any (x ∷ xs) = (tt, any xs)

code : (c : Class) → class_code_of c < 256
code class.Entry = omega arith
code class.Counter = omega arith
code class.Register = omega arith
code class.Account = omega arith
code class.Queue = omega arith
code class.Table = omega arith
code class.Gone = omega arith

pub payload_bytes : (v : Value) → SaysBytes v → AreBytes (payload_of v)
payload_bytes (value.Counter n) its = high_bytes 8 n
payload_bytes (value.Register bytes) its = its
payload_bytes (value.Account n) its = high_bytes 8 n
payload_bytes (value.Queue ns) its = all_flat (λ n. ⊤) (λ b. b < 256) (bytes_high_first 8) ns (λ n u. high_bytes 8 n) (any ns)
payload_bytes (value.Table ps) its = all_flat (λ (p : ℕ × ℕ). ⊤) (λ b. b < 256) pair_bytes ps
    (λ p u. all_append (λ b. b < 256) (bytes_high_first 8 p.0) (bytes_high_first 8 p.1) (high_bytes 8 p.0) (high_bytes 8 p.1)) (any ps)
payload_bytes (value.Gone c) its = (code c, tt)

pub text_bytes : (v : Value) → ValueTextInForm v → SaysBytes v
text_bytes (value.Register bytes) form = form.1
text_bytes v form = tt

one_bytes : (b : Bool) (v w : Value) → SaysBytes v → SaysBytes w → SaysBytes (if b then v else w)
one_bytes true v w a b = a
one_bytes false v w a b = b

pub after_bytes : (o : Op) (v : Value) → OpTextInForm o → SaysBytes v → SaysBytes (value_after o v)
after_bytes (op.Create w) (value.Gone c) fits its = one_bytes (is_value_of c w) w (value.Gone c) (text_bytes w fits.0) tt
after_bytes op.Destroy (value.Gone c) fits its = tt
after_bytes op.Destroy _ fits its = tt
after_bytes (op.Add n) (value.Counter m) fits its =
    one_bytes (nat_lt (m + n) 18446744073709551616) (value.Counter (m + n)) (value.Counter m) tt tt
after_bytes (op.Set n) (value.Counter m) fits its = tt
after_bytes (op.Put new) (value.Register bytes) fits its = fits.1
after_bytes (op.Deposit n) (value.Account m) fits its =
    one_bytes (nat_lt (m + n) 18446744073709551616) (value.Account (m + n)) (value.Account m) tt tt
after_bytes (op.Withdraw n) (value.Account m) fits its = one_bytes (nat_lt m n) (value.Account m) (value.Account (m - n)) tt tt
after_bytes (op.Push n) (value.Queue ns) fits its = one_bytes (nat_lt (length ns) 32) (value.Queue (ns ++ n ∷ [])) (value.Queue ns) tt tt
after_bytes op.Pop (value.Queue ns) fits its = tt
after_bytes (op.PutPair k x) (value.Table ps) fits its = one_bytes (is_full_for k ps) (value.Table ps) (value.Table (put_pair k x ps)) tt tt
after_bytes (op.Remove k) (value.Table ps) fits its = tt
after_bytes _ _ fits its = its

-- the format in which states are written holds every value
pub two_holds : (v : Value) → ValueInForm v → FormatHolds format.Two v
two_holds (value.Register bytes) form = form
two_holds v form = tt

-- ---- values that a text can say

numbers_back : (ns : List ℕ) → NumbersFit ns → AllByRecursion NumberInForm ns
numbers_back [] fit = tt
numbers_back (n ∷ ns) fit = (fit.0, numbers_back ns fit.1)

pairs_back : (ps : List (ℕ × ℕ)) → PairsFit ps → AllByRecursion PairInForm ps
pairs_back [] fit = tt
pairs_back (p ∷ ps) fit = ((fit.0, fit.1), pairs_back ps fit.2)

rises_back : (ps : List (ℕ × ℕ)) → KeysRise ps → is_rising ps ≡ true
rises_back [] rise = refl
rises_back (p ∷ []) rise = refl
rises_back (p ∷ q ∷ ps) rise =
    let below : nat_lt p.0 q.0 ≡ true = lt-ltb p.0 q.0 rise.0.0 in
    let more : is_rising (q ∷ ps) ≡ true = rises_back (q ∷ ps) rise.1 in
    λ i. below i && more i

text_of : (v : Value) → ValueInForm v → SaysBytes v → ValueTextInForm v
text_of (value.Counter n) form its = form
text_of (value.Register bytes) form its = (form, its)
text_of (value.Account n) form its = form
text_of (value.Queue ns) form its = (form.0, numbers_back ns form.1)
text_of (value.Table ps) form its = (form.0, pairs_back ps form.2, rises_back ps form.1)
text_of (value.Gone c) form its = form

-- what an operation in form leaves of a value that a text can say, a text can say
pub after_text : (o : Op) (v : Value) → OpTextInForm o → ValueTextInForm v → ValueTextInForm (value_after o v)
after_text o v fits form =
    text_of (value_after o v) (after_in_form o v fits (value_in_form v form)) (after_bytes o v fits (text_bytes v form))
