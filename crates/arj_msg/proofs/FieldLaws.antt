-- The laws of the fields.
use Rattle.std.proofs.Common.{◌≡◌, ℕ, ◌+◌, ◌<◌, ◌≤◌, zero, suc, List, [], ◌∷◌, ◌++◌, length, take, drop, Some, None, Option, Result, Ok}
use Rattle.std.proofs.Common.{Err, sym, ap, subst, refl, ◌∙◌, arith, Bool, true, false, ◌==◌, nat_lt, if◌then◌else◌, inl, inr}
use Rattle.std.specs.List.{concat}
use Rattle.std.specs.Int.{w16, w32, w64, from_be_bytes}
use Rattle.std.proofs.lemmas.Bool.{cases_lt, ltb-false, le-ltb}
use Rattle.std.proofs.lemmas.Bool.Decides.{nat_tests}
use Rattle.std.proofs.lemmas.List.{take_at, drop_at, take-append-drop, drop-drop, length-append, length-take, length-drop, get_or-drop}
use Rattle.std.proofs.lemmas.List.{get_or-take, get_or_past}
use Rattle.std.proofs.lemmas.Nat.{be_bytes_2, be_bytes_4, be_bytes_8, from_be_bytes-to_be_bytes_2, from_be_bytes-to_be_bytes_4}
use Rattle.std.proofs.lemmas.Nat.{from_be_bytes-to_be_bytes_8}
use Rattle.byteorder.specs.Endian.{big_bytes}
use Rattle.arj_base.specs.declared.uid.Uid.{Uid}
use Rattle.arj_base.specs.declared.binding.Binding.{Binding}
use Rattle.arj_base.specs.declared.mode.Mode.{Mode}
use Rattle.arj_base.specs.declared.mode.Mode.TheVariants.{Read, Exclude, Write}
use Rattle.arj_base.specs.declared.mode.End.{End}
use Rattle.arj_base.specs.declared.mode.End.TheVariants.{Abort, Commit}
use Rattle.arj_base.specs.Mode.{mode_code}
use Rattle.arj_base.specs.Uid.{uid_bytes, UidFits, nobody}
use Rattle.arj_msg.specs.Format.{Format, one_field, between, cut_byte, byte, both, many, list, nothing}
use Rattle.arj_msg.specs.Fields.{cut_fixed, node, object, number2, number4, number8, binding, binding_bytes, binding_from, BindingFits, uid}
use Rattle.arj_msg.specs.Fields.{uid_from, flag, flag_code, mode, mode_from, outcome, end_from, end_code, ends, long_list}
use Rattle.arj_msg.proofs.Laws.{IsBytes, Lawful, field_lawful, chain_lawful, shaped_lawful, many_lawful}

-- what a test that gave a value says
pub if_some : {A : Type 0} (t : Bool) (x y : A) → (if t then Some x else None) ≡ Some y → (t ≡ true) × (x ≡ y)
if_some true x y e = (refl, cc)
if_some false x y e = absurd cc

pub else_some : {A : Type 0} (t : Bool) (o : Option A) (y : A) → (if t then None else o) ≡ Some y → (t ≡ false) × (o ≡ Some y)
else_some true o y e = absurd cc
else_some false o y e = (refl, e)

pub bytes_take : (n : ℕ) (bytes : List ℕ) → IsBytes bytes → IsBytes (take n bytes)
bytes_take n bytes are i =
    elim (cases_lt i n) [
      | inl less ↦ rw (get_or-take n bytes i 0 less) (are i)
      | inr le ↦ rw (get_or_past (take n bytes) i 0 (omega (arith, length-take n bytes))) (omega arith)
    ]

pub bytes_drop : (n : ℕ) (bytes : List ℕ) → IsBytes bytes → IsBytes (drop n bytes)
bytes_drop n bytes are i = rw get_or-drop (are (n + i))

pub between_le : (low high n : ℕ) → between low high n ≡ true → (low ≤ n) × (n ≤ high)
between_le low high n is = (grind (arith, nat_tests), grind (arith, nat_tests))

pub le_between : (low high n : ℕ) → low ≤ n → n ≤ high → between low high n ≡ true
le_between low high n above below = grind (arith, nat_tests)

-- ---- one byte

byte_found : (low high : ℕ) (bytes : List ℕ) (a : ℕ) (rest : List ℕ) → IsBytes bytes → cut_byte low high bytes ≡ Some (a, rest) →
    (between low high a ≡ true) × (bytes ≡ (a ∷ []) ++ rest)
byte_found low high [] a rest are e = absurd cc
byte_found low high (b ∷ bytes) a rest are e =
    let found = if_some (between low high b) (b, bytes) (a, rest) e in
    let same : b ≡ a = ap (λ p. p.0) found.1 in
    (subst (λ n. between low high n ≡ true) same found.0, λ i. (found.1 i).0 ∷ (found.1 i).1)

byte_again : (low high a : ℕ) (rest : List ℕ) → between low high a ≡ true → cut_byte low high ((a ∷ []) ++ rest) ≡ Some (a, rest)
byte_again low high a rest fits = ap (λ t. if t then Some (a, rest) else None) fits

pub byte_lawful : (low high : ℕ) → low ≤ high → Lawful (byte low high)
unfolding byte
byte_lawful low high le =
    field_lawful (λ n. n ∷ []) (λ n. between low high n ≡ true) (cut_byte low high) (byte_found low high) (byte_again low high) (low, le_between low high low (omega arith) le)

-- ---- fields of a fixed number of bytes

module _ {A : Type 0} (n : ℕ) (value : List ℕ → A) (spell : A → List ℕ) (allowed : A → Bool) (Fits : A → Type 0) (long : (a : A) →
    length (spell a) ≡ n)
    (back : (bytes : List ℕ) → length bytes ≡ n → IsBytes bytes → spell (value bytes) ≡ bytes) (again : (a : A) → Fits a →
    value (spell a) ≡ a) (good : (a : A) → Fits a → allowed a ≡ true)
    (fits_in : (bytes : List ℕ) → length bytes ≡ n → IsBytes bytes → allowed (value bytes) ≡ true →
    Fits (value bytes)) (one : (a : A) × Fits a) where
  fixed_found : (bytes : List ℕ) (a : A) (rest : List ℕ) → IsBytes bytes → cut_fixed n value allowed bytes ≡ Some (a, rest) →
      Fits a × (bytes ≡ spell a ++ rest)
  fixed_found bytes a rest are e =
      let enough = else_some (nat_lt (length bytes) n) (if allowed (value (take n bytes)) then Some (value (take n bytes), drop n bytes) else None) (a, rest) e in
      let found = if_some (allowed (value (take n bytes))) (value (take n bytes), drop n bytes) (a, rest) enough.1 in
      let le : n ≤ length bytes = ltb-false _ _ enough.0 in
      let size : length (take n bytes) ≡ n = omega (arith, length-take n bytes) in
      let same : value (take n bytes) ≡ a = ap (λ p. p.0) found.1 in
      let rest_is : drop n bytes ≡ rest = ap (λ p. p.1) found.1 in
      let front = back (take n bytes) size (bytes_take n bytes are) in
      (subst Fits same (fits_in (take n bytes) size (bytes_take n bytes are) found.0), sym (take-append-drop n bytes) ∙ (λ i. (sym front ∙ ap spell same) i ++ rest_is i))

  fixed_again : (a : A) (rest : List ℕ) → Fits a → cut_fixed n value allowed (spell a ++ rest) ≡ Some (a, rest)
  fixed_again a rest fits =
      let enough : nat_lt (length (spell a ++ rest)) n ≡ false = le-ltb _ _ (omega (arith, length-append (spell a) rest, long a)) in
      let same : value (take n (spell a ++ rest)) ≡ a = ap value (take_at (spell a) rest n (long a)) ∙ again a fits in
      ap (λ t. if t then None else (if allowed (value (take n (spell a ++ rest))) then Some (value (take n (spell a ++ rest)), drop n (spell a ++ rest)) else None)) enough
      ∙ (λ i. if allowed (same i) then Some (same i, drop_at (spell a) rest n (long a) i) else None) ∙ ap (λ t. if t then Some (a, rest) else None) (good a fits)

  pub fixed_lawful : Lawful (one_field spell Fits (cut_fixed n value allowed))
  fixed_lawful = field_lawful spell Fits (cut_fixed n value allowed) fixed_found fixed_again one

below_2 : (bytes : List ℕ) → IsBytes bytes → from_be_bytes w16 bytes < 65536
below_2 bytes are = omega (arith, are 0, are 1)

below_4 : (bytes : List ℕ) → IsBytes bytes → from_be_bytes w32 bytes < 4294967296
below_4 bytes are = omega (arith, are 0, are 1, are 2, are 3)

below_8 : (bytes : List ℕ) → IsBytes bytes → from_be_bytes w64 bytes < 18446744073709551616
below_8 bytes are = omega (arith, are 0, are 1, are 2, are 3, are 4, are 5, are 6, are 7)

back_2 : (bytes : List ℕ) → length bytes ≡ 2 → IsBytes bytes → big_bytes 2 (from_be_bytes w16 bytes) ≡ bytes
back_2 bytes size are = be_bytes_2 bytes _ size are refl

back_4 : (bytes : List ℕ) → length bytes ≡ 4 → IsBytes bytes → big_bytes 4 (from_be_bytes w32 bytes) ≡ bytes
back_4 bytes size are = be_bytes_4 bytes _ size are refl

back_8 : (bytes : List ℕ) → length bytes ≡ 8 → IsBytes bytes → big_bytes 8 (from_be_bytes w64 bytes) ≡ bytes
back_8 bytes size are = be_bytes_8 bytes _ size are refl

pub node_lawful : Lawful node
unfolding node
node_lawful = byte_lawful 1 16 (omega arith)

pub object_lawful : Lawful object
unfolding object
object_lawful =
    fixed_lawful 2 (from_be_bytes w16) (big_bytes 2) (between 1 256) (λ x. between 1 256 x ≡ true) (λ x. refl) back_2 (λ x fits. from_be_bytes-to_be_bytes_2 x (omega (arith, (between_le 1 256 x fits).1))) (λ x fits. fits)
    (λ bytes size are good. good) (1, refl)

pub number2_lawful : Lawful number2
unfolding number2
number2_lawful =
    fixed_lawful 2 (from_be_bytes w16) (big_bytes 2) (λ _. true) (λ n. n < 65536) (λ n. refl) back_2 (λ n fits. from_be_bytes-to_be_bytes_2 n fits) (λ n fits. refl) (λ bytes size are good. below_2 bytes are) (0, omega arith)

pub number4_lawful : Lawful number4
unfolding number4
number4_lawful =
    fixed_lawful 4 (from_be_bytes w32) (big_bytes 4) (λ _. true) (λ n. n < 4294967296) (λ n. refl) back_4 (λ n fits. from_be_bytes-to_be_bytes_4 n fits) (λ n fits. refl) (λ bytes size are good. below_4 bytes are) (0, omega arith)

pub number8_lawful : Lawful number8
unfolding number8
number8_lawful =
    fixed_lawful 8 (from_be_bytes w64) (big_bytes 8) (λ _. true) (λ n. n < 18446744073709551616) (λ n. refl) back_8 (λ n fits. from_be_bytes-to_be_bytes_8 n fits) (λ n fits. refl) (λ bytes size are good. below_8 bytes are) (0, omega arith)

binding_back : (bytes : List ℕ) → length bytes ≡ 8 → IsBytes bytes → binding_bytes (binding_from bytes) ≡ bytes
binding_back bytes size are =
    (λ i. back_4 (take 4 bytes) (omega (arith, length-take 4 bytes)) (bytes_take 4 bytes are) i ++ back_4 (drop 4 bytes) (omega (arith, length-drop 4 bytes)) (bytes_drop 4 bytes are) i) ∙ take-append-drop 4 bytes

binding_again : (b : Binding) → BindingFits b → binding_from (binding_bytes b) ≡ b
binding_again b fits =
    λ i. record { inc = from_be_bytes-to_be_bytes_4 b.inc fits.0 i; count = from_be_bytes-to_be_bytes_4 b.count fits.1 i }

pub binding_lawful : Lawful binding
unfolding binding
binding_lawful = fixed_lawful 8 binding_from binding_bytes (λ _. true) BindingFits (λ b. refl) binding_back binding_again (λ b fits. refl)
    (λ bytes size are good. (below_4 (take 4 bytes) (bytes_take 4 bytes are), below_4 (drop 4 bytes) (bytes_drop 4 bytes are))) (record { inc = 0; count = 0 }, (omega arith, omega arith))

uid_back : (bytes : List ℕ) → length bytes ≡ 16 → IsBytes bytes → uid_bytes (uid_from bytes) ≡ bytes
uid_back bytes size are =
    let node = back_4 (take 4 bytes) (omega (arith, length-take 4 bytes)) (bytes_take 4 bytes are) in
    let inc = back_4 (take 4 (drop 4 bytes)) (omega (arith, length-take 4 (drop 4 bytes), length-drop 4 bytes)) (bytes_take 4 (drop 4 bytes) (bytes_drop 4 bytes are)) in
    let num = back_8 (drop 8 bytes) (omega (arith, length-drop 8 bytes)) (bytes_drop 8 bytes are) in
    let second : take 4 (drop 4 bytes) ++ drop 8 bytes ≡ drop 4 bytes =
    ap (λ xs. take 4 (drop 4 bytes) ++ xs) (sym (drop-drop 4 4 bytes)) ∙ take-append-drop 4 (drop 4 bytes) in
    (λ i. node i ++ (inc i ++ num i)) ∙ ap (λ xs. take 4 bytes ++ xs) second ∙ take-append-drop 4 bytes

uid_again : (u : Uid) → UidFits u → uid_from (uid_bytes u) ≡ u
uid_again u fits =
    λ i. record {
      node = from_be_bytes-to_be_bytes_4 u.node fits.0 i;
      inc = from_be_bytes-to_be_bytes_4 u.inc fits.1 i;
      num =
          from_be_bytes-to_be_bytes_8 u.num fits.2 i;
    }

pub uid_lawful : Lawful uid
unfolding uid
uid_lawful = fixed_lawful 16 uid_from uid_bytes (λ _. true) UidFits (λ u. refl) uid_back uid_again (λ u fits. refl)
    (λ bytes size are good. (below_4 (take 4 bytes) (bytes_take 4 bytes are), below_4 (take 4 (drop 4 bytes)) (bytes_take 4 (drop 4 bytes) (bytes_drop 4 bytes are)), below_8 (drop 8 bytes) (bytes_drop 8 bytes are)))
    (nobody, (omega arith, omega arith, omega arith))

-- ---- codes

-- what holds at each number up to the last one holds at each below it
abbrev pub EachTo : (ℕ → Type 0) → ℕ → Type 0
EachTo P zero = P 0
EachTo P (suc n) = P (suc n) × EachTo P n

pub each_to : (P : ℕ → Type 0) (last : ℕ) → EachTo P last → (n : ℕ) → n ≤ last → P n
each_to P zero all zero le = all
each_to P zero all (suc n) le = absurd (omega (arith, le))
each_to P (suc last) all n le =
    elim (cases_lt n (suc last)) [
      | inl less ↦ each_to P last all.1 n (omega arith)
      | inr above ↦ let same : suc last ≡ n = omega arith in subst P same all.0
    ]

pub flag_lawful : Lawful flag
unfolding flag byte
flag_lawful =
    shaped_lawful _ _ (byte_lawful 0 1 (omega arith)) (λ code fits. each_to (λ n. flag_code (n == 1) ≡ n) 1 (refl, refl) code (between_le 0 1 code fits).1) flag_back
  where
    flag_back : (b : Bool) → (byte 0 1).Fits (flag_code b) → (flag_code b == 1) ≡ b
    flag_back true fits = refl
    flag_back false fits = refl

pub mode_lawful : Lawful mode
unfolding mode byte
mode_lawful =
    shaped_lawful _ _ (byte_lawful 0 2 (omega arith)) (λ code fits. each_to (λ n. mode_code (mode_from n) ≡ n) 2 (refl, (refl, refl)) code (between_le 0 2 code fits).1) mode_back
  where
    mode_back : (m : Mode) → (byte 0 2).Fits (mode_code m) → mode_from (mode_code m) ≡ m
    mode_back Read fits = refl
    mode_back Exclude fits = refl
    mode_back Write fits = refl

pub outcome_lawful : Lawful outcome
unfolding outcome byte
outcome_lawful =
    shaped_lawful _ _ (byte_lawful 0 1 (omega arith)) (λ code fits. each_to (λ n. end_code (end_from n) ≡ n) 1 (refl, refl) code (between_le 0 1 code fits).1) end_back
  where
    end_back : (e : End) → (byte 0 1).Fits (end_code e) → end_from (end_code e) ≡ e
    end_back Abort fits = refl
    end_back Commit fits = refl

-- ---- two values, and lists

pub both_lawful : {A B : Type 0} {f : Format A} {g : Format B} → Lawful f → Lawful g → Lawful (both f g)
both_lawful {f = f} {g = g} law_f law_g = chain_lawful f (λ _. g) law_f (λ _ _. law_g)

pub list_lawful : {A : Type 0} {f : Format A} → Lawful f → Lawful (list f)
list_lawful {f = f} law =
    shaped_lawful _ _ (chain_lawful (byte 0 255) (many f) (byte_lawful 0 255 (omega arith)) (λ n _. many_lawful f law n))
    (λ p fits. λ i. (fits.1.0 i, p.1)) (λ items fits. refl)

pub long_list_lawful : {A : Type 0} {f : Format A} → Lawful f → Lawful (long_list f)
long_list_lawful {f = f} law =
    shaped_lawful _ _ (chain_lawful number2 (many f) number2_lawful (λ n _. many_lawful f law n)) (λ p fits. λ i. (fits.1.0 i, p.1))
    (λ items fits. refl)

pub ends_lawful : Lawful ends
ends_lawful = list_lawful (both_lawful uid_lawful outcome_lawful)

-- ---- nothing

nothing_furthest : (bytes : List ℕ) (k : ℕ) (more : List ℕ) → bytes ≡ concat (take k []) ++ more → length bytes ≤ length more
nothing_furthest bytes zero more is = omega (arith, ap length is)
nothing_furthest bytes (suc k) more is = omega (arith, ap length is)

pub nothing_lawful : Lawful nothing
unfolding nothing
nothing_lawful = record {
  whole = λ a fits. refl;
  found = λ bytes a rest are e. (tt, nothing_found bytes rest e);
  again = λ a rest fits. refl;
  stops = λ bytes left are e. absurd cc;
  furthest = λ bytes a front more are fits is_front is. nothing_furthest bytes is_front.0 more (is ∙ ap (λ xs. xs ++ more) is_front.1);
  one = (tt, tt);
}
  where
    nothing_found : (bytes rest : List ℕ) → nothing.read bytes ≡ Ok (tt, rest) → bytes ≡ rest
    nothing_found bytes rest e = subst Holds e refl
      where
        Holds : Result (Unit {0} × List ℕ) ℕ → Type 0
        Holds (Ok z) = bytes ≡ z.1
        Holds (Err n) = Unit {0}
