-- The fields of a packed state, one behind the other, are the whole.
use Rattle.std.proofs.Common.{◌≡◌, ℕ, ◌+◌, ◌<◌, ◌≤◌, ◌==◌, if◌then◌else◌, List, ◌∷◌, ◌++◌, length, take, drop, get_or, codes, refl, sym}
use Rattle.std.proofs.Common.{◌∙◌, ap, arith, Bool, true, false, nat_eq, Some, None}
use Rattle.std.proofs.lemmas.Bool.{eqb-true}
use Rattle.std.specs.List.{starts_with}
use Rattle.std.proofs.lemmas.List.{take-append-drop, drop-drop}
use Rattle.std.proofs.lemmas.Slice.Eq.{bytes_eq-Decides}
use Rattle.std.proofs.Math.Seq.{drop-cons}
use Rattle.std.specs.Int.{w32, w64, from_be_bytes}
use Rattle.std.proofs.lemmas.Nat.{from_be_bytes-to_be_bytes_4, from_be_bytes-to_be_bytes_8}
use Rattle.byteorder.specs.Endian.{big_bytes}
use Rattle.arj_base.specs.State.{state_bytes, behind_class, class_bytes, class_code_of, format_in, format_mark, version_fits, version_of_code, StateInForm}
use Rattle.arj_base.specs.Uid.{uid_bytes, UidFits}
use Rattle.arj_base.specs.declared.state.Class.{Class}
use Rattle.arj_base.specs.declared.state.Class.TheVariants.{Entry, Counter, Register, Account, Queue, Table, Gone}
use Rattle.arj_base.specs.declared.state.Format.{Format}
use Rattle.arj_base.specs.declared.state.Format.TheVariants.{One, Two}
use Rattle.arj_base.specs.declared.state.ObjectState.{ObjectState}
use Rattle.arj_base.specs.declared.uid.Uid.{Uid}

-- bytes from a place on are the next n and then those behind them
cut : (n i j : ℕ) (bytes : List ℕ) → i + n ≡ j → drop i bytes ≡ take n (drop i bytes) ++ drop j bytes
cut n i j bytes is =
    sym (take-append-drop n (drop i bytes)) ∙ ap (λ rest. take n (drop i bytes) ++ rest) (drop-drop n i bytes ∙ ap (λ place. drop place bytes) is)

-- bytes with this head begin with the text
begins : (f : Format) (bytes : List ℕ) → starts_with nat_eq bytes (format_mark f) ≡ true → take 4 bytes ≡ format_mark f
begins One bytes is = sym ((bytes_eq-Decides (codes "ARJ1") (take 4 bytes)).0 is)
begins Two bytes is = sym ((bytes_eq-Decides (codes "ARJ2") (take 4 bytes)).0 is)

-- of two tests in turn the one that was met
first_met : (one two : Bool) → (if one then Some One else (if two then Some Two else None)) ≡ Some One → one ≡ true
first_met true two is = refl
first_met false true is = cc
first_met false false is = cc

second_met : (one two : Bool) → (if one then Some One else (if two then Some Two else None)) ≡ Some Two → two ≡ true
second_met true two is = cc
second_met false true is = refl
second_met false false is = cc

-- what begins with a format begins with its mark
marked : (f : Format) (bytes : List ℕ) → format_in bytes ≡ Some f → starts_with nat_eq bytes (format_mark f) ≡ true
marked One bytes is = first_met _ (starts_with nat_eq bytes (codes "ARJ2")) is
marked Two bytes is = second_met (starts_with nat_eq bytes (codes "ARJ1")) _ is

-- the class stands behind the Uid
classed : (f : Format) (c : Class) (bytes : List ℕ) → behind_class f ≤ length bytes → get_or bytes 20 0 ≡ class_code_of c → version_fits f bytes ≡ true →
    drop 20 bytes ≡ class_bytes f c ++ drop (behind_class f) bytes
classed One c bytes long class fits = drop-cons bytes 20 0 (omega (arith, long)) ∙ ap (λ code. code ∷ drop 21 bytes) class
classed Two c bytes long class fits =
    let version : get_or bytes 21 0 ≡ version_of_code (class_code_of c) = eqb-true _ _ fits ∙ ap version_of_code class in
    drop-cons bytes 20 0 (omega (arith, long)) ∙ (λ i. class i ∷ (drop-cons bytes 21 0 (omega (arith, long)) ∙ ap (λ code. code ∷ drop 22 bytes) version) i)

-- a state as a format spells it
abbrev spelling : Format → ObjectState → List ℕ
spelling f s =
    format_mark f ++ (uid_bytes s.uid ++ (class_bytes f s.class ++ (big_bytes 8 s.version ++ (uid_bytes s.writer ++ (big_bytes 2 (length s.payload) ++ s.payload)))))

-- the fields, one behind the other, are the whole
pub spelled : (s : ObjectState) (bytes : List ℕ) (at : ℕ) → behind_class s.format ≡ at → at + 26 ≤ length bytes → format_in bytes ≡ Some s.format →
    take 16 (drop 4 bytes) ≡ uid_bytes s.uid → get_or bytes 20 0 ≡ class_code_of s.class → version_fits s.format bytes ≡ true →
    take 8 (drop at bytes) ≡ big_bytes 8 s.version → take 16 (drop (at + 8) bytes) ≡ uid_bytes s.writer →
    take 2 (drop (at + 24) bytes) ≡ big_bytes 2 (length s.payload) → drop (at + 26) bytes ≡ s.payload → bytes ≡ state_bytes s
spelled s bytes at is long mark uid class fits version writer size payload =
    let from_size : drop (at + 24) bytes ≡ big_bytes 2 (length s.payload) ++ s.payload = cut 2 (at + 24) (at + 26) bytes (omega arith) ∙ (λ i. size i ++ payload i) in
    let from_writer : drop (at + 8) bytes ≡ uid_bytes s.writer ++ (big_bytes 2 (length s.payload) ++ s.payload) =
    cut 16 (at + 8) (at + 24) bytes (omega arith) ∙ (λ i. writer i ++ from_size i) in
    let from_version : drop (behind_class s.format) bytes ≡ big_bytes 8 s.version ++ (uid_bytes s.writer ++ (big_bytes 2 (length s.payload) ++ s.payload)) =
    ap (λ place. drop place bytes) is ∙ cut 8 at (at + 8) bytes refl ∙ (λ i. version i ++ from_writer i) in
    let from_class = classed s.format s.class bytes (omega (arith, long, is)) class fits ∙ ap (λ rest. class_bytes s.format s.class ++ rest) from_version in
    cut 4 0 4 bytes refl ∙ (λ i. begins s.format bytes (marked s.format bytes mark) i ++ (cut 16 4 20 bytes refl ∙ (λ j. uid j ++ from_class j)) i)

-- the bytes of a number give it back
number_4 : (n m : ℕ) → n < 4294967296 → m < 4294967296 → big_bytes 4 n ≡ big_bytes 4 m → n ≡ m
number_4 n m fits fits' same = sym (from_be_bytes-to_be_bytes_4 n fits) ∙ ap (from_be_bytes w32) same ∙ from_be_bytes-to_be_bytes_4 m fits'

number_8 : (n m : ℕ) → n < 18446744073709551616 → m < 18446744073709551616 → big_bytes 8 n ≡ big_bytes 8 m → n ≡ m
number_8 n m fits fits' same = sym (from_be_bytes-to_be_bytes_8 n fits) ∙ ap (from_be_bytes w64) same ∙ from_be_bytes-to_be_bytes_8 m fits'

-- so do those of a Uid
uid_once : (u w : Uid) → UidFits u → UidFits w → uid_bytes u ≡ uid_bytes w → u ≡ w
uid_once u w fits fits' same =
    let node = number_4 u.node w.node fits.0 fits'.0 (ap (take 4) same) in
    let inc = number_4 u.inc w.inc fits.1 fits'.1 (ap (λ bytes. take 4 (drop 4 bytes)) same) in
    let num = number_8 u.num w.num fits.2 fits'.2 (ap (drop 8) same) in
    λ i. record { node = node i; inc = inc i; num = num i }

-- the class with a code
class_from : ℕ → Class
class_from code =
    if code == 1 then Counter else (if code == 2 then Register else (if code == 3 then Account else (if code == 4 then Queue else (if code == 5 then Table else (if code == 6 then Gone else Entry)))))

class_back : (c : Class) → class_from (class_code_of c) ≡ c
unfolding class_from
class_back Entry = refl
class_back Counter = refl
class_back Register = refl
class_back Account = refl
class_back Queue = refl
class_back Table = refl
class_back Gone = refl

-- and each class has a code of its own
pub class_once : (c d : Class) → class_code_of c ≡ class_code_of d → c ≡ d
class_once c d code = sym (class_back c) ∙ ap class_from code ∙ class_back d

-- states of two formats begin otherwise, and the same bytes of one format are the same fields
once_in : (f g : Format) (s t : ObjectState) → StateInForm s → StateInForm t → spelling f s ≡ spelling g t →
    (f ≡ g) × (s.uid ≡ t.uid) × (s.class ≡ t.class) × (s.version ≡ t.version) × (s.writer ≡ t.writer) × (s.payload ≡ t.payload)
once_in One One s t form form' same = (
  refl,
  uid_once s.uid t.uid form.0 form'.0 (ap (λ bytes. take 16 (drop 4 bytes)) same),
  class_once s.class t.class (ap (λ bytes. get_or bytes 20 0) same),
  number_8 s.version t.version form.1 form'.1 (ap (λ bytes. take 8 (drop 21 bytes)) same),
  uid_once s.writer t.writer form.2 form'.2 (ap (λ bytes. take 16 (drop 29 bytes)) same),
  ap (drop 47) same,
)
once_in Two Two s t form form' same = (
  refl,
  uid_once s.uid t.uid form.0 form'.0 (ap (λ bytes. take 16 (drop 4 bytes)) same),
  class_once s.class t.class (ap (λ bytes. get_or bytes 20 0) same),
  number_8 s.version t.version form.1 form'.1 (ap (λ bytes. take 8 (drop 22 bytes)) same),
  uid_once s.writer t.writer form.2 form'.2 (ap (λ bytes. take 16 (drop 30 bytes)) same),
  ap (drop 48) same,
)
once_in One Two s t form form' same = let differ : 49 ≡ 50 = ap (λ bytes. get_or bytes 3 0) same in absurd (omega (arith, differ))
once_in Two One s t form form' same = let differ : 50 ≡ 49 = ap (λ bytes. get_or bytes 3 0) same in absurd (omega (arith, differ))

-- states in form with the same bytes are the same
pub state_once : (s t : ObjectState) → StateInForm s → StateInForm t → state_bytes s ≡ state_bytes t → s ≡ t
state_once s t form form' same =
    let once = once_in s.format t.format s t form form' same in
    λ i. record { uid = once.1 i; class = once.2 i; version = once.3 i; writer = once.4 i; payload = once.5 i; format = once.0 i }
