-- The laws of values in messages: what their payloads restore to, and how an operation carries one.
use Rattle.std.proofs.Common.{◌≡◌, ◌≢◌, ℕ, ◌*◌, ◌/◌, ◌<◌, ◌≤◌, List, [], ◌∷◌, ◌++◌, length, Some, None, Option, is_some}
use Rattle.std.proofs.Common.{Result, Ok, Err, sym, ap, subst, refl, ◌∙◌, arith, Bool, true, false, ◌&&◌}
use Rattle.std.proofs.Common.{nat_le, nat_lt, if◌then◌else◌}
use Rattle.std.specs.List.{flat_map, AllByRecursion}
use Rattle.std.specs.Option.{option_map}
use Rattle.std.proofs.Math.Nat.{mul-div_cancel_left, div-le_of_le-mul}
use Rattle.std.proofs.lemmas.Bool.{le-leb, leb-true, lt-ltb, ltb-true}
use Rattle.std.proofs.lemmas.List.{append-nil}
use Rattle.byteorder.specs.Endian.{big_bytes}
use Rattle.arj_base.specs.declared.state.Class.{Class}
use Rattle.arj_base.specs.declared.state.Class.TheVariants as class
use Rattle.arj_base.specs.declared.state.Format.{Format as StateFormat}
use Rattle.arj_base.specs.declared.state.Format.TheVariants.{One, Two}
use Rattle.arj_base.specs.State.{class_code_of, is_object_class}
use Rattle.arj_class.specs.declared.value.Value.{Value}
use Rattle.arj_class.specs.declared.value.Value.TheVariants as value
use Rattle.arj_class.specs.Table.{class_of, is_value_of}
use Rattle.arj_class.specs.Forms.{FormatHolds, ValueInForm, NumbersFit, PairsFit, payload_of, register_bytes_of}
use Rattle.arj_class.specs.Keys.{KeysAbove, KeysRise, pair_bytes}
use Rattle.arj_msg.specs.Format.{Format, ◌>>=◌, byte, both, many, between}
use Rattle.arj_msg.specs.Fields.{number8}
use Rattle.arj_msg.specs.State.{all_read, in_all, rises, rises_from, table_from, class_from, object_class, state_class, value_from}
use Rattle.arj_msg.specs.State.{restores, Restores, cut_long, with_rest, value_taken, payload_in, value_there}
use Rattle.arj_msg.proofs.Laws.{IsBytes, Lawful, field_lawful, chain_lawful, shaped_lawful, many_lawful}
use Rattle.arj_msg.proofs.FieldLaws.{if_some, byte_lawful, between_le, each_to, number8_lawful, both_lawful}
use Rattle.arj_msg.proofs.TextLaws.{long_found, long_again, long_are}

-- ---- all of the bytes

all_found_by : {A : Type 0} (f : Format A) → Lawful f → (bytes : List ℕ) (a : A) (r : Result (A × List ℕ) ℕ) → IsBytes bytes →
    f.read bytes ≡ r → all_read r ≡ Some a → f.Fits a × (bytes ≡ f.spell a)
all_found_by f law bytes a (Ok (w, [])) are read e =
    let same : w ≡ a = cc in
    let got = law.found bytes w [] are read in
    subst (λ b. f.Fits b × (bytes ≡ f.spell b)) same (got.0, got.1 ∙ append-nil (f.spell w))
all_found_by f law bytes a (Ok (w, b ∷ rest)) are read e = absurd cc
all_found_by f law bytes a (Err n) are read e = absurd cc

pub all_found : {A : Type 0} (f : Format A) → Lawful f → (bytes : List ℕ) (a : A) → IsBytes bytes → in_all f bytes ≡ Some a →
    f.Fits a × (bytes ≡ f.spell a)
all_found f law bytes a are e = all_found_by f law bytes a (f.read bytes) are refl e

pub all_again : {A : Type 0} (f : Format A) → Lawful f → (a : A) → f.Fits a → in_all f (f.spell a) ≡ Some a
all_again f law a fits = ap (in_all f) (sym (append-nil (f.spell a))) ∙ ap all_read (law.again a [] fits)

pub some_is : {A : Type 0} (x y : A) → Some x ≡ Some y → x ≡ y
some_is x y e = cc

pub is_there : {A : Type 0} (o : Option A) → is_some o ≡ true → (a : A) × (o ≡ Some a)
is_there (Some a) e = (a, refl)
is_there None e = absurd cc

both_true : (a b : Bool) → (a && b) ≡ true → (a ≡ true) × (b ≡ true)
both_true true b e = (refl, e)
both_true false b e = absurd cc

-- ---- rising keys

above_less : (j k : ℕ) (ps : List (ℕ × ℕ)) → j < k → KeysAbove k ps → KeysAbove j ps
above_less j k [] less above = tt
above_less j k (p ∷ ps) less above = (omega (arith, above.0), above_less j k ps less above.1)

rises_above : (k : ℕ) (ps : List (ℕ × ℕ)) → rises_from k ps ≡ true → KeysAbove k ps × KeysRise ps
rises_above k [] e = (tt, tt)
rises_above k (p ∷ ps) e =
    let parts = both_true (nat_lt k p.0) (rises_from p.0 ps) e in
    let less : k < p.0 = ltb-true _ _ parts.0 in
    let rest = rises_above p.0 ps parts.1 in
    ((less, above_less k p.0 ps less rest.0), rest)

rises_keys : (ps : List (ℕ × ℕ)) → rises ps ≡ true → KeysRise ps
rises_keys [] e = tt
rises_keys (p ∷ ps) e = rises_above p.0 ps e

above_rises : (k : ℕ) (ps : List (ℕ × ℕ)) → KeysAbove k ps → KeysRise ps → rises_from k ps ≡ true
above_rises k [] above rise = refl
above_rises k (p ∷ ps) above rise = λ i. lt-ltb k p.0 above.0 i && above_rises p.0 ps rise.0 rise.1 i

keys_rise : (ps : List (ℕ × ℕ)) → KeysRise ps → rises ps ≡ true
keys_rise [] rise = refl
keys_rise (p ∷ ps) rise = above_rises p.0 ps rise.0 rise.1

-- ---- payloads

numbers_fit : (ns : List ℕ) → AllByRecursion number8.Fits ns → NumbersFit ns
unfolding number8
numbers_fit [] all = tt
numbers_fit (n ∷ ns) all = (all.0, numbers_fit ns all.1)

fit_numbers : (ns : List ℕ) → NumbersFit ns → AllByRecursion number8.Fits ns
unfolding number8
fit_numbers [] all = tt
fit_numbers (n ∷ ns) all = (all.0, fit_numbers ns all.1)

pairs_fit : (ps : List (ℕ × ℕ)) → AllByRecursion (both number8 number8).Fits ps → PairsFit ps
unfolding number8
pairs_fit [] all = tt
pairs_fit (p ∷ ps) all = (all.0.0, all.0.1, pairs_fit ps all.1)

fit_pairs : (ps : List (ℕ × ℕ)) → PairsFit ps → AllByRecursion (both number8 number8).Fits ps
unfolding number8
fit_pairs [] all = tt
fit_pairs (p ∷ ps) all = ((all.0, all.1), fit_pairs ps all.2)

length_numbers : (ns : List ℕ) → length (flat_map (big_bytes 8) ns) ≡ 8 * length ns
length_numbers [] = refl
length_numbers (n ∷ ns) = omega (arith, length_numbers ns)

length_pairs : (ps : List (ℕ × ℕ)) → length (flat_map pair_bytes ps) ≡ 16 * length ps
length_pairs [] = refl
length_pairs (p ∷ ps) = omega (arith, length_pairs ps)

pub short_payload : (v : Value) → ValueInForm v → length (payload_of v) ≤ 256
short_payload (value.Counter n) form = omega arith
short_payload (value.Register bytes) form = omega (arith, form)
short_payload (value.Account n) form = omega arith
short_payload (value.Queue ns) form = omega (arith, length_numbers ns, form.0)
short_payload (value.Table ps) form = omega (arith, length_pairs ps, form.0)
short_payload (value.Gone c) form = omega arith

pair_lawful : Lawful (both number8 number8)
pair_lawful = both_lawful number8_lawful number8_lawful

-- ---- classes

-- a class whose code isn't that of entries is the one with its code
class_named : (c : Class) → 1 ≤ class_code_of c → class_from (class_code_of c) ≡ c
class_named class.Entry some = absurd (omega (arith, some))
class_named class.Counter some = refl
class_named class.Register some = refl
class_named class.Account some = refl
class_named class.Queue some = refl
class_named class.Table some = refl
class_named class.Gone some = refl

class_coded : (code : ℕ) → 1 ≤ code → code ≤ 6 → class_code_of (class_from code) ≡ code
class_coded code some most =
    each_to (λ n. 1 ≤ n →
    class_code_of (class_from n) ≡ n) 6 ((λ _. refl), ((λ _. refl), ((λ _. refl), ((λ _. refl), ((λ _. refl), ((λ _. refl), (λ le. absurd (omega (arith, le))))))))) code most some

object_class_lawful : Lawful object_class
unfolding object_class byte
object_class_lawful =
    shaped_lawful _ _ (byte_lawful 1 5 (omega arith)) (λ code fits. let within = between_le 1 5 code fits in class_coded code within.0 (omega (arith, within.1)))
    (λ c fits. class_named c (between_le 1 5 (class_code_of c) fits).0)

code_within : (bytes : List ℕ) (code : ℕ) (rest : List ℕ) → IsBytes bytes → (byte 1 5).read bytes ≡ Ok (code, rest) → (1 ≤ code) × (code ≤ 5)
unfolding byte
code_within bytes code rest are read =
    let law = byte_lawful 1 5 (omega arith) in let got = law.found bytes code rest are read in between_le 1 5 code got.0

-- a class that is read by its code
pub class_read : (bytes : List ℕ) (code : ℕ) (rest : List ℕ) (c : Class) → IsBytes bytes → (byte 1 5).read bytes ≡ Ok (code, rest) →
    class_code_of c ≡ code → object_class.read bytes ≡ Ok (c, rest)
unfolding object_class
class_read bytes code rest c are read is =
    let within = code_within bytes code rest are read in
    ap (λ r. r >>= λ x. Ok (class_from x.0, x.1)) read ∙ ap (λ k. Ok (k, rest)) (ap class_from (sym is) ∙ class_named c (omega (arith, within.0, is)))

pub no_class_read : (bytes : List ℕ) (code : ℕ) (rest : List ℕ) → IsBytes bytes → (byte 1 5).read bytes ≡ Ok (code, rest) →
    6 < code → object_class.read bytes ≡ Err (length bytes)
no_class_read bytes code rest are read high = let within = code_within bytes code rest are read in absurd (omega (arith, within.1, high))

pub state_class_lawful : Lawful state_class
unfolding state_class byte
state_class_lawful =
    shaped_lawful _ _ (byte_lawful 1 6 (omega arith)) (λ code fits. let within = between_le 1 6 code fits in class_coded code within.0 within.1)
    (λ c fits. class_named c (between_le 1 6 (class_code_of c) fits).0)

object_coded : (c : Class) → between 1 5 (class_code_of c) ≡ true → is_object_class c ≡ true
object_coded class.Entry fits = absurd cc
object_coded class.Counter fits = refl
object_coded class.Register fits = refl
object_coded class.Account fits = refl
object_coded class.Queue fits = refl
object_coded class.Table fits = refl
object_coded class.Gone fits = absurd cc

coded_object : (c : Class) → is_object_class c ≡ true → between 1 5 (class_code_of c) ≡ true
coded_object class.Entry object = absurd cc
coded_object class.Counter object = refl
coded_object class.Register object = refl
coded_object class.Account object = refl
coded_object class.Queue object = refl
coded_object class.Table object = refl
coded_object class.Gone object = absurd cc

-- a value's class isn't that of entries
pub class_codes : (v : Value) → between 1 6 (class_code_of (class_of v)) ≡ true
class_codes (value.Counter n) = refl
class_codes (value.Register bytes) = refl
class_codes (value.Account n) = refl
class_codes (value.Queue ns) = refl
class_codes (value.Table ps) = refl
class_codes (value.Gone c) = refl

-- ---- values

-- the value is of the class, in form, held by the format, and saved to the payload
abbrev pub IsSaved : StateFormat → Class → List ℕ → Value → Type 0
IsSaved f c payload v = (class_of v ≡ c) × ValueInForm v × FormatHolds f v × (payload_of v ≡ payload)

-- no format holds more of a register than its class
register_held : (f : StateFormat) (bytes : List ℕ) → FormatHolds f (value.Register bytes) → ValueInForm (value.Register bytes)
register_held One bytes held = omega (arith, held)
register_held Two bytes held = held

-- format two holds each value
held_by_two : (v : Value) → ValueInForm v → FormatHolds Two v
held_by_two (value.Counter n) form = tt
held_by_two (value.Register bytes) form = form
held_by_two (value.Account n) form = tt
held_by_two (value.Queue ns) form = tt
held_by_two (value.Table ps) form = tt
held_by_two (value.Gone c) form = tt

then_some : {A : Type 0} (t : Bool) (o : Option A) (y : A) → (if t then o else None) ≡ Some y → (t ≡ true) × (o ≡ Some y)
then_some true o y e = (refl, e)
then_some false o y e = absurd cc

map_some : {A : Type 0} (f : A → Value) (o : Option A) (v : Value) → option_map f o ≡ Some v → (a : A) × (o ≡ Some a) × (f a ≡ v)
map_some f (Some a) v e = (a, refl, some_is (f a) v e)
map_some f None v e = absurd cc

number_saved : (payload : List ℕ) (n : ℕ) → IsBytes payload → in_all number8 payload ≡ Some n →
    (n < 18446744073709551616) × (big_bytes 8 n ≡ payload)
unfolding number8
number_saved payload n are e = let got = all_found number8 number8_lawful payload n are e in (got.0, sym got.1)

queue_saved : (f : StateFormat) (payload : List ℕ) (v : Value) → IsBytes payload → value_from f class.Queue payload ≡ Some v → IsSaved f class.Queue payload v
unfolding number8
queue_saved f payload v are e =
    let tests = then_some (nat_le (length payload) 256) (option_map value.Queue (in_all (many number8 (length payload / 8)) payload)) v e in
    let there = map_some value.Queue (in_all (many number8 (length payload / 8)) payload) v tests.1 in
    let got = all_found (many number8 (length payload / 8)) (many_lawful number8 number8_lawful (length payload / 8)) payload there.0 are there.1 in
    let few : length payload / 8 ≤ 32 = div-le_of_le-mul 8 (omega (arith, leb-true (length payload) 256 tests.0)) in
    subst (IsSaved f class.Queue payload) there.2 (refl, (omega (arith, got.0.0, few), numbers_fit there.0 got.0.1), tt, sym got.1)

table_there : (o : Option (List (ℕ × ℕ))) (v : Value) → table_from o ≡ Some v →
    (ps : List (ℕ × ℕ)) × (o ≡ Some ps) × (rises ps ≡ true) × (value.Table ps ≡ v)
table_there None v e = absurd cc
table_there (Some ps) v e = let found = if_some (rises ps) (value.Table ps) v e in (ps, refl, found.0, found.1)

table_saved : (f : StateFormat) (payload : List ℕ) (v : Value) → IsBytes payload → value_from f class.Table payload ≡ Some v → IsSaved f class.Table payload v
unfolding number8
table_saved f payload v are e =
    let tests = then_some (nat_le (length payload) 256) (table_from (in_all (many (both number8 number8) (length payload / 16)) payload)) v e in
    let there = table_there (in_all (many (both number8 number8) (length payload / 16)) payload) v tests.1 in
    let got = all_found (many (both number8 number8) (length payload / 16)) (many_lawful (both number8 number8) pair_lawful (length payload / 16)) payload there.0 are there.1 in
    let few : length payload / 16 ≤ 16 = div-le_of_le-mul 16 (omega (arith, leb-true (length payload) 256 tests.0)) in
    subst (IsSaved f class.Table payload) there.3 (refl, (omega (arith, got.0.0, few), rises_keys there.0 there.2, pairs_fit there.0 got.0.1), tt, sym got.1)

gone_saved : (payload : List ℕ) (c : Class) → IsBytes payload → in_all object_class payload ≡ Some c →
    (is_object_class c ≡ true) × (class_code_of c ∷ [] ≡ payload)
unfolding object_class byte
gone_saved payload c are e =
    let got = all_found object_class object_class_lawful payload c are e in (object_coded c got.0, sym got.1)

pub value_found : (f : StateFormat) (c : Class) (payload : List ℕ) (v : Value) → IsBytes payload → value_from f c payload ≡ Some v →
    IsSaved f c payload v
value_found f class.Entry payload v are e = absurd cc
value_found f class.Counter payload v are e =
    let there = map_some value.Counter (in_all number8 payload) v e in
    let got = number_saved payload there.0 are there.1 in
    subst (IsSaved f class.Counter payload) there.2 (refl, got.0, tt, got.1)
value_found f class.Register payload v are e =
    let found = if_some (nat_le (length payload) (register_bytes_of f)) (value.Register payload) v e in
    let held = leb-true (length payload) (register_bytes_of f) found.0 in
    subst (IsSaved f class.Register payload) found.1 (refl, register_held f payload held, held, refl)
value_found f class.Account payload v are e =
    let there = map_some value.Account (in_all number8 payload) v e in
    let got = number_saved payload there.0 are there.1 in
    subst (IsSaved f class.Account payload) there.2 (refl, got.0, tt, got.1)
value_found f class.Queue payload v are e = queue_saved f payload v are e
value_found f class.Table payload v are e = table_saved f payload v are e
value_found f class.Gone payload v are e =
    let there = map_some value.Gone (in_all object_class payload) v e in
    let got = gone_saved payload there.0 are there.1 in
    subst (IsSaved f class.Gone payload) there.2 (refl, got.0, tt, got.1)

number_again : (n : ℕ) → n < 18446744073709551616 → in_all number8 (big_bytes 8 n) ≡ Some n
unfolding number8
number_again n fits = all_again number8 number8_lawful n fits

queue_again : (f : StateFormat) (ns : List ℕ) → ValueInForm (value.Queue ns) → value_from f class.Queue (flat_map (big_bytes 8) ns) ≡ Some (value.Queue ns)
unfolding number8
queue_again f ns form =
    let payload = flat_map (big_bytes 8) ns in
    let count : length payload / 8 ≡ length ns = ap (λ m. m / 8) (length_numbers ns) ∙ mul-div_cancel_left (length ns) (omega arith) in
    let short = le-leb (length payload) 256 (omega (arith, length_numbers ns, form.0)) in
    let read : in_all (many number8 (length payload / 8)) payload ≡ Some ns =
    ap (λ k. in_all (many number8 k) payload) count ∙ all_again (many number8 (length ns)) (many_lawful number8 number8_lawful (length ns)) ns (refl, fit_numbers ns form.1) in
    λ i. if short i then option_map value.Queue (read i) else None

table_again : (f : StateFormat) (ps : List (ℕ × ℕ)) → ValueInForm (value.Table ps) → value_from f class.Table (flat_map pair_bytes ps) ≡ Some (value.Table ps)
unfolding number8
table_again f ps form =
    let payload = flat_map pair_bytes ps in
    let count : length payload / 16 ≡ length ps = ap (λ m. m / 16) (length_pairs ps) ∙ mul-div_cancel_left (length ps) (omega arith) in
    let short = le-leb (length payload) 256 (omega (arith, length_pairs ps, form.0)) in
    let read : in_all (many (both number8 number8) (length payload / 16)) payload ≡ Some ps =
    ap (λ k. in_all (many (both number8 number8) k) payload) count ∙ all_again (many (both number8 number8) (length ps)) (many_lawful (both number8 number8) pair_lawful (length ps)) ps (refl, fit_pairs ps form.2) in
    (λ i. if short i then table_from (read i) else None) ∙ ap (λ t. if t then Some (value.Table ps) else None) (keys_rise ps form.1)

gone_again : (c : Class) → is_object_class c ≡ true → in_all object_class (class_code_of c ∷ []) ≡ Some c
unfolding object_class byte
gone_again c object = all_again object_class object_class_lawful c (coded_object c object)

value_again : (f : StateFormat) (v : Value) → ValueInForm v → FormatHolds f v → value_from f (class_of v) (payload_of v) ≡ Some v
value_again f (value.Counter n) form held = ap (option_map value.Counter) (number_again n form)
value_again f (value.Register bytes) form held = ap (λ t. if t then Some (value.Register bytes) else None) (le-leb _ _ held)
value_again f (value.Account n) form held = ap (option_map value.Account) (number_again n form)
value_again f (value.Queue ns) form held = queue_again f ns form
value_again f (value.Table ps) form held = table_again f ps form
value_again f (value.Gone c) form held = ap (option_map value.Gone) (gone_again c form)

pub value_is : (f : StateFormat) (c : Class) (payload : List ℕ) (v : Value) → IsSaved f c payload v → value_from f c payload ≡ Some v
value_is f c payload v saved = (λ i. value_from f (sym saved.0 i) (sym saved.3 i)) ∙ value_again f v saved.1 saved.2

value_none_by : (f : StateFormat) (c : Class) (payload : List ℕ) (o : Option Value) → IsBytes payload → value_from f c payload ≡ o →
    ((v : Value) → class_of v ≡ c → ValueInForm v → FormatHolds f v → payload_of v ≢ payload) → o ≡ None
value_none_by f c payload None are read none = refl
value_none_by f c payload (Some v) are read none = let got = value_found f c payload v are read in absurd (none v got.0 got.1 got.2 got.3)

pub value_none : (f : StateFormat) (c : Class) (payload : List ℕ) → IsBytes payload →
    ((v : Value) → class_of v ≡ c → ValueInForm v → FormatHolds f v → payload_of v ≢ payload) → value_from f c payload ≡ None
value_none f c payload are none = value_none_by f c payload (value_from f c payload) are refl none

pub restores_found : (f : StateFormat) (c : Class) (payload : List ℕ) → IsBytes payload → restores f c payload ≡ true → Restores f c payload
restores_found f c payload are e =
    let there = is_there (value_from f c payload) e in
    let got = value_found f c payload there.0 are there.1 in
    (there.0, got.0, got.1, got.2, got.3)

pub restores_again : (f : StateFormat) (c : Class) (payload : List ℕ) → Restores f c payload → restores f c payload ≡ true
restores_again f c payload saved = ap is_some (value_is f c payload saved.0 (saved.1, saved.2, saved.3, saved.4))

-- ---- values of objects that are there

payload_found : (c : Class) (bytes : List ℕ) (v : Value) (rest : List ℕ) (o : Option (List ℕ × List ℕ)) → IsBytes bytes →
    cut_long bytes ≡ o → value_taken c o ≡ Some (v, rest)
    → ((class_of v ≡ c) × ValueInForm v) × (bytes ≡ (big_bytes 2 (length (payload_of v)) ++ payload_of v) ++ rest)
payload_found c bytes v rest None are cut e = absurd cc
payload_found c bytes v rest (Some p) are cut e = by (value_from Two c p.0) refl e
  where
    by : (o : Option Value) → value_from Two c p.0 ≡ o → with_rest p.1 o ≡ Some (v, rest) →
        ((class_of v ≡ c) × ValueInForm v) × (bytes ≡ (big_bytes 2 (length (payload_of v)) ++ payload_of v) ++ rest)
    by None read e = absurd cc
    by (Some w) read e =
        let pair : (w, p.1) ≡ (v, rest) = some_is (w, p.1) (v, rest) e in
        let long = long_found bytes p.0 p.1 are cut in
        let got = value_found Two c p.0 v (long_are bytes p.0 p.1 are long.1) (read ∙ ap (λ q. Some q.0) pair) in
        ((got.0, got.1), long.1 ∙ (λ i. (big_bytes 2 (length (sym got.3 i)) ++ sym got.3 i) ++ (pair i).1))

payload_again : (c : Class) (v : Value) (rest : List ℕ) → (class_of v ≡ c) × ValueInForm v →
    value_taken c (cut_long ((big_bytes 2 (length (payload_of v)) ++ payload_of v) ++ rest)) ≡ Some (v, rest)
payload_again c v rest fits =
    ap (value_taken c) (long_again (payload_of v) rest (omega (arith, short_payload v fits.1))) ∙ ap (with_rest rest) (value_is Two c (payload_of v) v (fits.0, fits.1, held_by_two v fits.1, refl))

some_value : (c : Class) → is_object_class c ≡ true → (v : Value) × ((class_of v ≡ c) × ValueInForm v)
some_value class.Entry object = absurd cc
some_value class.Counter object = (value.Counter 0, (refl, omega arith))
some_value class.Register object = (value.Register [], (refl, omega arith))
some_value class.Account object = (value.Account 0, (refl, omega arith))
some_value class.Queue object = (value.Queue [], (refl, (omega arith, tt)))
some_value class.Table object = (value.Table [], (refl, (omega arith, tt, tt)))
some_value class.Gone object = absurd cc

payload_lawful : (c : Class) → is_object_class c ≡ true → Lawful (payload_in c)
unfolding payload_in
payload_lawful c object =
    field_lawful (λ v. big_bytes 2 (length (payload_of v)) ++ payload_of v) (λ v. (class_of v ≡ c) × ValueInForm v) (λ bytes. value_taken c (cut_long bytes)) (λ bytes v rest are e. payload_found c bytes v rest (cut_long bytes) are refl e) (payload_again c) (some_value c object)

pub value_there_lawful : Lawful value_there
unfolding value_there object_class payload_in byte
value_there_lawful =
    shaped_lawful _ _ (chain_lawful object_class payload_in object_class_lawful (λ c fits. payload_lawful c (object_coded c fits))) (λ p fits. λ i. (fits.1.0 i, p.1)) (λ v fits. refl)

pub there_coded : (v : Value) → between 1 5 (class_code_of (class_of v)) ≡ true → is_value_of (class_of v) v ≡ true
there_coded (value.Counter n) fits = refl
there_coded (value.Register bytes) fits = refl
there_coded (value.Account n) fits = refl
there_coded (value.Queue ns) fits = refl
there_coded (value.Table ps) fits = refl
there_coded (value.Gone c) fits = absurd cc

pub coded_there : (v : Value) → is_value_of (class_of v) v ≡ true → between 1 5 (class_code_of (class_of v)) ≡ true
coded_there (value.Counter n) is = refl
coded_there (value.Register bytes) is = refl
coded_there (value.Account n) is = refl
coded_there (value.Queue ns) is = refl
coded_there (value.Table ps) is = refl
coded_there (value.Gone c) is = absurd cc
