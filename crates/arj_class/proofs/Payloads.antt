-- Payloads are long as their values, and give them back.
use Rattle.std.proofs.Common.{◌≡◌, ℕ, suc, true, ◌*◌, get_or, ◌^◌, ◌<◌, ◌≤◌, List, [], ◌∷◌, ◌++◌, length, take, drop, refl, sym, ◌∙◌, ap, subst, arith}
use Rattle.std.specs.Int.{w64, from_be_bytes}
use Rattle.std.specs.List.{flat_map}
use Rattle.std.proofs.lemmas.List.{length-append, append_assoc, append-nil, flat_map_more}
use Rattle.std.proofs.lemmas.Nat.{from_be_bytes-to_be_bytes_8}
use Rattle.byteorder.specs.Endian.{big_bytes}
use Rattle.arj_class.specs.Forms.{NumbersFit, PairsFit, ValueInForm, payload_of}
use Rattle.arj_class.specs.Table.{class_of}
use Rattle.arj_base.specs.State.{class_code_of, is_object_class}
use Rattle.arj_base.specs.declared.state.Class.{Class}
use Rattle.arj_base.specs.declared.state.Class.TheVariants as class
use Rattle.arj_class.specs.Keys.{KeysAbove, KeysBelow, KeysRise, pair_bytes}
use Rattle.arj_class.specs.declared.value.Value.{Value}
use Rattle.arj_class.specs.declared.value.Value.TheVariants.{Counter, Register, Account, Queue, Table, Gone}

-- a number takes eight bytes, a pair sixteen
pub length_numbers : (ns : List ℕ) → length (flat_map (big_bytes 8) ns) ≡ 8 * length ns
length_numbers [] = refl
length_numbers (n ∷ ns) = omega (arith, length_numbers ns)

pub length_pairs : (ps : List (ℕ × ℕ)) → length (flat_map pair_bytes ps) ≡ 16 * length ps
length_pairs [] = refl
length_pairs (p ∷ ps) = omega (arith, length_pairs ps)

-- a value in form has a short payload
pub short_payload : (v : Value) → ValueInForm v → length (payload_of v) ≤ 256
short_payload (Counter n) form = omega arith
short_payload (Register bytes) form = omega (arith, form)
short_payload (Account n) form = omega arith
short_payload (Queue ns) form = omega (arith, length_numbers ns, form.0)
short_payload (Table ps) form = omega (arith, length_pairs ps, form.0)
short_payload (Gone c) form = omega arith

-- numbers that fit one by one fit
pub each_fits : (ns : List ℕ) → ((i : ℕ) → get_or ns i 0 < 18446744073709551616) → NumbersFit ns
each_fits [] fit = tt
each_fits (n ∷ ns) fit = (fit 0, each_fits ns (λ i. fit (suc i)))

pub numbers_fit_append : (ns ms : List ℕ) → NumbersFit ns → NumbersFit ms → NumbersFit (ns ++ ms)
numbers_fit_append [] ms fit more = more
numbers_fit_append (n ∷ ns) ms fit more = (fit.0, numbers_fit_append ns ms fit.1 more)

pub pairs_fit_append : (ps qs : List (ℕ × ℕ)) → PairsFit ps → PairsFit qs → PairsFit (ps ++ qs)
pairs_fit_append [] qs fit more = more
pairs_fit_append (p ∷ ps) qs fit more = (fit.0, fit.1, pairs_fit_append ps qs fit.2 more)

-- eight bytes give the number back, and what follows them
same_number : (n m : ℕ) (xs ys : List ℕ) → n < 2 ^ 64 → m < 2 ^ 64 → big_bytes 8 n ++ xs ≡ big_bytes 8 m ++ ys → (n ≡ m) × (xs ≡ ys)
same_number n m xs ys fits fits' same =
    (sym (from_be_bytes-to_be_bytes_8 n fits) ∙ ap (λ bytes. from_be_bytes w64 (take 8 bytes)) same ∙ from_be_bytes-to_be_bytes_8 m fits', ap (drop 8) same)

-- sixteen bytes give the pair back
same_pair : (p q : ℕ × ℕ) (xs ys : List ℕ) → p.0 < 2 ^ 64 → p.1 < 2 ^ 64 → q.0 < 2 ^ 64 → q.1 < 2 ^ 64 →
    pair_bytes p ++ xs ≡ pair_bytes q ++ ys → (p ≡ q) × (xs ≡ ys)
same_pair p q xs ys fits fits' fits2 fits3 same =
    let keys = same_number p.0 q.0 (big_bytes 8 p.1 ++ xs) (big_bytes 8 q.1 ++ ys) fits fits2 same in
    let values = same_number p.1 q.1 xs ys fits' fits3 keys.1 in
    ((λ i. (keys.0 i, values.0 i)), values.1)

-- numbers that fit are given back by their bytes
pub numbers_once : (ns ms : List ℕ) → NumbersFit ns → NumbersFit ms → flat_map (big_bytes 8) ns ≡ flat_map (big_bytes 8) ms → ns ≡ ms
numbers_once [] [] fit fit' same = refl
numbers_once [] (m ∷ ms) fit fit' same = cc
numbers_once (n ∷ ns) [] fit fit' same = cc
numbers_once (n ∷ ns) (m ∷ ms) fit fit' same =
    let parts = same_number n m (flat_map (big_bytes 8) ns) (flat_map (big_bytes 8) ms) fit.0 fit'.0 same in
    let rest = numbers_once ns ms fit.1 fit'.1 parts.1 in
    λ i. parts.0 i ∷ rest i

-- a front of pairs that fit is given back by its bytes
pub pairs_front : (ps ws : List (ℕ × ℕ)) (rest : List ℕ) → PairsFit ps → PairsFit ws →
    flat_map pair_bytes ws ≡ flat_map pair_bytes ps ++ rest
    → (qs : List (ℕ × ℕ)) × (ws ≡ ps ++ qs) × (rest ≡ flat_map pair_bytes qs)
pairs_front [] ws rest fit fit' same = (ws, refl, sym same)
pairs_front (p ∷ ps) [] rest fit fit' same = absurd (omega (arith, ap length same))
pairs_front (p ∷ ps) (w ∷ ws) rest fit fit' same =
    let parts = same_pair w p (flat_map pair_bytes ws) (flat_map pair_bytes ps ++ rest) fit'.0 fit'.1 fit.0 fit.1 same in
    let more = pairs_front ps ws rest fit.2 fit'.2 parts.1 in
    (more.0, (λ i. parts.0 i ∷ more.1 i), more.2)

pub pairs_once : (ps qs : List (ℕ × ℕ)) → PairsFit ps → PairsFit qs → flat_map pair_bytes ps ≡ flat_map pair_bytes qs → ps ≡ qs
pairs_once [] [] fit fit' same = refl
pairs_once [] (q ∷ qs) fit fit' same = cc
pairs_once (p ∷ ps) [] fit fit' same = cc
pairs_once (p ∷ ps) (q ∷ qs) fit fit' same =
    let parts = same_pair p q (flat_map pair_bytes ps) (flat_map pair_bytes qs) fit.0 fit.1 fit'.0 fit'.1 same in
    let rest = pairs_once ps qs fit.2 fit'.2 parts.1 in
    λ i. parts.0 i ∷ rest i

-- one more number, or pair, of the bytes that are left
pub front_more : {X : Type 0} (f : X → List ℕ) (xs : List X) (x : X) (payload rest behind : List ℕ) → payload ≡ flat_map f xs ++ rest →
    rest ≡ f x ++ behind
    → payload ≡ flat_map f (xs ++ x ∷ []) ++ behind
front_more f xs x payload rest behind is more =
    is ∙ ap (λ bytes. flat_map f xs ++ bytes) more ∙ sym (append_assoc (flat_map f xs) (f x) behind)
    ∙ ap (λ bytes. bytes ++ behind) (one_more f xs x)
  where
    one_more : {X : Type 0} (f : X → List ℕ) (xs : List X) (x : X) → flat_map f xs ++ f x ≡ flat_map f (xs ++ x ∷ [])
    one_more f xs x = flat_map_more f [] xs x

-- nothing is left behind the whole
pub whole_front : {X : Type 0} (f : X → List ℕ) (xs : List X) (payload rest : List ℕ) → payload ≡ flat_map f xs ++ rest → length rest ≡ 0 →
    payload ≡ flat_map f xs
whole_front f xs payload [] is none = is ∙ append-nil (flat_map f xs)
whole_front f xs payload (b ∷ bs) is none = absurd (omega (arith, none))

-- bytes behind 32 numbers are no queue's, and fewer than eight bytes at the end are none's
pub no_queue : (ns : List ℕ) (rest payload : List ℕ) → payload ≡ flat_map (big_bytes 8) ns ++ rest → (length ns < 32 → length rest < 8) →
    0 < length rest
    → (w : List ℕ) → ValueInForm (Queue w) → payload_of (Queue w) ≡ payload → ⊥
no_queue ns rest payload is few some w form same =
    omega (arith, ap length is, ap length same, length-append (flat_map (big_bytes 8) ns) rest, length_numbers ns, length_numbers w, form.0)

-- the same of tables
pub no_table : (ps : List (ℕ × ℕ)) (rest payload : List ℕ) → payload ≡ flat_map pair_bytes ps ++ rest →
    (length ps < 16 → length rest < 16) → 0 < length rest
    → (w : List (ℕ × ℕ)) → ValueInForm (Table w) → payload_of (Table w) ≡ payload → ⊥
no_table ps rest payload is few some w form same =
    omega (arith, ap length is, ap length same, length-append (flat_map pair_bytes ps) rest, length_pairs ps, length_pairs w, form.0)

-- keys that rise stay so where a key above them all is put at the end
pub rise_push : (ps : List (ℕ × ℕ)) (p : ℕ × ℕ) → KeysRise ps → KeysBelow p.0 ps → KeysRise (ps ++ p ∷ [])
rise_push [] p rise below = (tt, tt)
rise_push (q ∷ ps) p rise below = (above_push q.0 ps p rise.0 below.0, rise_push ps p rise.1 below.1)
  where
    above_push : (k : ℕ) (ps : List (ℕ × ℕ)) (p : ℕ × ℕ) → KeysAbove k ps → k < p.0 → KeysAbove k (ps ++ p ∷ [])
    above_push k [] p above less = (less, tt)
    above_push k (q ∷ ps) p above less = (above.0, above_push k ps p above.1 less)

-- the keys before a pair are below its key
pub below_in : (ps : List (ℕ × ℕ)) (p : ℕ × ℕ) (qs : List (ℕ × ℕ)) → KeysRise (ps ++ p ∷ qs) → KeysBelow p.0 ps
below_in [] p qs rise = tt
below_in (q ∷ ps) p qs rise = (above_in q.0 ps p qs rise.0, below_in ps p qs rise.1)
  where
    above_in : (k : ℕ) (ps : List (ℕ × ℕ)) (p : ℕ × ℕ) (qs : List (ℕ × ℕ)) → KeysAbove k (ps ++ p ∷ qs) → k < p.0
    above_in k [] p qs above = above.0
    above_in k (q ∷ ps) p qs above = above_in k ps p qs above.1

-- a pair whose key isn't above those before it is in no table
pub no_table_unsorted : (ps : List (ℕ × ℕ)) (p : ℕ × ℕ) (payload rest behind : List ℕ) → payload ≡ flat_map pair_bytes ps ++ rest →
    rest ≡ pair_bytes p ++ behind
    → PairsFit ps → PairsFit (p ∷ []) → (KeysBelow p.0 ps → ⊥) → (w : List (ℕ × ℕ)) → ValueInForm (Table w) →
    payload_of (Table w) ≡ payload → ⊥
no_table_unsorted ps p payload rest behind is more fit fit2 unsorted w form same =
    let whole = front_more pair_bytes ps p payload rest behind is more in
    let found = pairs_front (ps ++ p ∷ []) w behind (pairs_fit_append ps (p ∷ []) fit fit2) form.2 (same ∙ whole) in
    unsorted (below_in ps p found.0 (subst KeysRise (found.1 ∙ append_assoc ps (p ∷ []) found.0) form.1))

-- classes of objects have a code each
class_once : (c d : Class) → is_object_class c ≡ true → is_object_class d ≡ true → class_code_of c ∷ [] ≡ class_code_of d ∷ [] → c ≡ d
class_once class.Counter class.Counter form form2 same = refl
class_once class.Register class.Register form form2 same = refl
class_once class.Account class.Account form form2 same = refl
class_once class.Queue class.Queue form form2 same = refl
class_once class.Table class.Table form form2 same = refl
class_once _ _ form form2 same = cc

-- values of one class with one payload are one value
pub value_once : (v w : Value) → class_of v ≡ class_of w → ValueInForm v → ValueInForm w → payload_of v ≡ payload_of w → v ≡ w
value_once (Counter n) (Counter m) class form form2 same = λ i. Counter ((same_number n m [] [] form form2 same).0 i)
value_once (Register bytes) (Register bytes2) class form form2 same = λ i. Register (same i)
value_once (Account n) (Account m) class form form2 same = λ i. Account ((same_number n m [] [] form form2 same).0 i)
value_once (Queue ns) (Queue ms) class form form2 same = λ i. Queue (numbers_once ns ms form.1 form2.1 same i)
value_once (Table ps) (Table qs) class form form2 same = λ i. Table (pairs_once ps qs form.2 form2.2 same i)
value_once (Gone c) (Gone d) class form form2 same = λ i. Gone (class_once c d form form2 same i)
value_once _ _ class form form2 same = cc
