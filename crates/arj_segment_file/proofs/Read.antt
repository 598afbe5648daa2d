-- What is read of the bytes that a file was written with, row by row.
use Rattle.std.proofs.Common.{◌≡◌, ◌∙◌, ◌+◌, ◌-◌, ◌≤◌, ◌<◌, true, false, true≢false, Bool, cond, ℕ, zero, suc, List, [], ◌∷◌, ◌++◌, arith}
use Rattle.std.proofs.Common.{refl, sym, ap, subst, map, length, take, drop, get_or, Option, Some, None}
use Rattle.std.specs.Prelude.{flat_map, is_some, unwrap_or, IfSome}
use Rattle.std.specs.List.{AllByRecursion, IsDistinct}
use Rattle.std.proofs.lemmas.Bool.Decides.{nat_tests}
use Rattle.std.proofs.lemmas.List.{append_assoc, append-nil, drop-drop, drop_all, length-append, take_more}
use Rattle.std.proofs.lemmas.Grind.{flat_map-append}
use Rattle.std.proofs.lemmas.Nat.{from_be_bytes-to_be_bytes_2}
use Rattle.byteorder.specs.Endian.{big_bytes}
use Rattle.arj_base.specs.State.{class_bytes, state_bytes, StateInForm}
use Rattle.arj_base.specs.Uid.{uid_bytes, uid_eq}
use Rattle.arj_base.specs.declared.limits.TheConstants.{MOST_BYTES}
use Rattle.arj_base.specs.declared.state.Format.{Format}
use Rattle.arj_base.specs.declared.state.Format.TheVariants.{One, Two}
use Rattle.arj_base.specs.declared.state.ObjectState.{ObjectState}
use Rattle.arj_base.specs.declared.uid.Uid.{Uid}
use Rattle.arj_disk.specs.Formed.{IsStateOf}
use Rattle.arj_disk.specs.Says.{new_of, role_of}
use Rattle.arj_disk.specs.declared.slot.Role.{Role}
use Rattle.arj_store.specs.Effects.{objects}
use Rattle.arj_store.specs.Pair.{Packs, packed, uid_of}
use Rattle.arj_store.proofs.Bytes.{uid_back}
use Rattle.arj_store.proofs.Sizes.{state_within}
use Rattle.arj_store.specs.Named.{uid_is}
use Rattle.arj_segment_file.specs.Format.{row_of, row_bytes, segment_bytes, FitsRow, two_in, has_row, first_in, rest_in, keyed, rows_in}
use Rattle.arj_segment_file.specs.Format.{states_in, state_in, IsSegment}

-- ---- one row

two_back : (n : ℕ) (rest : List ℕ) → n < 65536 → two_in (big_bytes 2 n ++ rest) ≡ n
two_back n rest fits = from_be_bytes-to_be_bytes_2 n fits

take_front : (xs ys : List ℕ) → take (length xs) (xs ++ ys) ≡ xs
take_front [] ys = refl
take_front (x ∷ xs) ys = ap (λ zs. x ∷ zs) (take_front xs ys)

drop_front : (xs ys : List ℕ) → drop (length xs) (xs ++ ys) ≡ ys
drop_front [] ys = refl
drop_front (x ∷ xs) ys = drop_front xs ys

-- bytes that can stand in a row, and bytes behind the row
module _ (st : List ℕ) (long : 20 ≤ length st) (short : length st < 65536) (rest : List ℕ) where
  split : row_of st ++ rest ≡ big_bytes 2 (length st) ++ (st ++ rest)
  split = append_assoc (big_bytes 2 (length st)) st rest

  two_is : two_in (row_of st ++ rest) ≡ length st
  two_is = ap two_in split ∙ two_back (length st) (st ++ rest) short

  pub first_is : first_in (row_of st ++ rest) ≡ st
  first_is = (λ i. take (two_is i) (drop 2 (split i))) ∙ take_front st rest

  pub rest_is : rest_in (row_of st ++ rest) ≡ rest
  rest_is = (λ i. drop (2 + two_is i) (split i)) ∙ sym (drop-drop (length st) 2 (big_bytes 2 (length st) ++ (st ++ rest))) ∙ drop_front st rest

  whole_length : length (row_of st ++ rest) ≡ 2 + (length st + length rest)
  whole_length = ap length split ∙ length-append (big_bytes 2 (length st)) (st ++ rest) ∙ ap (λ n. 2 + n) (length-append st rest)

  pub row_there : has_row (row_of st ++ rest) ≡ true
  row_there =
      let bytes_long : 2 ≤ length (row_of st ++ rest) = omega (arith, whole_length) in
      let two_long : 20 ≤ two_in (row_of st ++ rest) = omega (arith, two_is, long) in
      let row_long : 2 + two_in (row_of st ++ rest) ≤ length (row_of st ++ rest) = omega (arith, two_is, whole_length) in
      grind (arith, nat_tests)

state_long : (s : ObjectState) → 20 ≤ length (state_bytes s)
state_long s = omega (arith, (state_within s).0)

pub keyed_is : (s : ObjectState) → StateInForm s → keyed (state_bytes s) ≡ (s.uid, state_bytes s)
keyed_is s form = by s.format
  where
    behind : Format → List ℕ
    behind f = class_bytes f s.class ++ (big_bytes 8 s.version ++ (uid_bytes s.writer ++ (big_bytes 2 (length s.payload) ++ s.payload)))

    by : (f : Format) → keyed (state_bytes (record s { format = f })) ≡ (s.uid, state_bytes (record s { format = f }))
    by One = λ i. (uid_back s.uid (behind One) form.0 i, state_bytes (record s { format = One }))
    by Two = λ i. (uid_back s.uid (behind Two) form.0 i, state_bytes (record s { format = Two }))

-- ---- rows

pub rows_next : (n : ℕ) (bytes : List ℕ) → has_row bytes ≡ true → rows_in (suc n) bytes ≡ keyed (first_in bytes) ∷ rows_in n (rest_in bytes)
unfolding rows_in
rows_next n bytes there = rw there refl

pub rows_end : (n : ℕ) (bytes : List ℕ) → has_row bytes ≡ false → rows_in n bytes ≡ []
unfolding rows_in
rows_end zero bytes gone = refl
rows_end (suc n) bytes gone = rw gone refl

pub rows_none : (bytes : List ℕ) → rows_in zero bytes ≡ []
unfolding rows_in
rows_none bytes = refl

rows_back : (states : List ObjectState) → AllByRecursion FitsRow states →
    rows_in (length states) (flat_map row_bytes states) ≡ packed states
rows_back [] fit = rows_none []
rows_back (s ∷ ss) fit =
    rows_next (length ss) (row_bytes s ++ flat_map row_bytes ss) (row_there (state_bytes s) (state_long s) (short fit.0.1) (flat_map row_bytes ss))
    ∙ (λ i. keyed (first_is (state_bytes s) (state_long s) (short fit.0.1) (flat_map row_bytes ss) i) ∷ rows_in (length ss) (rest_is (state_bytes s) (state_long s) (short fit.0.1) (flat_map row_bytes ss) i))
    ∙ (λ i. keyed_is s fit.0.0 i ∷ rows_back ss fit.1 i)
  where
    short : length (state_bytes s) ≤ MOST_BYTES → length (state_bytes s) < 65536
    short most = omega (arith, most)

pub states_back : (states : List ObjectState) → AllByRecursion FitsRow states → length states < 65536 →
    states_in (segment_bytes states) ≡ packed states
states_back states fit few =
    ap (λ n. rows_in n (flat_map row_bytes states)) (two_back (length states) (flat_map row_bytes states) few) ∙ rows_back states fit

-- ---- a file in its grammar

-- a packed state of this object, an object of the role, that has room in a row
abbrev pub IsPacked : Role → Uid → List ℕ → Type 0
IsPacked role u state = (role_of u ≡ role) × IsStateOf u state × (length state ≤ MOST_BYTES)

pub objects_packed : (states : List ObjectState) → objects (packed states) ≡ map uid_of states
objects_packed [] = refl
objects_packed (s ∷ ss) = ap (λ us. s.uid ∷ us) (objects_packed ss)

module _ (role : Role) (bytes : List ℕ) (is : IsSegment role bytes) where
  pub states_are : states_in bytes ≡ packed is.states
  states_are = ap states_in is.written ∙ states_back is.states is.fit (let few = is.count in omega (arith, few))

  pub each_is : AllByRecursion (λ e. IsPacked role e.0 e.1) (states_in bytes)
  each_is = subst (AllByRecursion (λ e. IsPacked role e.0 e.1)) (sym states_are) (by is.states is.fit is.distinct.own)
    where
      by : (states : List ObjectState) → AllByRecursion FitsRow states → AllByRecursion (λ s. role_of s.uid ≡ role) states →
          AllByRecursion (λ e. IsPacked role e.0 e.1) (packed states)
      by [] fit own = tt
      by (s ∷ ss) fit own = ((own.0, (s, fit.0.0, refl, refl), fit.0.1), by ss fit.1 own.1)

  pub packs_is : AllByRecursion (λ e. IsStateOf e.0 e.1) (states_in bytes)
  packs_is = only (states_in bytes) each_is
    where
      only : (es : List (Uid × List ℕ)) → AllByRecursion (λ e. IsPacked role e.0 e.1) es → AllByRecursion (λ e. IsStateOf e.0 e.1) es
      only [] all = tt
      only (e ∷ es) all = (all.0.1, only es all.1)

  pub distinct_is : IsDistinct uid_eq (objects (states_in bytes))
  distinct_is = subst (IsDistinct uid_eq) (sym (ap objects states_are ∙ objects_packed is.states)) is.distinct.distinct

some_is : (y z : List ℕ) → Some y ≡ Some z → y ≡ z
some_is y z e = ap (λ o. unwrap_or o []) e

-- what is found among states is one of them
pub found_in : (P : Uid → List ℕ → Type 0) (es : List (Uid × List ℕ)) → AllByRecursion (λ e. P e.0 e.1) es → (u : Uid) (x : List ℕ) →
    new_of es u ≡ Some x → P u x
found_in P [] all u x is = absurd (true≢false (ap is_some (sym is)))
found_in P (e ∷ es) all u x is = by (uid_eq u e.0) refl (found_in P es all.1 u x) is
  where
    by : (b : Bool) → uid_eq u e.0 ≡ b → (new_of es u ≡ Some x → P u x) → cond b (Some e.1) (new_of es u) ≡ Some x → P u x
    by true same rest found = subst (λ w. P w x) (sym (uid_is u e.0 same)) (subst (P e.0) (some_is e.1 x found) all.0)
    by false other rest found = rest found

-- what is found in a file is a state of an object of the role
pub of_file : (role : Role) (o : Option (List ℕ)) → IfSome o (IsSegment role) → (u : Uid) (x : List ℕ) → state_in u o ≡ Some x →
    IsPacked role u x
of_file role None is u x found = absurd (true≢false (ap is_some (sym found)))
of_file role (Some bytes) is u x found = found_in (IsPacked role) (states_in bytes) (each_is role bytes is) u x found

-- ---- a file that is read row by row

pub short_file : (bytes : List ℕ) → length bytes < 6 → rows_in 0 bytes ≡ states_in bytes
short_file bytes short =
    rows_none bytes ∙ sym (ap (rows_in (two_in (drop 4 bytes))) (drop_all 6 bytes (omega (arith, short))) ∙ rows_end (two_in (drop 4 bytes)) [] refl)

-- the count of rows that are left, at a row
left_is : (count row : ℕ) → row < count → count - row ≡ suc (count - (row + 1))
left_is count row within = omega (arith, within)

none_left : (count row : ℕ) → count ≤ row → count - row ≡ 0
none_left count row all = omega (arith, all)

module _ (count row : ℕ) (rest : List ℕ) (u : Uid) (found : Option (List ℕ)) where
  pub find_end : has_row rest ≡ false → new_of (rows_in (count - row) rest) u ≡ found → found ≡ None
  find_end gone left = sym left ∙ ap (λ es. new_of es u) (rows_end (count - row) rest gone)

  pub find_all : count ≤ row → new_of (rows_in (count - row) rest) u ≡ found → found ≡ None
  find_all all left = sym left ∙ ap (λ n. new_of (rows_in n rest) u) (none_left count row all) ∙ ap (λ es. new_of es u) (rows_none rest)

  module _ (within : row < count) (there : has_row rest ≡ true) (left : new_of (rows_in (count - row) rest) u ≡ found) where
    opened : found ≡ cond (uid_eq u (keyed (first_in rest)).0) (Some (first_in rest)) (new_of (rows_in (count - (row + 1)) (rest_in rest)) u)
    opened = sym left ∙ ap (λ n. new_of (rows_in n rest) u) (left_is count row within) ∙ ap (λ es. new_of es u) (rows_next (count - (row + 1)) rest there)

    pub find_here : uid_eq u (keyed (first_in rest)).0 ≡ true → found ≡ Some (first_in rest)
    find_here same = opened ∙ ap (λ b. cond b (Some (first_in rest)) (new_of (rows_in (count - (row + 1)) (rest_in rest)) u)) same

    pub find_later : uid_eq u (keyed (first_in rest)).0 ≡ false → new_of (rows_in (count - (row + 1)) (rest_in rest)) u ≡ found
    find_later other = sym (opened ∙ ap (λ b. cond b (Some (first_in rest)) (new_of (rows_in (count - (row + 1)) (rest_in rest)) u)) other)

packed_push : (states : List ObjectState) (s : ObjectState) → packed (states ++ s ∷ []) ≡ packed states ++ (s.uid, state_bytes s) ∷ []
packed_push [] s = refl
packed_push (t ∷ ts) s = ap (λ es. (t.uid, state_bytes t) ∷ es) (packed_push ts s)

module _ (count row : ℕ) (rest : List ℕ) (states : List ObjectState) (whole : List (Uid × List ℕ)) (rows : packed states ++ rows_in (count - row) rest ≡ whole) where
  pub read_end : has_row rest ≡ false → packed states ≡ whole
  read_end gone = sym (append-nil (packed states)) ∙ ap (λ es. packed states ++ es) (sym (rows_end (count - row) rest gone)) ∙ rows

  pub read_all : count ≤ row → packed states ≡ whole
  read_all all =
      sym (append-nil (packed states)) ∙ ap (λ es. packed states ++ es) (sym (ap (λ n. rows_in n rest) (none_left count row all) ∙ rows_none rest)) ∙ rows

  module _ (within : row < count) (there : has_row rest ≡ true) where
    row_is : rows_in (count - row) rest ≡ keyed (first_in rest) ∷ rows_in (count - (row + 1)) (rest_in rest)
    row_is = ap (λ n. rows_in n rest) (left_is count row within) ∙ rows_next (count - (row + 1)) rest there

    pub read_more : (s : ObjectState) → StateInForm s → first_in rest ≡ state_bytes s →
        packed (states ++ s ∷ []) ++ rows_in (count - (row + 1)) (rest_in rest) ≡ whole
    read_more s form is =
        ap (λ es. es ++ rows_in (count - (row + 1)) (rest_in rest)) (packed_push states s) ∙ append_assoc (packed states) ((s.uid, state_bytes s) ∷ []) (rows_in (count - (row + 1)) (rest_in rest))
        ∙ ap (λ e. packed states ++ e ∷ rows_in (count - (row + 1)) (rest_in rest)) (sym (ap keyed is ∙ keyed_is s form)) ∙ ap (λ es. packed states ++ es) (sym row_is) ∙ rows

    module _ (left : AllByRecursion (λ e. IsStateOf e.0 e.1) (rows_in (count - row) rest)) where
      both : AllByRecursion (λ e. IsStateOf e.0 e.1) (keyed (first_in rest) ∷ rows_in (count - (row + 1)) (rest_in rest))
      both = subst (AllByRecursion (λ e. IsStateOf e.0 e.1)) row_is left

      pub read_left : AllByRecursion (λ e. IsStateOf e.0 e.1) (rows_in (count - (row + 1)) (rest_in rest))
      read_left = both.1

      pub read_state : Packs (Some (first_in rest)) None → ⊥
      read_state none = none both.0.0 both.0.1 both.0.3

-- ---- a file that is written row by row

pub flat_more : {X : Type 0} (f : X → List ℕ) (front : List ℕ) (xs : List X) (i : ℕ) (d : X) → i < length xs →
    (front ++ flat_map f (take i xs)) ++ f (get_or xs i d) ≡ front ++ flat_map f (take (i + 1) xs)
flat_more {X = X} f front xs i d within =
    append_assoc front (flat_map f (take i xs)) (f (get_or xs i d)) ∙ ap (λ bytes. front ++ bytes) (one (take i xs) (get_or xs i d) ∙ ap (flat_map f) (sym (take_more xs i d within)))
  where
    one : (ys : List X) (y : X) → flat_map f ys ++ f y ≡ flat_map f (ys ++ y ∷ [])
    one ys y = sym (flat_map-append f ys (y ∷ []) ∙ ap (λ bytes. flat_map f ys ++ bytes) (append-nil (f y)))
