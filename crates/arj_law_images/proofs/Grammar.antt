-- The files that a segment store writes are in the grammar of an image's files.
use Rattle.std.proofs.Common.{◌≡◌, ◌∙◌, ◌≤◌, ◌<◌, ◌-◌, ◌==◌, ◌&&◌, ◌||◌, true, false, Bool, cond, ℕ, zero, suc, List, [], ◌∷◌, ◌++◌, arith, refl}
use Rattle.std.proofs.Common.{sym, ap, subst, map, length, Some, None}
use Rattle.std.specs.Prelude.{flat_map, is_some, nat_le, nat_lt, not}
use Rattle.std.specs.List.{AllByRecursion, IsDistinct}
use Rattle.std.proofs.lemmas.Bool.{eq-eqb}
use Rattle.std.proofs.lemmas.Bool.Decides.{nat_tests}
use Rattle.std.proofs.lemmas.Nat.{from_be_bytes-to_be_bytes_2}
use Rattle.arj_base.specs.State.{StateInForm, class_code_of, length_fits, state_bytes, state_fault, version_of_code}
use Rattle.arj_base.specs.Uid.{uid_eq}
use Rattle.arj_base.specs.declared.state.Class.{Class}
use Rattle.arj_base.specs.declared.state.Class.TheVariants.{Entry, Counter, Register, Account, Queue, Table, Gone}
use Rattle.arj_base.specs.declared.state.Format.{Format}
use Rattle.arj_base.specs.declared.state.Format.TheVariants.{One, Two}
use Rattle.arj_base.specs.declared.state.ObjectState.{ObjectState}
use Rattle.arj_base.specs.declared.state.StateFault.TheVariants as fault
use Rattle.arj_base.specs.declared.uid.Uid.{Uid}
use Rattle.arj_disk.specs.declared.slot.Role.{Role}
use Rattle.arj_saved.specs.Rows.{are_rows, has_uid, is_packed, is_segment}
use Rattle.arj_segment_file.proofs.Read.{first_is, keyed_is, rest_is, row_there}
use Rattle.arj_segment_file.specs.Format.{FitsRow, IsSegment, first_in, has_row, keyed, rest_in, row_bytes, segment_bytes}
use Rattle.arj_store.specs.Pair.{uid_of}

-- ---- packed states

small_code : (c : Class) → nat_lt 6 (class_code_of c) ≡ false
small_code Entry = refl
small_code Counter = refl
small_code Register = refl
small_code Account = refl
small_code Queue = refl
small_code Table = refl
small_code Gone = refl

no_fault : (f : Format) (s : ObjectState) → length s.payload < 65536 → state_fault (state_bytes (record s { format = f })) ≡ None
no_fault One s small =
    let b = state_bytes (record s { format = One }) in
    let short : nat_lt (length b) 4 ≡ false = grind (arith, nat_tests) in
    let long : nat_lt (length b) 47 ≡ false = grind (arith, nat_tests) in
    let fits : length_fits 45 b ≡ true =
    ap (λ n. n == length b - 47) (from_be_bytes-to_be_bytes_2 (length s.payload) small) ∙ eq-eqb (length s.payload) (length b - 47) (omega arith) in
    λ i. cond (short i) (Some fault.Short) (cond (long i) (Some fault.Short) (cond (small_code s.class i) (Some fault.Class)
    (cond (fits i) None (Some fault.Length))))
no_fault Two s small =
    let b = state_bytes (record s { format = Two }) in
    let short : nat_lt (length b) 4 ≡ false = grind (arith, nat_tests) in
    let long : nat_lt (length b) 48 ≡ false = grind (arith, nat_tests) in
    let code = version_of_code (class_code_of s.class) in
    let fits : length_fits 46 b ≡ true =
    ap (λ n. n == length b - 48) (from_be_bytes-to_be_bytes_2 (length s.payload) small) ∙ eq-eqb (length s.payload) (length b - 48) (omega arith) in
    λ i. cond (short i) (Some fault.Short) (cond (long i) (Some fault.Short) (cond (small_code s.class i) (Some fault.Class)
    (cond (eq-eqb code code refl i) (cond (fits i) None (Some fault.Length)) (Some fault.ClassVersion))))

packed_is : (s : ObjectState) → StateInForm s → is_packed (state_bytes s) ≡ true
packed_is s form = ap (λ o. not (is_some o)) (no_fault s.format s (omega (arith, form.2.2)))

-- ---- rows

row_step : (n : ℕ) (bytes : List ℕ) (before : List (Uid × List ℕ)) → are_rows (suc n) bytes before
    ≡ (has_row bytes && (is_packed (first_in bytes) && (not (has_uid before (let e = keyed (first_in bytes) in e.0))
    && are_rows n (rest_in bytes) (before ++ keyed (first_in bytes) ∷ []))))
unfolding are_rows
row_step n bytes before = refl

rows_end : (before : List (Uid × List ℕ)) → are_rows zero [] before ≡ true
unfolding are_rows
rows_end before = refl

-- one more state, of another Uid
none_more : (es : List (Uid × List ℕ)) (e : Uid × List ℕ) (u : Uid) → has_uid es u ≡ false → uid_eq e.0 u ≡ false →
    has_uid (es ++ e ∷ []) u ≡ false
none_more [] e u none apart = λ i. apart i || false
none_more (d ∷ es) e u none apart = by (uid_eq d.0 u) none (none_more es e u)
  where
    by : (b : Bool) → (b || has_uid es u) ≡ false → (has_uid es u ≡ false → uid_eq e.0 u ≡ false → has_uid (es ++ e ∷ []) u ≡ false) →
        (b || has_uid (es ++ e ∷ []) u) ≡ false
    by true is more = absurd (cc is)
    by false is more = more is apart

none_each : (es : List (Uid × List ℕ)) (e : Uid × List ℕ) (ss : List ObjectState) → AllByRecursion (λ (s : ObjectState). has_uid es s.uid ≡ false) ss →
    AllByRecursion (λ u. uid_eq e.0 u ≡ false) (map uid_of ss) → AllByRecursion (λ (s : ObjectState). has_uid (es ++ e ∷ []) s.uid ≡ false) ss
none_each es e [] none apart = tt
none_each es e (s ∷ ss) none apart = (none_more es e s.uid none.0 apart.0, none_each es e ss none.1 apart.1)

state_long : (s : ObjectState) → 20 ≤ length (state_bytes s)
state_long s = by s.format
  where
    by : (f : Format) → 20 ≤ length (state_bytes (record s { format = f }))
    by One = omega arith
    by Two = omega arith

rows_so : (ss : List ObjectState) (before : List (Uid × List ℕ)) → AllByRecursion FitsRow ss → IsDistinct uid_eq (map uid_of ss) →
    AllByRecursion (λ (s : ObjectState). has_uid before s.uid ≡ false) ss → are_rows (length ss) (flat_map row_bytes ss) before ≡ true
unfolding IsDistinct
rows_so [] before fit distinct none = rows_end before
rows_so (s ∷ ss) before fit distinct none =
    let rest = flat_map row_bytes ss in
    let bytes = row_bytes s ++ rest in
    let st = state_bytes s in
    let short : length st < 65536 = omega (arith, fit.0.1) in
    let first : first_in bytes ≡ st = first_is st (state_long s) short rest in
    let behind : rest_in bytes ≡ rest = rest_is st (state_long s) short rest in
    let key : keyed (first_in bytes) ≡ (s.uid, st) = ap keyed first ∙ keyed_is s fit.0.0 in
    row_step (length ss) bytes before
    ∙ (λ i. row_there st (state_long s) short rest i && (is_packed (first i) && (not (has_uid before (let e = key i in e.0))
    && are_rows (length ss) (behind i) (before ++ key i ∷ []))))
    ∙ (λ i. packed_is s fit.0.0 i && (not (none.0 i) && rows_so ss (before ++ (s.uid, st) ∷ []) fit.1 distinct.1
    (none_each before (s.uid, st) ss none.1 distinct.0) i))

-- the bytes of a file in form are in the grammar
pub segment_is : (role : Role) (bytes : List ℕ) → IsSegment role bytes → is_segment bytes ≡ true
segment_is role bytes is = subst (λ b. is_segment b ≡ true) (sym is.written) (by is.states is.fit is.count is.distinct.distinct)
  where
    none : (ss : List ObjectState) → AllByRecursion (λ (s : ObjectState). has_uid [] s.uid ≡ false) ss
    none [] = tt
    none (s ∷ ss) = (refl, none ss)

    by : (ss : List ObjectState) → AllByRecursion FitsRow ss → length ss ≤ 65535 → IsDistinct uid_eq (map uid_of ss) →
        is_segment (segment_bytes ss) ≡ true
    by ss fit count distinct =
        let long : nat_le 6 (length (segment_bytes ss)) ≡ true = grind (arith, nat_tests) in
        λ i. long i && (true && (ap (λ n. are_rows n (flat_map row_bytes ss) []) (from_be_bytes-to_be_bytes_2 (length ss) (omega (arith, count)))
        ∙ rows_so ss [] fit distinct (none ss)) i)
