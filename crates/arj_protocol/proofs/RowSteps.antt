-- Row steps against lines, and ends of which a list of rows knows nothing.
use Rattle.std.proofs.Common.{◌≡◌, ℕ, List, [], ◌∷◌, ◌++◌, Bool, true, false, cond, refl, sym, ◌∙◌, ap, find, Some, None, ◌==◌, ◌&&◌, ◌⊎◌}
use Rattle.std.proofs.Common.{inl, inr, ⊎_elim, arith}
use Rattle.std.proofs.lemmas.Bool.{eqb-true, or_parts, cases_Bool}
use Rattle.std.specs.Prelude.{if◌then◌else◌}
use Rattle.std.specs.List.{filter_map, cons_option}
use Rattle.std.specs.declared.cmp.Ordering.{Ordering}
use Rattle.std.specs.declared.cmp.Ordering.TheVariants.{Less, Equal, Greater}
use Rattle.std.specs.Ordering.{nat_cmp, is_eq}
use Rattle.std.specs.FinMap.{nat_cmp-IsAntisymmetric}
use Rattle.arj_base.specs.Rows.{passed, goes_to, is_heir}
use Rattle.arj_protocol.specs.Words.{Uid, End, Mode, Part, Row, uid_eq, nobody, is_on, last_uid, grant_row, drop_rows, pass_rows}
use Rattle.arj_protocol.specs.Words.{before_last}
use Rattle.arj_protocol.specs.Words.ending
use Rattle.arj_protocol.specs.Words.body
use Rattle.arj_protocol.specs.Effect.{Effect, Say, Send, Do}
use Rattle.arj_protocol.specs.Copy.{holds, row_for, rows_asked, grant_lines, is_granted}
use Rattle.arj_protocol.specs.Laws.{Holders, IsPathOf, rows_by, rows_after, rows_ended, same_part}

-- ---- numbers and Uids

pub same_number : (n : ℕ) → (n == n) ≡ true
same_number n = grind arith

-- two numbers are one, or no test takes them for one
pub one_or_two : (x y : ℕ) → (x ≡ y) ⊎ ((is_eq (nat_cmp y x) ≡ false) × ((x == y) ≡ false))
one_or_two x y =
    ⊎_elim (λ yes_it_is. inl (eqb-true x y yes_it_is)) (λ other. inr (apart (nat_cmp y x) refl other, other)) (cases_Bool (x == y))
  where
    apart : (r : Ordering) → nat_cmp y x ≡ r → (x == y) ≡ false → is_eq r ≡ false
    apart Less e other = refl
    apart Greater e other = refl
    apart Equal e other =
        let one : y ≡ x = nat_cmp-IsAntisymmetric y x e in
        absurd (cc (sym (same_number x) ∙ ap (λ n. x == n) (sym one), other))

pub same_uid : (u : Uid) → uid_eq u u ≡ true
same_uid u = rw (same_number u.node, same_number u.inc, same_number u.num) refl

-- ---- lists of effects

pub after_both : (h : Holders) (n : ℕ) (p : Part) (o : Uid) (es fs : List Effect) (rows : List Row) →
    rows_after h n p o (es ++ fs) rows ≡ rows_after h n p o fs (rows_after h n p o es rows)
after_both h n p o [] fs rows = refl
after_both h n p o (Say b ∷ es) fs rows = after_both h n p o es fs (rows_by h n p o b rows)
after_both h n p o (Send to m ∷ es) fs rows = after_both h n p o es fs rows
after_both h n p o (Do w ∷ es) fs rows = after_both h n p o es fs rows

-- ---- a grant

granted_row : (h : Holders) (u : Uid) (o : Uid) (path : List Uid) (tops : ℕ) (how : Mode) → IsPathOf h u path tops →
    row_for o (h.path u) (h.tops u) how ≡ row_for o path tops how
granted_row h u o path tops how is = λ i. row_for o (is.path_is i) (is.tops_are i) how

-- the line of a grant makes the rows that were asked
pub asked_after : (h : Holders) (n : ℕ) (p : Part) (o : Uid) (path : List Uid) (tops : ℕ) (how : Mode) (rows : List Row) →
    IsPathOf h (last_uid path) path tops →
    rows_after h n p o (grant_lines n (row_for o path tops how) rows) rows ≡ rows_asked (row_for o path tops how) rows
asked_after h n p o path tops how rows is = by (is_granted o (last_uid path) how rows)
  where
    by : (b : Bool) →
        rows_after h n p o (if b then [] else Say (body.Granted n (last_uid path) o how) ∷ []) rows ≡ (if b then rows else grant_row (row_for o path tops how) rows)
    by true = refl
    by false = rw (same_number n, same_uid o) (ap (λ r. grant_row r rows) (granted_row h (last_uid path) o path tops how is))

-- and leaves those of another object
pub asked_elsewhere : (h : Holders) (n : ℕ) (p : Part) (o q : Uid) (path : List Uid) (tops : ℕ) (how : Mode) (rows others : List Row) →
    uid_eq o q ≡ false → rows_after h n p q (grant_lines n (row_for o path tops how) rows) others ≡ others
asked_elsewhere h n p o q path tops how rows others apart = by (is_granted o (last_uid path) how rows)
  where
    by : (b : Bool) → rows_after h n p q (if b then [] else Say (body.Granted n (last_uid path) o how) ∷ []) others ≡ others
    by true = refl
    by false = rw (same_number n, apart) refl

-- ---- ends of which nothing is known

-- who isn't on a path isn't its last Uid
pub not_last : (us : List Uid) (u : Uid) → uid_eq nobody u ≡ false → is_on us u ≡ false → uid_eq (last_uid us) u ≡ false
not_last [] u someone none = someone
not_last (w ∷ []) u someone none = (or_parts (uid_eq w u) false none).0
not_last (w ∷ v ∷ us) u someone none = not_last (v ∷ us) u someone (or_parts (uid_eq w u) (is_on (v ∷ us) u) none).1

pub holds_rest : (u : Uid) (r : Row) (rows : List Row) → holds u (r ∷ rows) ≡ false → (is_on r.holder u ≡ false) × (holds u rows ≡ false)
holds_rest u r rows none = or_parts (is_on r.holder u) (holds u rows) none

pub drops_none : (u : Uid) (rows : List Row) → holds u rows ≡ false → drop_rows u rows ≡ rows
drops_none u [] none = refl
drops_none u (r ∷ rows) none =
    let p = holds_rest u r rows none in
    rw p.0 (ap (λ rs. r ∷ rs) (drops_none u rows p.1))

-- no row goes to this one's holder
finds_none : (u : Uid) (row : Row) (rows : List Row) → uid_eq nobody u ≡ false → holds u rows ≡ false → find (goes_to u row) rows ≡ None
finds_none u row [] someone none = refl
finds_none u row (r ∷ rows) someone none =
    let p = holds_rest u r rows none in
    let last_is : uid_eq (last_uid r.holder) u ≡ false = not_last r.holder u someone p.0 in
    by (uid_eq r.object row.object) last_is (finds_none u row rows someone p.1)
  where
    by : (b : Bool) → uid_eq (last_uid r.holder) u ≡ false → find (goes_to u row) rows ≡ None →
        cond ((b && uid_eq (last_uid r.holder) u) && is_heir (before_last r.holder) (last_uid row.holder)) (Some r) (find (goes_to u row) rows) ≡ None
    by false last_is ih = ih
    by true last_is ih = rw last_is ih

passes_one : (u : Uid) (all : List Row) (r : Row) → uid_eq (last_uid r.holder) u ≡ false → find (goes_to u r) all ≡ None →
    passed u all r ≡ Some r
passes_one u all r last_is none = rw (last_is, none) refl

passes_rest : (u : Uid) (all rows : List Row) → uid_eq nobody u ≡ false → holds u all ≡ false → holds u rows ≡ false →
    filter_map (passed u all) rows ≡ rows
passes_rest u all [] someone none here = refl
passes_rest u all (r ∷ rows) someone none here =
    let p = holds_rest u r rows here in
    let one : passed u all r ≡ Some r = passes_one u all r (not_last r.holder u someone p.0) (finds_none u r all someone none) in
    ap (λ o. cons_option o (filter_map (passed u all) rows)) one ∙ ap (λ rs. r ∷ rs) (passes_rest u all rows someone none p.1)

pub passes_none : (u : Uid) (rows : List Row) → uid_eq nobody u ≡ false → holds u rows ≡ false → pass_rows u rows ≡ rows
passes_none u rows someone none = passes_rest u rows rows someone none none

pub ends_none : (u : Uid) (e : End) (rows : List Row) → uid_eq nobody u ≡ false → holds u rows ≡ false → rows_ended e u rows ≡ rows
ends_none u ending.Commit rows someone none = passes_none u rows someone none
ends_none u ending.Abort rows someone none = drops_none u rows none

-- the line of an end, which is said where a lock is held
pub told_after : (h : Holders) (n : ℕ) (p : Part) (o u : Uid) (e : End) (rows : List Row) → same_part p p ≡ true →
    rows_by h n p o (body.Told n u e p) rows ≡ rows_ended e u rows
told_after h n p o u e rows own = rw (same_number n, own) refl
