-- Rows that are left out.
use Rattle.std.specs.Prelude.{◌≡◌, ◌<◌, ℕ, ◌+◌, List, [], ◌∷◌, ◌++◌, length, take, filter, Bool, true, false, ◌&&◌, not, Option, None, Some}
use Rattle.std.specs.List.{cons_option, filter_map}
use Rattle.std.proofs.Common.{refl, ap, sym, suc, get_or, ◌∙◌, cond, arith}
use Rattle.std.proofs.Math.Seq.{take-suc}
use Rattle.std.proofs.lemmas.List.Elements.{filter_map-append}
use Rattle.arj_base.specs.declared.mode.End.TheVariants as ending
use Rattle.arj_base.specs.declared.uid.Uid.{Uid}
use Rattle.arj_base.specs.Rows.{Row, close_rows, is_on}
use Rattle.arj_base.specs.Uid.{uid_eq}
use Rattle.arj_journal.specs.declared.body.Part.{Part}
use Rattle.arj_model.specs.Table.{is_in_part, tell_rows}
use Rattle.arj_standing.specs.Held.{other_row, rows_of, shown, spared}
use Rattle.arj_standing.specs.declared.held.Held.{Held}

-- one row, left out or not
step : (b : Bool) (row : Row) (xs ys : List Row) → xs ≡ ys → cons_option (cond b None (Some row)) xs ≡ cond (not b) (row ∷ ys) ys
step true row xs ys same = same
step false row xs ys same = ap (λ zs. row ∷ zs) same

-- what a test leaves out, both ways
left_out : (test : Row → Bool) (rows : List Row) →
    filter_map (λ row. cond (test row) None (Some row)) rows ≡ filter (λ row. not (test row)) rows
left_out test [] = refl
left_out test (row ∷ rows) =
    step (test row) row (filter_map (λ r. cond (test r) None (Some r)) rows) (filter (λ r. not (test r)) rows) (left_out test rows)

-- what an abort leaves
pub spared_rows : (p : Part) (u : Uid) (rows : List Row) → filter_map (spared p u) rows ≡ tell_rows p u ending.Abort rows
spared_rows p u rows = left_out (λ row. is_in_part p row && is_on row.holder u) rows

-- what is left when the rows of an object go
pub other_rows : (o : Uid) (rows : List Row) → filter_map (other_row o) rows ≡ close_rows o rows
other_rows o rows = left_out (λ row. uid_eq row.object o) rows

-- the list up to a place, with what stands there
pub take_next : {A : Type 0} (xs : List A) (i : ℕ) (x : A) → i < length xs → x ≡ get_or xs i x → take (i + 1) xs ≡ take i xs ++ x ∷ []
take_next xs i x lt is = ap (λ n. take n xs) (one_more i) ∙ take-suc xs i x lt ∙ ap (λ y. take i xs ++ y ∷ []) (sym is)
  where
    one_more : (n : ℕ) → n + 1 ≡ suc n
    one_more n = omega arith

-- the rows of two lists, one behind the other
rows_append : (hs : List Held) (h : Held) → rows_of (hs ++ h ∷ []) ≡ rows_of hs ++ shown h ∷ []
rows_append [] h = refl
rows_append (g ∷ hs) h = ap (λ rows. shown g ∷ rows) (rows_append hs h)

-- what is kept of the rows up to a place, with the one that stands there
pub next_row : (f : Row → Option Row) (hs : List Held) (i : ℕ) (h : Held) → i < length hs → h ≡ get_or hs i h
    → filter_map f (rows_of (take (i + 1) hs)) ≡ filter_map f (rows_of (take i hs)) ++ cons_option (f (shown h)) []
next_row f hs i h lt is =
    (λ j. filter_map f (rows_of (take_next hs i h lt is j))) ∙ ap (filter_map f) (rows_append (take i hs) h) ∙ filter_map-append f (rows_of (take i hs)) (shown h ∷ [])
