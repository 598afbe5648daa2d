-- Whose end was told has no lock and no overlay on a copy, then and later.
use Rattle.arj_law_parts.proofs.Words
use Words.{◌≡◌, inl, inr, ℕ, List, [], ◌∷◌, Bool, true, false, cond, not, ◌&&◌, ◌||◌, Option, Some, None, refl, sym, ◌∙◌, ap, list_any}
use Words.{or_parts, false_from_ne_true, before_last, Row, last_uid, front, is_on, is_held_by, has_any, has_row, grant_row, pass_rows}
use Words.{strengthened, uid_eq, object, uid_is, uid_same, CameBy, stayed, passed_on, grant_any, kept_any, gone_any, In, came_by}
use Words.{pass_fewer, Uid, Path, Op, End, uids_of, tops_of, op_mode, Copy, end_copy, run_copy, row_for, is_granted}
use Words.ending
use Rattle.arj_law_parts.proofs.Terms.{Paths, IsTree, IsGoodCopy, IsLowest}

never : {P : Type 0} (b : Bool) → b ≡ true → b ≡ false → P
never b holds fails = let no_way : true ≡ false = sym holds ∙ fails in cc

any_none : (q : Row → Bool) (rows : List Row) → ((r : Row) → In r rows → q r ≡ false) → list_any q rows ≡ false
any_none q [] h = refl
any_none q (r ∷ rows) h = (λ i. h r (inl refl) i || any_none q rows (λ s j. h s (inr j)) i)

any_less : (q p : Row → Bool) (rows : List Row) → list_any q rows ≡ false → list_any (λ r. q r && p r) rows ≡ false
any_less q p [] e = refl
any_less q p (r ∷ rows) e = let f = or_parts (q r) (list_any q rows) e in (λ i. (f.0 i && p r) || any_less q p rows f.1 i)

pub gone_abort : (u : Uid) (c : Copy) → has_any u (end_copy u ending.Abort c).rows ≡ false
gone_abort u c = gone_any u c.rows

pub gone_commit : (paths : Paths) → IsTree paths → (x : ℕ) (c : Copy) → IsGoodCopy paths x c → (u : Uid) → IsLowest u c.rows →
    has_any u (end_copy u ending.Commit c).rows ≡ false
gone_commit paths tree x c good u lowest = any_none (λ r. is_on r.holder u) (pass_rows u c.rows) (λ y i. by y (came_by u c.rows y i))
  where
    strong : (r : Row) (o : Option Row) → (strengthened r o).holder ≡ r.holder
    strong r None = refl
    strong r (Some s) = refl

    by : (y : Row) → CameBy u c.rows y → is_on y.holder u ≡ false
    by y (stayed r there other is) =
        ap (λ us. is_on us u) (ap (λ (q : Row). q.holder) is ∙ strong r _)
        ∙ false_from_ne_true (is_on r.holder u) (λ on. never (is_held_by u r) (ap (λ w. uid_eq w u) (lowest r there on) ∙ uid_same u) other)
    by y (passed_on r there own heir parent free is) =
        let path : r.holder ≡ paths u = good.holders r there ∙ ap paths (uid_is (last_uid r.holder) u own) in
        ap (λ us. is_on us u) (ap (λ (q : Row). q.holder) is ∙ ap front path) ∙ (tree.heir u heir (ap before_last (sym path) ∙ parent)).1

pub gone_request : (u : Uid) (c : Copy) (n : ℕ) (p : Path) (x : ℕ) (o : Op) → is_on (uids_of p) u ≡ false → has_any u c.rows ≡ false →
    has_any u (run_copy n p x o c).part.rows ≡ false
gone_request u c n p x o off none = by (is_granted (object x) (last_uid (uids_of p)) (op_mode o) c.rows)
  where
    new : Row
    new = row_for (object x) (uids_of p) (tops_of p) (op_mode o)

    and_false : (b : Bool) → (b && false) ≡ false
    and_false true = refl
    and_false false = refl

    by : (b : Bool) → has_any u (cond b c.rows (grant_row new c.rows)) ≡ false
    by true = none
    by false = grant_any new c.rows u ∙ (λ i. none i || (not (has_row new.object (last_uid new.holder) c.rows) && off i))
        ∙ and_false (not (has_row new.object (last_uid new.holder) c.rows))

pub gone_later : (u w : Uid) (e : End) (c : Copy) → has_any u c.rows ≡ false → has_any u (end_copy w e c).rows ≡ false
gone_later u w ending.Abort c none = kept_any (λ r. is_on r.holder u) (λ r. not (is_on r.holder w)) c.rows
    ∙ any_less (λ r. is_on r.holder u) (λ r. not (is_on r.holder w)) c.rows none
gone_later u w ending.Commit c none =
    false_from_ne_true (has_any u (pass_rows w c.rows)) (λ some. never (has_any u c.rows) (pass_fewer w c.rows u some) none)
