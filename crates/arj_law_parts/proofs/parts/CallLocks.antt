-- The lock of an operation stands until its action's end, and then its parent has it.
use Rattle.arj_law_parts.proofs.Words
use Words.{◌≡◌, ◌≢◌, ℕ, true, false, not, Some, sym, ◌∙◌, ap, before_last, last_uid, front, is_on, drop_rows, object, kept_from, in_from}
use Words.{in_to, heir_is, on_last, Uid, Path, Op, uids_of, tops_of, op_mode, mode_code, Copy, end_copy, run_copy, row_for}
use Words.ending
use Rattle.arj_law_parts.proofs.Terms.{Paths, IsTree, IsGoodCopy, IsLowest, HasHeirs, HasLock}
use Rattle.arj_law_parts.proofs.parts.{GoodCopies.passed_lock, Stands.asked_has, Stands.stands_asked, Stands.stands_pass}

pub call_lock : (n : ℕ) (p : Path) (x : ℕ) (o : Op) (c : Copy) →
    HasLock (last_uid (uids_of p)) (mode_code (op_mode o)) (run_copy n p x o c).part.rows
call_lock n p x o c = asked_has (row_for (object x) (uids_of p) (tops_of p) (op_mode o)) c.rows

pub lock_request : (n : ℕ) (p : Path) (x : ℕ) (o : Op) (c : Copy) (u : Uid) (k : ℕ) → HasLock u k c.rows →
    HasLock u k (run_copy n p x o c).part.rows
lock_request n p x o c u k h = stands_asked u k (row_for (object x) (uids_of p) (tops_of p) (op_mode o)) c.rows h

pub lock_abort : (paths : Paths) (x : ℕ) (c : Copy) → IsGoodCopy paths x c → (u w : Uid) (k : ℕ) → is_on (paths u) w ≡ false →
    HasLock u k c.rows → HasLock u k (end_copy w ending.Abort c).rows
lock_abort paths x c good u w k off h = (
  h.0,
  in_to h.0 (drop_rows w c.rows) (kept_from (λ r. not (is_on r.holder w)) h.0 c.rows (in_from h.0 c.rows h.1)
      (ap not (ap (λ us. is_on us w) (good.holders h.0 h.1 ∙ ap paths h.2) ∙ off))),
  h.2,
  h.3,
)

pub lock_commit : (c : Copy) (u w : Uid) (k : ℕ) → u ≢ w → HasLock u k c.rows → HasLock u k (end_copy w ending.Commit c).rows
lock_commit c u w k other h = stands_pass w u k c.rows other h

pub lock_passes : (paths : Paths) → (tree : IsTree paths) → (x : ℕ) (c : Copy) → (good : IsGoodCopy paths x c) → (u heir : Uid) (k : ℕ) →
    IsLowest u c.rows → HasHeirs u c → before_last (paths u) ≡ Some heir → HasLock u k c.rows →
    HasLock heir k (end_copy u ending.Commit c).rows
lock_passes paths tree x c good u heir k lowest heirs parent h =
    passed_lock paths tree x c good u lowest heirs h.0 heir k (in_from h.0 c.rows h.1) h.2 (ap before_last path ∙ parent) another h.3
  where
    path : h.0.holder ≡ paths u
    path = good.holders h.0 h.1 ∙ ap paths h.2

    another : heir ≢ u
    another same =
        let up = heir_is (paths u) heir parent in
        let no_way : true ≡ false = sym (on_last (front (paths u)) up.1) ∙ ap (is_on (front (paths u))) (up.0 ∙ same)
        ∙ (tree.heir u heir parent).1 in
        cc
