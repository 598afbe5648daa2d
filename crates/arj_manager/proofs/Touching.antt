-- What an end or an operation leaves of the actions that use an object.
use Rattle.std.proofs.Common.{◌≡◌, ◌⊎◌, inl, inr, ℕ, zero, suc, List, [], ◌∷◌, Bool, true, false, cond, not, ◌&&◌, ◌||◌, Option, Some, None}
use Rattle.std.proofs.Common.{refl, sym, ◌∙◌, ap, filter, take, min, length}
use Rattle.std.specs.List.{list_any}
use Rattle.std.specs.Option.{option_map}
use Rattle.std.proofs.lemmas.Bool.{and_parts, or_cases, or_left, or_parts, or_right, both_ways}
use Rattle.arj_base.specs.declared.mode.End.{End}
use Rattle.arj_base.specs.declared.mode.End.TheVariants as ending
use Rattle.arj_base.specs.declared.path.Path.{Path}
use Rattle.arj_base.specs.declared.uid.Uid.{Uid}
use Rattle.arj_base.specs.Path.{uids_of, tops_of}
use Rattle.arj_base.specs.Rows.{Row, front, last_uid, is_on, grant_row, pass_rows, drop_rows, has_row}
use Rattle.arj_base.specs.Uid.{uid_eq, nobody, object}
use Rattle.arj_class.specs.declared.op.Op.{Op}
use Rattle.arj_class.specs.declared.value.Value.{Value}
use Rattle.arj_class.specs.Table.{op_mode, writes, value_after}
use Rattle.arj_lock.proofs.Leaves.{grant_any}
use Rattle.arj_lock.proofs.PassLeaves.{pass_fewer}
use Rattle.arj_protocol.specs.Copy.{Copy, Over, changed_state, current, end_copy, folded, holds, is_granted, is_of, is_top_in, is_top_over}
use Rattle.arj_protocol.specs.Copy.{over_of, overs_committed, row_for, run_copy, settled, state_over, written}
use Rattle.arj_protocol.specs.Laws.{UnknownToCopy}
use Rattle.arj_protocol.proofs.RowSteps.{not_last}
use Rattle.arj_protocol.proofs.Unknown.{copy_stays}
use Rattle.arj_manager.specs.Index.{touches}

-- the action is on the path of an overlay
abbrev on_stack : Uid → List Over → Bool
on_stack u es = list_any (λ (e : Over). is_on e.holder u) es

pub unknown : (u : Uid) (c : Copy) → touches u c ≡ false → (uid_eq nobody u ≡ false) × UnknownToCopy u c
unknown u c none =
    let p = or_parts (uid_eq nobody u) (holds u c.rows || on_stack u c.stack) none in
    let q = or_parts (holds u c.rows) (on_stack u c.stack) p.1 in
    (p.0, record { locks = q.0; overlays = q.1 })

-- the end of an action that doesn't use an object changes nothing there
pub untouched : (u : Uid) (e : End) (c : Copy) → touches u c ≡ false → end_copy u e c ≡ c
untouched u e c none = let p = unknown u c none in copy_stays u e c p.0 p.1

-- ---- who uses an object after an end used it before

any_kept : {X : Type 0} (q p : X → Bool) (xs : List X) → list_any q (filter p xs) ≡ true → list_any q xs ≡ true
any_kept q p [] some = some
any_kept {X} q p (x ∷ xs) some = by (p x) (any_kept q p xs) some
  where
    by : (b : Bool) → (list_any q (filter p xs) ≡ true → list_any q xs ≡ true) →
        list_any q (cond b (x ∷ filter p xs) (filter p xs)) ≡ true → (q x || list_any q xs) ≡ true
    by true ih some = first (q x) some
      where
        first : (b : Bool) → (b || list_any q (filter p xs)) ≡ true → (b || list_any q xs) ≡ true
        first true some = refl
        first false some = ih some
    by false ih some = or_right (q x) (list_any q xs) (ih some)

on_front : (us : List Uid) (w : Uid) → is_on (front us) w ≡ true → is_on us w ≡ true
on_front [] w on = on
on_front (u ∷ []) w on = absurd (cc on)
on_front (u ∷ v ∷ us) w on = by (uid_eq u w) (on_front (v ∷ us) w) on
  where
    by : (b : Bool) → (is_on (front (v ∷ us)) w ≡ true → is_on (v ∷ us) w ≡ true) → (b || is_on (front (v ∷ us)) w) ≡ true →
        (b || is_on (v ∷ us) w) ≡ true
    by true ih on = refl
    by false ih on = ih on

written_on : (w : Uid) (h : List Uid) (t : ℕ) (v : Value) (es : List Over) → on_stack w (written h t v es) ≡ true →
    (is_on h w ≡ true) ⊎ (on_stack w es ≡ true)
written_on w h t v [] on = or_cases (is_on h w) false on
written_on w h t v (e ∷ es) on = by (is_of (last_uid h) e) on
  where
    by : (b : Bool) → on_stack w (cond b (record e { value = v } ∷ es) (record { holder = h; tops = t; value = v } ∷ e ∷ es)) ≡ true →
        (is_on h w ≡ true) ⊎ (on_stack w (e ∷ es) ≡ true)
    by true on = inr on
    by false on = or_cases (is_on h w) (on_stack w (e ∷ es)) on

folded_on : (w u : Uid) (es : List Over) → on_stack w (folded u es) ≡ true → on_stack w es ≡ true
folded_on w u [] on = on
folded_on w u (e ∷ es) on = by (is_of u e) on
  where
    up : (is_on (front e.holder) w ≡ true) ⊎ (on_stack w es ≡ true) → (is_on e.holder w || on_stack w es) ≡ true
    up (inl here) = or_left (is_on e.holder w) (on_stack w es) (on_front e.holder w here)
    up (inr there) = or_right (is_on e.holder w) (on_stack w es) there

    by : (b : Bool) → on_stack w (cond b (written (front e.holder) (min e.tops (length (front e.holder))) e.value es) (e ∷ es)) ≡ true →
        on_stack w (e ∷ es) ≡ true
    by true on = up (written_on w (front e.holder) (min e.tops (length (front e.holder))) e.value es on)
    by false on = on

committed_on : (w u : Uid) (o : Option Over) (c : Copy) → on_stack w (overs_committed u o c).stack ≡ true → on_stack w c.stack ≡ true
committed_on w u None c on = on
committed_on w u (Some e) c on = by (is_top_over e) on
  where
    by : (b : Bool) → on_stack w (cond {A = Copy} b (settled u e c) (record c { stack = folded u c.stack })).stack ≡ true →
        on_stack w c.stack ≡ true
    by true on = any_kept (λ (o : Over). is_on o.holder w) (λ (o : Over). not (is_of u o)) c.stack on
    by false on = folded_on w u c.stack on

more : (a h s i t : Bool) → (h ≡ true → i ≡ true) → (s ≡ true → t ≡ true) → (a || (h || s)) ≡ true → (a || (i || t)) ≡ true
more true h s i t f g on = refl
more false true s i t f g on = or_left i t (f refl)
more false false true i t f g on = or_right i t (g refl)
more false false false i t f g on = absurd (cc on)

pub ends_touch : (w u : Uid) (e : End) (c : Copy) → touches w (end_copy u e c) ≡ true → touches w c ≡ true
ends_touch w u ending.Commit c on =
    more (uid_eq nobody w) (holds w (pass_rows u c.rows)) (on_stack w (overs_committed u (over_of u c.stack) c).stack) (holds w c.rows) (on_stack w c.stack)
    (pass_fewer u c.rows w) (committed_on w u (over_of u c.stack) c) on
ends_touch w u ending.Abort c on =
    more (uid_eq nobody w) (holds w (drop_rows u c.rows)) (on_stack w (filter (λ (o : Over). not (is_on o.holder u)) c.stack)) (holds w c.rows) (on_stack w c.stack)
    (any_kept (λ (r : Row). is_on r.holder w) (λ (r : Row). not (is_on r.holder u)) c.rows)
    (any_kept (λ (o : Over). is_on o.holder w) (λ (o : Over). not (is_on o.holder u)) c.stack) on

-- ---- after an operation the actions of its path use it besides

pub run_touches : (w : Uid) (n : ℕ) (p : Path) (x : ℕ) (op : Op) (c : Copy) → is_on (uids_of p) w ≡ false →
    touches w (run_copy n p x op c).part ≡ true → touches w c ≡ true
run_touches w n p x op c off on =
    more (uid_eq nobody w) (holds w (run_copy n p x op c).part.rows) (on_stack w (run_copy n p x op c).part.stack) (holds w c.rows) (on_stack w c.stack)
    (rows (is_granted (object x) (last_uid (uids_of p)) (op_mode op) c.rows)) (stack (writes op)) on
  where
    new : Row
    new = row_for (object x) (uids_of p) (tops_of p) (op_mode op)

    other : {P : Type 0} → is_on (uids_of p) w ≡ true → P
    other on = absurd (both_ways (is_on (uids_of p) w) off on)

    rows : (b : Bool) → holds w (cond b c.rows (grant_row new c.rows)) ≡ true → holds w c.rows ≡ true
    rows true on = on
    rows false on =
        only (or_cases (holds w c.rows) (not (has_row new.object (last_uid new.holder) c.rows) && is_on (uids_of p) w) (sym (grant_any new c.rows w) ∙ on))
      where
        only : (holds w c.rows ≡ true) ⊎ ((not (has_row new.object (last_uid new.holder) c.rows) && is_on (uids_of p) w) ≡ true) →
            holds w c.rows ≡ true
        only (inl had) = had
        only (inr came) = other (and_parts (not (has_row new.object (last_uid new.holder) c.rows)) (is_on (uids_of p) w) came).1

    stack : (b : Bool) →
        on_stack w (cond b (written (uids_of p) (tops_of p) (value_after op (current c.base c.stack)) c.stack) c.stack) ≡ true →
        on_stack w c.stack ≡ true
    stack false on = on
    stack true on = only (written_on w (uids_of p) (tops_of p) (value_after op (current c.base c.stack)) c.stack on)
      where
        only : (is_on (uids_of p) w ≡ true) ⊎ (on_stack w c.stack ≡ true) → on_stack w c.stack ≡ true
        only (inl came) = other came
        only (inr had) = had

-- ---- what uses an object

no_over : (u : Uid) (es : List Over) → uid_eq nobody u ≡ false → on_stack u es ≡ false → over_of u es ≡ None
no_over u [] someone none = refl
no_over u (e ∷ es) someone none =
    let p = or_parts (is_on e.holder u) (on_stack u es) none in
    rw (not_last e.holder u someone p.0) (no_over u es someone p.1)

-- who made a state of an object uses it
pub no_state : (top : Uid) (x : ℕ) (c : Copy) → touches top c ≡ false → changed_state top x c ≡ None
no_state top x c none =
    let p = unknown top c none in
    ap (option_map (state_over top x c)) (no_over top c.stack p.0 p.1.overlays)

on_take : (n : ℕ) (us : List Uid) (u : Uid) → is_on (take n us) u ≡ true → is_on us u ≡ true
on_take zero us u on = absurd (cc on)
on_take (suc n) [] u on = absurd (cc on)
on_take (suc n) (w ∷ us) u on = by (uid_eq w u) (on_take n us u) on
  where
    by : (b : Bool) → (is_on (take n us) u ≡ true → is_on us u ≡ true) → (b || is_on (take n us) u) ≡ true → (b || is_on us u) ≡ true
    by true ih on = refl
    by false ih on = ih on

top_holds : (u : Uid) (rows : List Row) → is_top_in u rows ≡ true → holds u rows ≡ true
top_holds u [] on = on
top_holds u (r ∷ rows) on = by (or_cases (is_on (take r.tops r.holder) u) (is_top_in u rows) on) (top_holds u rows)
  where
    by : (is_on (take r.tops r.holder) u ≡ true) ⊎ (is_top_in u rows ≡ true) → (is_top_in u rows ≡ true → holds u rows ≡ true) →
        (is_on r.holder u || holds u rows) ≡ true
    by (inl here) ih = or_left (is_on r.holder u) (holds u rows) (on_take r.tops r.holder u here)
    by (inr there) ih = or_right (is_on r.holder u) (holds u rows) (ih there)

pub held_touches : (u : Uid) (c : Copy) → holds u c.rows ≡ true → touches u c ≡ true
held_touches u c on = or_right (uid_eq nobody u) (holds u c.rows || on_stack u c.stack) (or_left (holds u c.rows) (on_stack u c.stack) on)

pub top_touches : (u : Uid) (c : Copy) → is_top_in u c.rows ≡ true → touches u c ≡ true
top_touches u c on = held_touches u c (top_holds u c.rows on)
