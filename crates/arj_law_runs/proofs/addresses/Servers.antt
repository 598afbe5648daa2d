-- Locks, and what a server does with them.
use Rattle.arj_law_parts.proofs.Words
use Words.{◌≡◌, ◌≤◌, ◌<◌, ◌-◌, ◌==◌, ◌||◌, ℕ, zero, suc, List, [], ◌∷◌, Bool, true, false, cond, length, map, nat_lt, not, take, Option}
use Words.{Some, None, refl, arith, IfSome, find, slice_index_or, first_conflict, goes_to, handed_on, has_row, is_held_by, passed, renamed}
use Words.{strengthened, nat_tests, length-take-le, stronger, before_last, nobody, Uid, Binding, End, Head, InvokedReply, ObjectState, Op}
use Words.{Path, Row, VotedReply, What, drop_rows, front, grant_row, is_on, is_row_of, last_uid, lower_row, object, op_mode, pass_rows}
use Words.{tops_of, uids_of, actor, top_of, Copy, ask_copy, end_copy, invoke_copy, is_granted, row_for, rows_asked, run_copy, taken_copy}
use Words.{Served, Did, did_nothing, either, reply, void, at_number, at_uid, binding_eq, binding_less, put_number, Kept, Server, activate}
use Words.{active_binding, apply_ends, changed_by, end_new, end_one, first_unbound, has_ended, invoke, invoke_kept, invoke_new, invoke_now}
use Words.{is_below, is_told, keeps, on_copy, other_inc, row_top, server_holders, told, took_copy, vote, vote_now}
use Words.ending
use Words.mode
use Rattle.arj_law_runs.proofs.Terms.{taken_end, path_length, path_some, all_each, all_put, CopiesOf, PathOf, RowsOf, UidsOf}
use Rattle.arj_law_parts.proofs.parts.LivesNamed.{all_found}
use Rattle.arj_law_runs.proofs.addresses.Lists.{all_filter, all_flat, all_map, all_some}
use Rattle.arj_law_runs.specs.addresses.Addresses.{RowOf}

-- ---- where the top of a path stands

-- the top of a path is on it
pub path_fits : (p : Path) → tops_of p - 1 < length (uids_of p)
path_fits p = omega (arith, path_length p, p.one_top, p.within)

-- as many Uids lead to the top as the path says
pub top_length : (p : Path) → length (take (tops_of p) (uids_of p)) ≡ tops_of p
top_length p = length-take-le (tops_of p) (uids_of p) (omega (arith, path_length p, p.within))

pub top_fits : (p : Path) → tops_of p - 1 < length (take (tops_of p) (uids_of p))
top_fits p = omega (arith, top_length p, p.one_top)

-- and the top of a row that passes
passes_fit : (n t : ℕ) → 1 ≤ n → cond (nat_lt n t) n t - 1 < n
passes_fit n t some = by (nat_lt n t) refl
  where
    by : (b : Bool) → nat_lt n t ≡ b → cond b n t - 1 < n
    by true is = omega (arith, some)
    by false is = let low : t ≤ n = grind (arith, nat_tests, is) in omega (arith, some, low)

front_some : (us : List Uid) {h : Uid} → before_last us ≡ Some h → 1 ≤ length (front us)
front_some [] {h} is = let no_way : ◌≡◌ {A = Option Uid} None (Some h) = is in cc
front_some (u ∷ []) {h} is = let no_way : ◌≡◌ {A = Option Uid} None (Some h) = is in cc
front_some (u ∷ w ∷ us) is = omega arith

module _ (G : ℕ → Type 0) where
  -- ---- Uids

  last_of : (us : List Uid) → 1 ≤ length us → UidsOf G us → G (last_uid us).node
  last_of [] some all = absurd (let z : 1 ≤ 0 = some in omega (arith, z))
  last_of (u ∷ []) some all = all.0
  last_of (u ∷ w ∷ us) some all = last_of (w ∷ us) (omega arith) all.1

  pub actor_of : (p : Path) → PathOf G p → G (actor p).node
  actor_of p all = last_of (uids_of p) (path_some p) all

  pub take_of : (n : ℕ) (us : List Uid) → UidsOf G us → UidsOf G (take n us)
  take_of zero us all = tt
  take_of (suc n) [] all = tt
  take_of (suc n) (u ∷ us) all = (all.0, take_of n us all.1)

  pub top_is : (p : Path) → PathOf G p → G (top_of p).node
  top_is p all = last_of (take (tops_of p) (uids_of p)) (omega (arith, top_length p, p.one_top)) (take_of (tops_of p) (uids_of p) all)

  front_of : (us : List Uid) → UidsOf G us → UidsOf G (front us)
  front_of [] all = tt
  front_of (u ∷ []) all = tt
  front_of (u ∷ w ∷ us) all = (all.0, front_of (w ∷ us) all.1)

  at_of : (us : List Uid) (n : ℕ) → n < length us → UidsOf G us → G (slice_index_or us n nobody).node
  at_of [] n less all = absurd (let z : n < 0 = less in omega (arith, z))
  at_of (u ∷ us) zero less all = all.0
  at_of (u ∷ us) (suc n) less all = at_of us n (omega (arith, less)) all.1

  -- ---- rows

  grant_of : (new : Row) (rows : List Row) → RowOf G new → RowsOf G rows → RowsOf G (grant_row new rows)
  grant_of new [] its all = (its, tt)
  grant_of new (r ∷ rs) its all = by (is_row_of new.object (last_uid new.holder) r) (grant_of new rs its all.1)
    where
      by : (b : Bool) → RowsOf G (grant_row new rs) →
          RowsOf G (cond b (record r { mode = stronger r.mode new.mode } ∷ rs) (r ∷ grant_row new rs))
      by true ih = all
      by false ih = (all.0, ih)

  pub asked_of : (new : Row) (rows : List Row) → RowOf G new → RowsOf G rows → RowsOf G (rows_asked new rows)
  asked_of new rows its all = by (is_granted new.object (last_uid new.holder) new.mode rows)
    where
      by : (b : Bool) → RowsOf G (cond b rows (grant_row new rows))
      by true = all
      by false = grant_of new rows its all

  pub drop_of : (u : Uid) (rows : List Row) → RowsOf G rows → RowsOf G (drop_rows u rows)
  drop_of u rows all = all_filter (RowOf G) (λ row. not (is_on row.holder u)) rows all

  pub lower_of : (top x : Uid) (rows : List Row) → RowsOf G rows → RowsOf G (lower_row top x rows)
  lower_of top x rows all = all_map (RowOf G) (RowOf G) _ rows (λ row its. by row (is_row_of x top row) its) all
    where
      by : (row : Row) (b : Bool) → RowOf G row → RowOf G (cond b (record row { mode = mode.Read }) row)
      by row true its = its
      by row false its = its

  pub pass_of : (u : Uid) (rows : List Row) → RowsOf G rows → RowsOf G (pass_rows u rows)
  pass_of u rows all = all_some (RowOf G) (RowOf G) (passed u rows) rows (λ row its. by row (is_held_by u row) its) all
    where
      strong : (row : Row) (o : Option Row) → RowOf G row → RowOf G (strengthened row o)
      strong row None its = its
      strong row (Some r) its = its

      heir : (row : Row) (o : Option Uid) → before_last row.holder ≡ o → RowOf G row → IfSome (handed_on rows row o) (RowOf G)
      heir row None is its = tt
      heir row (Some h) is its = one (has_row row.object h rows)
        where
          one : (b : Bool) → IfSome (cond b None (Some (renamed row))) (RowOf G)
          one true = tt
          one false = (front_of row.holder its.0, passes_fit (length (front row.holder)) row.tops (front_some row.holder is))

      by : (row : Row) (b : Bool) → RowOf G row →
          IfSome (cond b (handed_on rows row (before_last row.holder)) (Some (strengthened row (find (goes_to u row) rows)))) (RowOf G)
      by row true its = heir row (before_last row.holder) refl its
      by row false its = strong row (find (goes_to u row) rows) its

  -- whom a question is about
  pub tops_of_rows : (rows : List Row) → RowsOf G rows → UidsOf G (map row_top rows)
  tops_of_rows rows all = all_map (RowOf G) (λ (u : Uid). G u.node) row_top rows (λ r its. at_of r.holder (r.tops - 1) its.1 its.0) all

  -- ---- a server

  abbrev IsOf : Copy → Type 0
  IsOf c = RowsOf G c.rows

  abbrev All : Server → Type 0
  All s = CopiesOf G s.objects

  pub holders_of : (s : Server) → All s → UidsOf G (server_holders s)
  holders_of s all = all_flat (λ (e : ℕ × Copy). IsOf e.1) (λ (u : Uid). G u.node) (λ (e : ℕ × Copy). map row_top e.1.rows) s.objects
      (λ e its. tops_of_rows e.1.rows its) all

  pub activate_of : (n : ℕ) (p : Path) (b : Binding) (st : ObjectState) (s : Server) → All s → All (activate n p b st s).part
  activate_of n p b st s all =
      by (has_ended p s) (binding_less b (active_binding st.uid.num s)) (binding_eq b (active_binding st.uid.num s))
    where
      by : (over lower equal : Bool) →
          All (cond {A = Served Server ℕ} (over || lower) (void s) (cond equal (reply s s.inc) (took_copy n st.uid.num b st s))).part
      by true lower equal = all
      by false true equal = all
      by false false true = all
      by false false false = all_put IsOf st.uid.num (taken_copy b st) s.objects tt all

  end_of : (u : Uid) (e : End) (c : Copy) → IsOf c → IsOf (end_copy u e c)
  end_of u ending.Commit c its = pass_of u c.rows its
  end_of u ending.Abort c its = drop_of u c.rows its

  end_one_of : (n : ℕ) (u : Uid) (e : End) (s : Server) → All s → All (end_one n u e s).part
  end_one_of n u e s all = by (is_told u s)
    where
      by : (b : Bool) → All (cond {A = Did Server} b (did_nothing s) (end_new n u (taken_end u e s) s)).part
      by true = all
      by false = all_each IsOf (λ x. end_copy u (taken_end u e s)) (λ x c its. end_of u (taken_end u e s) c its) s.objects all

  pub told_of : (n : ℕ) (es : List (Uid × End)) (s : Server) → All s → All (told n es s).part
  told_of n [] s all = all
  told_of n (e ∷ es) s all = told_of n es (end_one n e.0 e.1 s).part (end_one_of n e.0 e.1 s all)

  on_copy_of : (n : ℕ) (p : Path) (x : ℕ) (o : Op) (s : Server) → PathOf G p → All s → (f : Option Copy) → at_number x s.objects ≡ f →
      All (on_copy x (invoke_copy n p x o) s f).part
  on_copy_of n p x o s path all None there = all
  on_copy_of n p x o s path all (Some c) there = by (first_conflict (uids_of p) (object x) (op_mode o) c.rows)
    where
      its : IsOf c
      its = all_found IsOf x s.objects c all there

      by : (r : Option Row) → All (let a = ask_copy n p x o c r in record s { objects = put_number x a.part s.objects })
      by None = all_put IsOf x (run_copy n p x o c).part s.objects
          (asked_of (row_for (object x) (uids_of p) (tops_of p) (op_mode o)) c.rows (path, path_fits p) its) all
      by (Some r) = all_put IsOf x c s.objects its all

  pub invoke_of : (n : ℕ) (h : Head) (x : ℕ) (b : Binding) (i : ℕ) (ends : List (Uid × End)) (o : Op) (s : Server) → PathOf G h.path →
      All s → All (invoke n h x b i ends o s).part
  invoke_of n h x b i ends o s path all = by (has_ended h.path s || is_below h.req (at_uid (actor h.path) s.kept))
    where
      Left : Served Server InvokedReply → Type 0
      Left r = All r.part

      stays : (act : Uid) (req : ℕ) (a : Option InvokedReply) (v : Server) → All v → All (keeps act req a v)
      stays act req None v its = its
      stays act req (Some a) v its = its

      new : Left (invoke_new n h x ends o s)
      new =
          let t = (apply_ends n ends s).part in
          let r = on_copy x (invoke_copy n h.path x o) t (at_number x t.objects) in
          stays (actor h.path) h.req r.reply r.part (on_copy_of n h.path x o t path (told_of n ends s all) (at_number x t.objects) refl)

      kept : (k : Option Kept) → Left (invoke_kept n h x ends o s k)
      kept None = new
      kept (Some k) = one (k.req == h.req)
        where
          one : (c : Bool) → Left (cond {A = Served Server InvokedReply} c (reply s k.answer) (invoke_new n h x ends o s))
          one true = all
          one false = new

      now : (w : Option What) → Left (invoke_now n h x ends o s w)
      now (Some w) = all
      now None = kept (at_uid (actor h.path) s.kept)

      by : (c : Bool) → Left (cond {A = Served Server InvokedReply} c (void s) (invoke_now n h x ends o s (changed_by i x b s)))
      by true = all
      by false = now (changed_by i x b s)

  pub vote_of : (n : ℕ) (p : Path) (i : ℕ) (ties : List (ℕ × Binding)) (ends : List (Uid × End)) (s : Server) → All s →
      All (vote n p i ties ends s).part
  vote_of n p i ties ends s all = by (has_ended p s)
    where
      now : (w : Option What) → All (vote_now n (actor p) ends s w).part
      now (Some w) = all
      now None = told_of n ends s all

      by : (b : Bool) → All (cond {A = Served Server VotedReply} b (void s)
          (vote_now n (actor p) ends s (either (other_inc i s.inc) (first_unbound ties s)))).part
      by true = all
      by false = now (either (other_inc i s.inc) (first_unbound ties s))
