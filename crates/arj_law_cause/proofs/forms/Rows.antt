-- Whoever holds locks is such: kept as locks are granted, raised, lowered, passed and dropped.
use Rattle.arj_law_parts.proofs.Words
use Words.{◌≡◌, ◌||◌, ℕ, zero, suc, Bool, true, false, cond, not, take, find, List, [], ◌∷◌, Option, Some, None, IfSome, refl, subst}
use Words.{list_any, uid_eq, uid_is, AllByRecursion, Uid, Path, Row, before_last, front, is_on, last_uid, uids_of, tops_of, actor, top_of, top_path}
use Words.{rows_asked, is_granted}
use Words.mode
use Rattle.arj_base.specs.Rows.{drop_rows, grant_row, handed_on, has_row, is_held_by, is_row_of, lower_row, pass_rows, passed, renamed}
use Rattle.arj_base.specs.Rows.{goes_to, strengthened}
use Rattle.arj_base.specs.Mode.{stronger}
use Rattle.arj_base.specs.Uid.{nobody}
use Rattle.arj_law_runs.proofs.addresses.Lists.{all_filter, all_map, all_some}

module _ (U : Uid → Type 0) (none : U nobody) where
  abbrev pub UidsSo : List Uid → Type 0
  UidsSo us = AllByRecursion U us

  -- the holder of a lock
  abbrev pub RowSo : Row → Type 0
  RowSo r = AllByRecursion U r.holder

  abbrev pub RowsSo : List Row → Type 0
  RowsSo rows = AllByRecursion RowSo rows

  pub last_so : (us : List Uid) → UidsSo us → U (last_uid us)
  last_so [] all = none
  last_so (u ∷ []) all = all.0
  last_so (u ∷ w ∷ us) all = last_so (w ∷ us) all.1

  take_so : (n : ℕ) (us : List Uid) → UidsSo us → UidsSo (take n us)
  take_so zero us all = tt
  take_so (suc n) [] all = tt
  take_so (suc n) (u ∷ us) all = (all.0, take_so n us all.1)

  front_so : (us : List Uid) → UidsSo us → UidsSo (front us)
  front_so [] all = tt
  front_so (u ∷ []) all = tt
  front_so (u ∷ w ∷ us) all = (all.0, front_so (w ∷ us) all.1)

  pub actor_so : (p : Path) → UidsSo (uids_of p) → U (actor p)
  actor_so p all = last_so (uids_of p) all

  pub tops_so : (p : Path) → UidsSo (uids_of p) → UidsSo (top_path p)
  tops_so p all = take_so (tops_of p) (uids_of p) all

  pub top_so : (p : Path) → UidsSo (uids_of p) → U (top_of p)
  top_so p all = last_so (top_path p) (tops_so p all)

  -- an action on a path
  on_so : (us : List Uid) (u : Uid) → UidsSo us → is_on us u ≡ true → U u
  on_so [] u all on = absurd (cc on)
  on_so (w ∷ us) u all on = by (uid_eq w u) refl on (on_so us u all.1)
    where
      by : (b : Bool) → uid_eq w u ≡ b → (b || is_on us u) ≡ true → (is_on us u ≡ true → U u) → U u
      by true same here ih = subst U (uid_is w u same) all.0
      by false apart here ih = ih here

  -- ---- locks

  grant_so : (new : Row) (rows : List Row) → RowSo new → RowsSo rows → RowsSo (grant_row new rows)
  grant_so new [] its all = (its, tt)
  grant_so new (r ∷ rs) its all = by (is_row_of new.object (last_uid new.holder) r) (grant_so new rs its all.1)
    where
      by : (b : Bool) → RowsSo (grant_row new rs) → RowsSo (cond b (record r { mode = stronger r.mode new.mode } ∷ rs) (r ∷ grant_row new rs))
      by true ih = all
      by false ih = (all.0, ih)

  pub asked_so : (new : Row) (rows : List Row) → RowSo new → RowsSo rows → RowsSo (rows_asked new rows)
  asked_so new rows its all = by (is_granted new.object (last_uid new.holder) new.mode rows)
    where
      by : (b : Bool) → RowsSo (cond b rows (grant_row new rows))
      by true = all
      by false = grant_so new rows its all

  pub dropped_so : (u : Uid) (rows : List Row) → RowsSo rows → RowsSo (drop_rows u rows)
  dropped_so u rows all = all_filter RowSo (λ row. not (is_on row.holder u)) rows all

  pub lowered_so : (top x : Uid) (rows : List Row) → RowsSo rows → RowsSo (lower_row top x rows)
  lowered_so top x rows all = all_map RowSo RowSo _ rows (λ row its. by row (is_row_of x top row) its) all
    where
      by : (row : Row) (b : Bool) → RowSo row → RowSo (cond b (record row { mode = mode.Read }) row)
      by row true its = its
      by row false its = its

  pub passed_so : (u : Uid) (rows : List Row) → RowsSo rows → RowsSo (pass_rows u rows)
  passed_so u rows all = all_some RowSo RowSo (passed u rows) rows (λ row its. by row (is_held_by u row) its) all
    where
      strong : (row : Row) (o : Option Row) → RowSo row → RowSo (strengthened row o)
      strong row None its = its
      strong row (Some r) its = its

      heir : (row : Row) (o : Option Uid) → RowSo row → IfSome (handed_on rows row o) RowSo
      heir row None its = tt
      heir row (Some h) its = one (has_row row.object h rows)
        where
          one : (b : Bool) → IfSome (cond b None (Some (renamed row))) RowSo
          one true = tt
          one false = front_so row.holder its

      by : (row : Row) (b : Bool) → RowSo row →
          IfSome (cond b (handed_on rows row (before_last row.holder)) (Some (strengthened row (find (goes_to u row) rows)))) RowSo
      by row true its = heir row (before_last row.holder) its
      by row false its = strong row (find (goes_to u row) rows) its

  -- whoever has a lock, or stands above one who has
  pub holder_so : (u : Uid) (rows : List Row) → RowsSo rows → list_any (λ r. is_on r.holder u) rows ≡ true → U u
  holder_so u [] all on = absurd (cc on)
  holder_so u (r ∷ rs) all on = by (is_on r.holder u) refl on (holder_so u rs all.1)
    where
      by : (b : Bool) → is_on r.holder u ≡ b → (b || list_any (λ s. is_on s.holder u) rs) ≡ true →
          (list_any (λ s. is_on s.holder u) rs ≡ true → U u) → U u
      by true mine here ih = on_so r.holder u all.0 mine
      by false apart here ih = ih here

  -- a lock that is found
  pub found_so : (test : Row → Bool) (rows : List Row) → RowsSo rows → IfSome (find test rows) RowSo
  found_so test [] all = tt
  found_so test (r ∷ rs) all = by (test r) (found_so test rs all.1)
    where
      by : (b : Bool) → IfSome (find test rs) RowSo → IfSome (cond b (Some r) (find test rs)) RowSo
      by true ih = all.0
      by false ih = ih
