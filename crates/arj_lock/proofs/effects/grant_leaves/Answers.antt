use Rattle.std.proofs.Common.{◌≡◌, ◌⊎◌, true, Contains, List, inl, inr}
use Rattle.arj_base.specs.Mode.{stronger}
use Rattle.arj_base.specs.Rows.{Row, grant_row, is_row_of, last_uid}
use Rattle.arj_lock.proofs.Leaves.{IsRaised, grant_any, grant_clear, grant_each, grant_mode, grant_stays}
use Rattle.arj_lock.proofs.Members.{In, in_from, in_to}
use Rattle.arj_lock.proofs.effects.grant_leaves.Goals as goal

pub returns-clause-mode : goal.returns-clause-mode
returns-clause-mode c = grant_mode

pub returns-clause-any : goal.returns-clause-any
returns-clause-any c = grant_any

pub returns-clause-stays : goal.returns-clause-stays
returns-clause-stays c = λ new r rows there other. in_to r (grant_row new rows) (grant_stays new r rows (in_from r rows there) other)

pub returns-clause-each : goal.returns-clause-each
returns-clause-each c = λ new r rows there. by new r rows (grant_each new r rows (in_from r (grant_row new rows) there))
  where
    by : (new r : Row) (rows : List Row) → In r rows ⊎ ((r ≡ new) ⊎ IsRaised new rows r)
        → Contains rows r ⊎ ((r ≡ new) ⊎ ((old : Row) × Contains rows old × (is_row_of new.object (last_uid new.holder) old ≡ true) × (r ≡ record old { mode = stronger old.mode new.mode })))
    by new r rows (inl i) = inl (in_to r rows i)
    by new r rows (inr (inl is)) = inr (inl is)
    by new r rows (inr (inr f)) = inr (inr (f.0, in_to f.0 rows f.1, f.2, f.3))

pub returns-clause-clear : goal.returns-clause-clear
returns-clause-clear c = grant_clear
