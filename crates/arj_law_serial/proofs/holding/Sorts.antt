-- Lines by kinds: those that begin an action, do something to locks, or start or stop a node, and all others.
use Rattle.arj_law_parts.proofs.Words
use Words.{◌≡◌, ◌==◌, ℕ, Bool, true, false, List, Option, refl, not, Row, Body, Kind, Part, Binding, End, Label, Mode, Uid, Holders}
use Words.{rows_by}
use Rattle.arj_law_serial.proofs.Terms
use Terms.{Act, acts_after, table_step, up_step, is_steady}
use Terms.body

-- the line says nothing of another node's locks, nor that it starts or stops
abbrev pub is_of : ℕ → Body → Bool
is_of n (body.Granted m u o how) = m == n
is_of n (body.Lowered m u o) = m == n
is_of n (body.Active m x b) = m == n
is_of n (body.Told m u e p) = m == n
is_of n (body.Halted m) = m == n
is_of n (body.Up m i) = m == n
is_of n b = true

-- the line doesn't say that this node is up
abbrev pub is_no_start : ℕ → Body → Bool
is_no_start n (body.Up m i) = not (m == n)
is_no_start n b = true

-- the line says nothing of locks, and of no node that it starts or stops
abbrev pub is_free : Body → Bool
is_free (body.Granted m u o how) = false
is_free (body.Lowered m u o) = false
is_free (body.Active m x b) = false
is_free (body.Told m u e p) = false
is_free (body.Halted m) = false
is_free (body.Up m i) = false
is_free b = true

-- A line of any other kind: it changes no table, starts no node and begins no action.
pub record IsPlain (b : Body) : Type 0 where
  pub table : (n : ℕ) (begun : List Act) (up event : ℕ) (rows : List Row) → table_step n begun up event b rows ≡ rows
  pub starts : (n event up : ℕ) → up_step n event b up ≡ up
  pub acts : (begun : List Act) → acts_after begun b ≡ begun
  pub rows : (h : Holders) (n : ℕ) (p : Part) (o : Uid) (rows : List Row) → rows_by h n p o b rows ≡ rows
  pub of : (n : ℕ) → is_of n b ≡ true
  pub none : (n : ℕ) → is_no_start n b ≡ true
  pub steady : is_steady b ≡ true
  pub free : is_free b ≡ true

-- by cases
pub by_kind : (P : Body → Type 0) → ((b : Body) → IsPlain b → P b) → ((l : Label) (k : Kind) (u : Uid) (p : Option Label) →
    P (body.Began l k u p)) → ((m : ℕ) (u o : Uid) (how : Mode) → P (body.Granted m u o how)) →
    ((m : ℕ) (u o : Uid) → P (body.Lowered m u o)) → ((m x : ℕ) (c : Binding) → P (body.Active m x c))
    → ((m : ℕ) (u : Uid) (e : End) (q : Part) → P (body.Told m u e q)) → ((m : ℕ) → P (body.Halted m)) → ((m i : ℕ) → P (body.Up m i)) →
    (b : Body) → P b
by_kind P plain began granted lowered active told halted up (body.Began a b c d) = began a b c d
by_kind P plain began granted lowered active told halted up (body.Ok a b c d) = plain (body.Ok a b c d) (record {
  table = λ n begun now event rows. refl;
  starts = λ n event now. refl;
  acts = λ begun. refl;
  rows = λ h n p o rows. refl;
  of = λ n. refl;
  none = λ n. refl;
  steady = refl;
  free = refl;
})
by_kind P plain began granted lowered active told halted up (body.Includes a b c) = plain (body.Includes a b c) (record {
  table = λ n begun now event rows. refl;
  starts = λ n event now. refl;
  acts = λ begun. refl;
  rows = λ h n p o rows. refl;
  of = λ n. refl;
  none = λ n. refl;
  steady = refl;
  free = refl;
})
by_kind P plain began granted lowered active told halted up (body.Conflict a b c d) = plain (body.Conflict a b c d) (record {
  table = λ n begun now event rows. refl;
  starts = λ n event now. refl;
  acts = λ begun. refl;
  rows = λ h n p o rows. refl;
  of = λ n. refl;
  none = λ n. refl;
  steady = refl;
  free = refl;
})
by_kind P plain began granted lowered active told halted up (body.Lost a b) = plain (body.Lost a b) (record {
  table = λ n begun now event rows. refl;
  starts = λ n event now. refl;
  acts = λ begun. refl;
  rows = λ h n p o rows. refl;
  of = λ n. refl;
  none = λ n. refl;
  steady = refl;
  free = refl;
})
by_kind P plain began granted lowered active told halted up (body.Changed a b c) = plain (body.Changed a b c) (record {
  table = λ n begun now event rows. refl;
  starts = λ n event now. refl;
  acts = λ begun. refl;
  rows = λ h n p o rows. refl;
  of = λ n. refl;
  none = λ n. refl;
  steady = refl;
  free = refl;
})
by_kind P plain began granted lowered active told halted up (body.Committing a) = plain (body.Committing a) (record {
  table = λ n begun now event rows. refl;
  starts = λ n event now. refl;
  acts = λ begun. refl;
  rows = λ h n p o rows. refl;
  of = λ n. refl;
  none = λ n. refl;
  steady = refl;
  free = refl;
})
by_kind P plain began granted lowered active told halted up (body.Committed a) = plain (body.Committed a) (record {
  table = λ n begun now event rows. refl;
  starts = λ n event now. refl;
  acts = λ begun. refl;
  rows = λ h n p o rows. refl;
  of = λ n. refl;
  none = λ n. refl;
  steady = refl;
  free = refl;
})
by_kind P plain began granted lowered active told halted up (body.Ended a) = plain (body.Ended a) (record {
  table = λ n begun now event rows. refl;
  starts = λ n event now. refl;
  acts = λ begun. refl;
  rows = λ h n p o rows. refl;
  of = λ n. refl;
  none = λ n. refl;
  steady = refl;
  free = refl;
})
by_kind P plain began granted lowered active told halted up (body.Aborted a b) = plain (body.Aborted a b) (record {
  table = λ n begun now event rows. refl;
  starts = λ n event now. refl;
  acts = λ begun. refl;
  rows = λ h n p o rows. refl;
  of = λ n. refl;
  none = λ n. refl;
  steady = refl;
  free = refl;
})
by_kind P plain began granted lowered active told halted up (body.GaveUp a b) = plain (body.GaveUp a b) (record {
  table = λ n begun now event rows. refl;
  starts = λ n event now. refl;
  acts = λ begun. refl;
  rows = λ h n p o rows. refl;
  of = λ n. refl;
  none = λ n. refl;
  steady = refl;
  free = refl;
})
by_kind P plain began granted lowered active told halted up (body.Excluded a b c) = plain (body.Excluded a b c) (record {
  table = λ n begun now event rows. refl;
  starts = λ n event now. refl;
  acts = λ begun. refl;
  rows = λ h n p o rows. refl;
  of = λ n. refl;
  none = λ n. refl;
  steady = refl;
  free = refl;
})
by_kind P plain began granted lowered active told halted up (body.Granted a b c d) = granted a b c d
by_kind P plain began granted lowered active told halted up (body.Lowered a b c) = lowered a b c
by_kind P plain began granted lowered active told halted up (body.Bound a b c) = plain (body.Bound a b c) (record {
  table = λ n begun now event rows. refl;
  starts = λ n event now. refl;
  acts = λ begun. refl;
  rows = λ h n p o rows. refl;
  of = λ n. refl;
  none = λ n. refl;
  steady = refl;
  free = refl;
})
by_kind P plain began granted lowered active told halted up (body.Active a b c) = active a b c
by_kind P plain began granted lowered active told halted up (body.Told a b c d) = told a b c d
by_kind P plain began granted lowered active told halted up (body.Prepared a b c) = plain (body.Prepared a b c) (record {
  table = λ n begun now event rows. refl;
  starts = λ n event now. refl;
  acts = λ begun. refl;
  rows = λ h n p o rows. refl;
  of = λ n. refl;
  none = λ n. refl;
  steady = refl;
  free = refl;
})
by_kind P plain began granted lowered active told halted up (body.Done a b c d) = plain (body.Done a b c d) (record {
  table = λ n begun now event rows. refl;
  starts = λ n event now. refl;
  acts = λ begun. refl;
  rows = λ h n p o rows. refl;
  of = λ n. refl;
  none = λ n. refl;
  steady = refl;
  free = refl;
})
by_kind P plain began granted lowered active told halted up (body.Sent a b c d) = plain (body.Sent a b c d) (record {
  table = λ n begun now event rows. refl;
  starts = λ n event now. refl;
  acts = λ begun. refl;
  rows = λ h n p o rows. refl;
  of = λ n. refl;
  none = λ n. refl;
  steady = refl;
  free = refl;
})
by_kind P plain began granted lowered active told halted up (body.Got a) = plain (body.Got a) (record {
  table = λ n begun now event rows. refl;
  starts = λ n event now. refl;
  acts = λ begun. refl;
  rows = λ h n p o rows. refl;
  of = λ n. refl;
  none = λ n. refl;
  steady = refl;
  free = refl;
})
by_kind P plain began granted lowered active told halted up (body.Void a) = plain (body.Void a) (record {
  table = λ n begun now event rows. refl;
  starts = λ n event now. refl;
  acts = λ begun. refl;
  rows = λ h n p o rows. refl;
  of = λ n. refl;
  none = λ n. refl;
  steady = refl;
  free = refl;
})
by_kind P plain began granted lowered active told halted up (body.Dropped a) = plain (body.Dropped a) (record {
  table = λ n begun now event rows. refl;
  starts = λ n event now. refl;
  acts = λ begun. refl;
  rows = λ h n p o rows. refl;
  of = λ n. refl;
  none = λ n. refl;
  steady = refl;
  free = refl;
})
by_kind P plain began granted lowered active told halted up (body.Halted a) = halted a
by_kind P plain began granted lowered active told halted up (body.Up a b) = up a b
by_kind P plain began granted lowered active told halted up (body.Armed a) = plain (body.Armed a) (record {
  table = λ n begun now event rows. refl;
  starts = λ n event now. refl;
  acts = λ begun. refl;
  rows = λ h n p o rows. refl;
  of = λ n. refl;
  none = λ n. refl;
  steady = refl;
  free = refl;
})
by_kind P plain began granted lowered active told halted up (body.Recovered a b) = plain (body.Recovered a b) (record {
  table = λ n begun now event rows. refl;
  starts = λ n event now. refl;
  acts = λ begun. refl;
  rows = λ h n p o rows. refl;
  of = λ n. refl;
  none = λ n. refl;
  steady = refl;
  free = refl;
})
by_kind P plain began granted lowered active told halted up (body.Refused a) = plain (body.Refused a) (record {
  table = λ n begun now event rows. refl;
  starts = λ n event now. refl;
  acts = λ begun. refl;
  rows = λ h n p o rows. refl;
  of = λ n. refl;
  none = λ n. refl;
  steady = refl;
  free = refl;
})
by_kind P plain began granted lowered active told halted up (body.Entry a b c d) = plain (body.Entry a b c d) (record {
  table = λ n begun now event rows. refl;
  starts = λ n event now. refl;
  acts = λ begun. refl;
  rows = λ h n p o rows. refl;
  of = λ n. refl;
  none = λ n. refl;
  steady = refl;
  free = refl;
})
by_kind P plain began granted lowered active told halted up (body.Copy a b c d e) = plain (body.Copy a b c d e) (record {
  table = λ n begun now event rows. refl;
  starts = λ n event now. refl;
  acts = λ begun. refl;
  rows = λ h n p o rows. refl;
  of = λ n. refl;
  none = λ n. refl;
  steady = refl;
  free = refl;
})
by_kind P plain began granted lowered active told halted up (body.Quiet a) = plain (body.Quiet a) (record {
  table = λ n begun now event rows. refl;
  starts = λ n event now. refl;
  acts = λ begun. refl;
  rows = λ h n p o rows. refl;
  of = λ n. refl;
  none = λ n. refl;
  steady = refl;
  free = refl;
})
by_kind P plain began granted lowered active told halted up (body.Bad a) = plain (body.Bad a) (record {
  table = λ n begun now event rows. refl;
  starts = λ n event now. refl;
  acts = λ begun. refl;
  rows = λ h n p o rows. refl;
  of = λ n. refl;
  none = λ n. refl;
  steady = refl;
  free = refl;
})
by_kind P plain began granted lowered active told halted up (body.Limit a) = plain (body.Limit a) (record {
  table = λ n begun now event rows. refl;
  starts = λ n event now. refl;
  acts = λ begun. refl;
  rows = λ h n p o rows. refl;
  of = λ n. refl;
  none = λ n. refl;
  steady = refl;
  free = refl;
})
