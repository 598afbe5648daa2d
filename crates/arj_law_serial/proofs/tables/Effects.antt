-- What effects make of a table's rows on one object, by their lines.
use Rattle.arj_law_parts.proofs.Words.{◌≡◌, ◌++◌, ℕ, List, [], ◌∷◌, true, refl, Row, Body, Line}
use Rattle.arj_law_serial.proofs.Terms
use Terms.{Act, acts_after, acts_from, table_from, table_step, up_step, is_steady, up_from}
use Terms.body

-- the table goes on from what it was
pub goes_on : (n : ℕ) (begun : List Act) (up : ℕ) (rows : List Row) (ls ms : List Line) →
    table_from n begun up rows (ls ++ ms) ≡ table_from n (acts_from begun ls) (up_from n up ls) (table_from n begun up rows ls) ms
goes_on n begun up rows [] ms = refl
goes_on n begun up rows (l ∷ ls) ms =
    goes_on n (acts_after begun l.body) (up_step n l.event l.body up) (table_step n begun up l.event l.body rows) ls ms

-- who was begun, and when the node started, stays
pub acts_stay : (begun : List Act) (b : Body) → is_steady b ≡ true → acts_after begun b ≡ begun
acts_stay begun (body.Began a b c d) is = absurd (cc is)
acts_stay begun (body.Ok a b c d) is = refl
acts_stay begun (body.Includes a b c) is = refl
acts_stay begun (body.Conflict a b c d) is = refl
acts_stay begun (body.Lost a b) is = refl
acts_stay begun (body.Changed a b c) is = refl
acts_stay begun (body.Committing a) is = refl
acts_stay begun (body.Committed a) is = refl
acts_stay begun (body.Ended a) is = refl
acts_stay begun (body.Aborted a b) is = refl
acts_stay begun (body.GaveUp a b) is = refl
acts_stay begun (body.Excluded a b c) is = refl
acts_stay begun (body.Granted a b c d) is = refl
acts_stay begun (body.Lowered a b c) is = refl
acts_stay begun (body.Bound a b c) is = refl
acts_stay begun (body.Active a b c) is = refl
acts_stay begun (body.Told a b c d) is = refl
acts_stay begun (body.Prepared a b c) is = refl
acts_stay begun (body.Done a b c d) is = refl
acts_stay begun (body.Sent a b c d) is = refl
acts_stay begun (body.Got a) is = refl
acts_stay begun (body.Void a) is = refl
acts_stay begun (body.Dropped a) is = refl
acts_stay begun (body.Halted a) is = refl
acts_stay begun (body.Up a b) is = refl
acts_stay begun (body.Armed a) is = refl
acts_stay begun (body.Recovered a b) is = refl
acts_stay begun (body.Refused a) is = refl
acts_stay begun (body.Entry a b c d) is = refl
acts_stay begun (body.Copy a b c d e) is = refl
acts_stay begun (body.Quiet a) is = refl
acts_stay begun (body.Bad a) is = refl
acts_stay begun (body.Limit a) is = refl
