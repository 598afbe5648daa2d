-- The journal, tied to the machine's state that is seen.
use Rattle.std.specs.Prelude.{◌≡◌, None, ℕ, List}
use Rattle.std.specs.List.{AllByRecursion}
use Rattle.arj_model.specs.Actions.{begun_of}
use Rattle.arj_model.specs.Serial.{Values}
use Rattle.arj_protocol.specs.Words.{Body, Line}
use Rattle.arj_law_lock.specs.machine.State.{State}
use Rattle.arj_law_lock_view.specs.journal.Lines.{IsTiedToLines}
use Rattle.arj_law_lock_view.specs.running.Fixed.{Fixed, StandsFor}

-- The lines are tied to the state, whatever the first values of objects are of which the machine's is the object's, and whoever wrote it.
abbrev pub AreTied : Fixed → ℕ → List Line → State → Type 0
AreTied f x lines S = (values : Values) → StandsFor f (values x) → IsTiedToLines f.act f.code values x lines S

-- at these lines no action begins
abbrev pub BeginNone : List Body → Type 0
BeginNone bs = AllByRecursion (λ b. begun_of b ≡ None) bs
