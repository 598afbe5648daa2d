-- How often a node halted by its disk, and not by a crash.
use Rattle.std.specs.Prelude.{◌≡◌, refl, ℕ, List, [], ◌∷◌, map}
use Rattle.arj_model.specs.Past.{nothing_yet}
use Rattle.arj_model.specs.CauseNodes.{count_stops}
use Rattle.arj_cause_tests.proofs.Words.{Run, end_from}
use Rattle.arj_cause_tests.proofs.Worked.{naming_stopped, stop_at_decision_done}

-- so often the disks of these nodes stopped them
abbrev stops : Run → List ℕ → List ℕ
stops r ns = map (λ n. count_stops (end_from nothing_yet r.wrote).accepted (end_from nothing_yet r.wrote).lines n) ns

-- a coordinator's disk stops it once
stopped_once : stops stop_at_decision_done (1 ∷ 2 ∷ []) ≡ 1 ∷ 0 ∷ []
stopped_once = refl

-- naming crashes
crashed : stops naming_stopped (1 ∷ 2 ∷ []) ≡ 0 ∷ 0 ∷ []
crashed = refl
