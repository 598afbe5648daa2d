use Rattle.std.proofs.Common.{◌≡◌, List, map, drop}
use Rattle.std.specs.List.{AllByRecursion}
use Rattle.arj_model.specs.Calls.{Call}
use Rattle.arj_model.specs.Last.{first_values}
use Rattle.arj_model.specs.Serial.{Values, run}
use Rattle.arj_replay.specs.Verdict.{HasCall, HasValues}
use Rattle.arj_replay.proofs.run.values_after.Given as goal

abbrev pub invariant-loop-place : goal.invariant-loop-place
invariant-loop-place l = (calls : List Call) → map (λ c. c.at) calls ≡ l.places → AllByRecursion (HasCall l.header l.lines) calls
    → (all : Values) × HasValues l.header all l.values × (run all (drop l.place-index calls) ≡ run (first_values l.header) calls)
