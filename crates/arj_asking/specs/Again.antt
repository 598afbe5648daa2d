-- What is asked again, by the numbers of the actions that wait.
use Rattle.std.specs.Prelude.{ℕ, List, [], ◌∷◌, ◌++◌}
use Rattle.arj_coord.specs.Waiting.{now_in}
use Rattle.arj_protocol.specs.Asking.{again_now}
use Rattle.arj_protocol.specs.Coord.{Coord, Doing}
use Rattle.arj_protocol.specs.Effect.{Did}
use Rattle.arj_protocol.specs.Tree.{at_place}

-- what the actions of these numbers among all wait for
abbrev pub again_at : List Doing → List ℕ → Coord → Did Coord
again_at all [] c = record { part = c; outs = [] }
again_at all (n ∷ ns) c =
    let t = again_now c (now_in (at_place n all)) in
    let q = again_at all ns t.part in
    record { part = q.part; outs = t.outs ++ q.outs }
