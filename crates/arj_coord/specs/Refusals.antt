-- The refusals of calls and includes, by the class of the object, None where the header has no such object.
use Rattle.std.specs.Prelude.{ℕ, Bool, not, ◌||◌, List, [], ◌∷◌, Option, is_some}
use Rattle.arj_protocol.specs.Coord.{Coord}
use Rattle.arj_protocol.specs.Step.{waits_above, waits_below, lacks_op}
use Rattle.arj_protocol.specs.Tree.{Branch, has_many_objects}
use Rattle.arj_protocol.specs.Words.{Class, Op}
use Rattle.arj_start.specs.Kinds.{is_serial}

-- an action calls an object
abbrev pub reasons_of_call : Option Class → ℕ → Op → Branch → Coord → List (ℕ × Bool)
reasons_of_call k x o b c =
    (6, is_some b.ended) ∷ (7, waits_above b c || waits_below b c) ∷ (11, is_serial b.kind) ∷ (12, b.doomed)
    ∷ (13, not (is_some k)) ∷ (14, lacks_op o k) ∷ (16, has_many_objects b x c.tree) ∷ []

-- an action includes a store of an object
abbrev pub reasons_of_include : Option Class → ℕ → Branch → Coord → List (ℕ × Bool)
reasons_of_include k x b c =
    (6, is_some b.ended) ∷ (7, waits_above b c || waits_below b c) ∷ (11, is_serial b.kind) ∷ (12, b.doomed)
    ∷ (13, not (is_some k)) ∷ (16, has_many_objects b x c.tree) ∷ []
