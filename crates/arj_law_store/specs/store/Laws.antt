-- What a store's calls do with the pair that files give is the protocol's work on the pair.
use Rattle.std.specs.Prelude.{◌≡◌, Bool, List, IfSome}
use Rattle.arj_base.specs.State.{StateInForm}
use Rattle.arj_protocol.specs.Effect.{Pair, held_at}
use Rattle.arj_protocol.specs.Words.{ObjectState}

-- of an object's committed state, if it has one: it is in form, and the object's own
abbrev pub IsOwnAt : Pair → ObjectState → Type 0
IsOwnAt d s = StateInForm s × IfSome (held_at s.uid d) (λ (t : ObjectState). StateInForm t × (t.uid ≡ s.uid))
