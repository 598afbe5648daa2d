use Rattle.std.proofs.Common.{◌≡◌, ℕ, Bool, List, ◌<◌, length, Option, Some, None, sym, arith}
use Rattle.std.specs.Prelude.{IfSome}
use Rattle.arj_protocol.specs.Coord as coord
use Rattle.arj_root.specs.Merged.{place_of}
use Rattle.arj_root.proofs.Placed.{found_place, place_within}
use Rattle.arj_root.proofs.grants.Grants.find.Goals as goal

pub returns-clause-place : goal.returns-clause-place
returns-clause-place c =
    found_place c.self.inside.places c.self.inside.grants.items c.args.self.now c.args.top c.args.x c.place.result c.self.invariant c.self.view_is c.place.ensures

inside : (test : coord.Grant → Bool) (gs : List coord.Grant) (o : Option ℕ) → o ≡ place_of test 0 gs → IfSome o (λ at. at < length gs)
inside test gs None is = tt
inside test gs (Some at) is = omega (arith, place_within test 0 at gs (sym is))

pub returns-clause-within : goal.returns-clause-within
returns-clause-within c =
    inside (coord.is_grant_of c.args.top c.args.x) c.args.self.now c.place.result
    (found_place c.self.inside.places c.self.inside.grants.items c.args.self.now c.args.top c.args.x c.place.result c.self.invariant c.self.view_is c.place.ensures)
