use Rattle.std.proofs.Common.{◌∙◌, arith, ap, refl, sym, subst}
use Rattle.std.specs.Prelude.{not}
use Rattle.std.proofs.Math.Bool.{or-true}
use Rattle.arj_net.specs.Front.{ClosedBelow}
use Rattle.arj_net.specs.Net.{frames, changed_at, as_lost}
use Rattle.arj_net.proofs.Marks.{changed_there, frames_stay, closed_after}
use Rattle.arj_net.proofs.net.Net.lose.Goals as goal

pub front-self-inside-requires-clause-closed : goal.front-self-inside-requires-clause-closed
front-self-inside-requires-clause-closed c =
    subst (λ net. ClosedBelow net c.self.inside.closed) (sym c.deref.ensures.value)
    (closed_after c.self.inside.sent.items c.in-Some.place c.self.inside.closed (as_lost c.index_mut.result.now) (ap not (or-true c.index_mut.result.now.delivered)) c.self.invariant.front.closed)

pub returns-clause-net : goal.returns-clause-net
returns-clause-net c =
    changed_there as_lost c.self.inside.sent.items c.args.k c.in-Some.place c.index_mut.result.now (omega arith) (omega arith) (omega arith) c.index_mut.ensures.value
    ∙ ap (λ net. changed_at as_lost net c.args.k) c.self.view_is

pub returns-clause-frames : goal.returns-clause-frames
returns-clause-frames c =
    frames_stay as_lost c.self.inside.sent.items c.in-Some.place c.index_mut.result.now refl c.index_mut.ensures.value ∙ ap frames c.self.view_is
