use Rattle.std.proofs.Common.{◌≡◌, ◌∙◌, true, ap, inl, inr, sym, subst}
use Rattle.std.proofs.Math.Logic.{⊎_elim}
use Rattle.arj_naming.proofs.Apart.{apart_excluded}
use Rattle.arj_naming.proofs.Indexed.{changed_indexed}
use Rattle.arj_naming.proofs.Puts.{locked_part}
use Rattle.arj_naming.specs.Bound.{live_in}
use Rattle.arj_naming.specs.Touched.{IsApart, IsOff, is_touched}
use Rattle.arj_protocol.specs.Named.{Named, locked}
use Rattle.arj_protocol.specs.Naming.{Naming}
use Rattle.arj_protocol.specs.Words.mode
use Rattle.arj_naming.proofs.part.Part.lock_in.Goals as goal

pub returns-in-Ok-clause-part : goal.returns-in-Ok-clause-part
returns-in-Ok-clause-part c =
    let part = c.self.inside in
    let inside : Naming =
    record {
      inc = part.counter.inc;
      count = part.counter.count;
      objects = part.objects.entries;
      confirmed = part.confirmed.keys;
      told =
          part.told.keys;
    } in
    locked_part inside c.args.self.now c.self.view_is c.args.x c.in-Some.object.now (c.get_mut.follows.lender c.exclude.new.self).entries (sym c.in-Some.ensures.value) c.get_mut.ensures.ordered c.args.path.now c.exclude.new.self
    (c.get_mut.follows.holds c.exclude.new.self).0 c.in-Ok.ensures.object

pub invariant_of-self-in-Ok : goal.invariant_of-self-in-Ok
invariant_of-self-in-Ok c =
    let x = c.args.x in
    let p = c.args.path.now in
    let o = c.in-Some.object.now in
    let new = c.exclude.new.self in
    let at = sym c.in-Some.ensures.value in
    let is : new ≡ locked x p mode.Exclude o = c.in-Ok.ensures.object in
    let part = c.self.inside in
    let more = c.touch_path.new.touched.entries in
    changed_indexed x o new part.objects.entries (c.get_mut.follows.lender new).entries at (c.get_mut.follows.holds new).0 part.touched.entries more part.bound.entries part.bound.entries c.touch_path.ensures.kept (λ n q on. on) c.self.invariant
    (λ u apart. ⊎_elim (λ (off : IsOff u p). inl (subst (IsApart u) (sym is) (apart_excluded u x p o off apart))) (λ (on : is_touched more u x ≡ true). inr on) (c.in_ok-touch_path.ensures.here u))
    (λ l live. c.self.invariant.bound x l (ap live_in at ∙ (ap (λ (n : Named). n.live) (sym is) ∙ live)))
