use Rattle.std.proofs.Common.{◌≡◌, ◌∙◌, true, ap, inl, inr, sym, subst, refl}
use Rattle.std.proofs.Math.Logic.{⊎_elim}
use Rattle.arj_naming.proofs.Apart.{apart_bound, bound_live}
use Rattle.arj_naming.proofs.Indexed.{changed_indexed}
use Rattle.arj_naming.proofs.Puts.{bound_part}
use Rattle.arj_naming.specs.Bound.{live_in}
use Rattle.arj_naming.specs.Touched.{IsApart, IsOff, is_touched}
use Rattle.arj_protocol.specs.Named.{Counted, Named, bind_named}
use Rattle.arj_protocol.specs.Naming.{Naming}
use Rattle.arj_naming.proofs.part.Part.bind.Goals as goal

pub returns-in-Ok-clause-part : goal.returns-in-Ok-clause-part
returns-in-Ok-clause-part c =
    let part = c.self.inside in
    let inside : Naming =
    record {
      inc = part.counter.inc;
      count = part.counter.count;
      objects = part.objects.entries;
      confirmed = part.confirmed.keys;
      told =
          part.told.keys;
    } in
    let new : Counted = record { named = c.bind.new.self; count = c.bind.new.counter.count } in
    let es = (c.get_mut.follows.lender c.bind.new.self).entries in
    (λ i. record { inc = c.in-Ok.ensures.inc i; count = new.count; objects = es; confirmed = inside.confirmed; told = inside.told })
    ∙ bound_part inside c.args.self.now c.self.view_is c.args.m.now.x c.in-Some.object.now es (sym c.in-Some.ensures.value) c.get_mut.ensures.ordered c.args.m.now c.args.entries.now c.in_ok-entry.entry new (sym c.is_over.ensures ∙ c.if-is_over.false)
    c.in_ok-entry.ensures refl c.in-Ok.ensures.served.part (c.get_mut.follows.holds c.bind.new.self).0

pub invariant_of-self-in-Ok : goal.invariant_of-self-in-Ok
invariant_of-self-in-Ok c =
    let m = c.args.m.now in
    let x = m.x in
    let p = m.head.path in
    let o = c.in-Some.object.now in
    let new = c.bind.new.self in
    let at = sym c.in-Some.ensures.value in
    let part = c.self.inside in
    let before : Counted = record { named = o; count = part.counter.count } in
    let is : new ≡ (bind_named part.counter.inc x p m.include m.avoid c.in_ok-entry.entry before).part.named =
    ap (λ (k : Counted). k.named) c.in-Ok.ensures.served.part in
    let more = c.touch_path.new.touched.entries in
    let mid = changed_indexed x o new part.objects.entries (c.get_mut.follows.lender new).entries at (c.get_mut.follows.holds new).0 part.touched.entries more part.bound.entries part.bound.entries c.touch_path.ensures.kept (λ n q on. on) c.self.invariant
    (λ u apart. ⊎_elim (λ (off : IsOff u p). inl (subst (IsApart u) (sym is) (apart_bound u part.counter.inc x p c.in_ok-entry.entry before off apart m.include m.avoid))) (λ (on : is_touched more u x ≡ true). inr on) (c.in_ok-touch_path.ensures.here u))
    (λ l live. c.self.invariant.bound x l (ap live_in at ∙ (sym (bound_live part.counter.inc x p c.in_ok-entry.entry before m.include m.avoid) ∙ (ap (λ (n : Named). n.live) (sym is) ∙ live)))) in
    record { sorted = mid.sorted; touched = λ u. c.tidy_path.ensures u (mid.touched u); bound = mid.bound }
