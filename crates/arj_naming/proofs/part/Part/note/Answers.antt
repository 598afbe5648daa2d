use Rattle.std.proofs.Common.{◌≡◌, ◌∙◌, ◌==◌, true, ap, inl, sym, subst, refl, arith, Some}
use Rattle.std.proofs.Math.Logic.{⊎_elim}
use Rattle.std.proofs.lemmas.Bool.Decides.{nat_tests}
use Rattle.arj_base.specs.Rows.{last_uid}
use Rattle.arj_naming.proofs.Apart.{apart_noted, noted_live}
use Rattle.arj_naming.proofs.Indexed.{changed_indexed}
use Rattle.arj_naming.proofs.Puts.{noted_part}
use Rattle.arj_naming.specs.Bound.{live_in, made_in}
use Rattle.arj_naming.specs.Touched.{IsApart}
use Rattle.arj_protocol.specs.Ask.{top_of}
use Rattle.arj_protocol.specs.Named.{Named, note_named}
use Rattle.arj_protocol.specs.Order.{at_number}
use Rattle.arj_protocol.specs.Naming.{Naming}
use Rattle.arj_naming.proofs.part.Part.note.Goals as goal

pub returns-in-Ok-clause-part : goal.returns-in-Ok-clause-part
returns-in-Ok-clause-part c =
    let part = c.self.inside in
    let inside : Naming =
    record {
      inc = part.counter.inc;
      count = part.counter.count;
      objects = part.objects.entries;
      confirmed = part.confirmed.keys;
      told =
          part.told.keys;
    } in
    let same_inc : (c.args.m.now.naming_inc == part.counter.inc) ≡ true = grind (arith, nat_tests, c.if-m-self.false) in
    noted_part inside c.args.self.now c.self.view_is c.args.m.now.x c.in-Some.object.now (c.get_mut.follows.lender c.note.new.self).entries (sym c.in-Some.ensures.value) c.get_mut.ensures.ordered c.args.m.now c.note.new.self
    (sym c.is_over.ensures ∙ c.if-is_over.false) refl same_inc c.in-Ok.ensures.part (c.get_mut.follows.holds c.note.new.self).0

pub invariant_of-self-in-Ok : goal.invariant_of-self-in-Ok
invariant_of-self-in-Ok c =
    let m = c.args.m.now in
    let x = m.x in
    let top = top_of m.head.path in
    let o = c.in-Some.object.now in
    let new = c.note.new.self in
    let at = sym c.in-Some.ensures.value in
    let is : new ≡ (note_named x top m.binding m.server_inc o).part = c.in-Ok.ensures.part in
    let part = c.self.inside in
    let under = c.put_made.new.bound.entries in
    let named : c.last-top.result ≡ top = c.last-top.ensures ∙ ap last_uid c.top_path.ensures.uids in
    changed_indexed x o new part.objects.entries (c.get_mut.follows.lender new).entries at (c.get_mut.follows.holds new).0 part.touched.entries part.touched.entries part.bound.entries under (λ u q on. on) c.put_made.ensures.kept c.self.invariant
    (λ u apart. inl (subst (IsApart u) (sym is) (apart_noted u x top m.binding m.server_inc o apart)))
    (λ l live. ⊎_elim (λ (old : o.live ≡ Some l). c.put_made.ensures.kept l.server x (c.self.invariant.bound x l (ap live_in at ∙ old)))
    (λ (made : made_in top (Some o) ≡ Some l.server). c.in_ok-put_made.ensures.here l.server (ap (λ w. made_in w (at_number x part.objects.entries)) named ∙ (ap (made_in top) at ∙ made)))
    (noted_live x top m.binding m.server_inc o l (ap (λ (n : Named). n.live) (sym is) ∙ live)))
