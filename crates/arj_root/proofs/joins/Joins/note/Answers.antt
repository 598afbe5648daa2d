use Rattle.std.proofs.Common.{◌≡◌, refl, sym, ap, subst, ◌∙◌}
use Rattle.std.specs.Prelude.{slice_set}
use Rattle.arj_base.specs.Path.{uids_of}
use Rattle.arj_protocol.specs.Coord as coord
use Rattle.arj_protocol.specs.Words.{Uid}
use Rattle.arj_root.specs.Merged.{rejoined, place_of, is_join_of}
use Rattle.arj_root.proofs.Merged.{taken_up, put_last, joined_is}
use Rattle.arj_root.proofs.Kept.{joins_more}
use Rattle.arj_root.specs.Kept.{AreJoins}
use Rattle.arj_root.proofs.joins.Joins.note.Goals as goal

pub invariant_of-self : goal.invariant_of-self
invariant_of-self c =
    let j : coord.Joined = record { path = uids_of c.args.path.now; x = c.args.x; store = c.args.store; loaded = c.args.loaded } in
    let is : slice_set c.self.inside.joined.items c.in-Some.at c.take.new.self ≡ coord.joined_with j c.self.inside.joined.items =
    taken_up (coord.same_join j) (rejoined j.loaded) j c.self.inside.joined.items c.as_slice.result.now c.self.inside.joined.items c.in-Some.at c.index_mut.result.now c.take.new.self c.as_slice.ensures.value refl
    (ap (λ (u : Uid). place_of (is_join_of u j.x j.store) 0 c.as_slice.result.now) (sym c.last.ensures) ∙ sym c.in-Some.ensures.place) c.in-Some.ensures.within c.index_mut.ensures.value c.take.ensures
    ∙ sym (joined_is j c.self.inside.joined.items) in
    subst AreJoins (sym is) (joins_more j c.self.inside.joined.items c.self.invariant (record {
      node = c.requires.node;
      own =
          c.requires.own;
    }))

pub returns-in-Some-clause-noted : goal.returns-in-Some-clause-noted
returns-in-Some-clause-noted c =
    let j : coord.Joined = record { path = uids_of c.args.path.now; x = c.args.x; store = c.args.store; loaded = c.args.loaded } in
    taken_up (coord.same_join j) (rejoined j.loaded) j c.self.inside.joined.items c.as_slice.result.now c.args.self.now c.in-Some.at c.index_mut.result.now c.take.new.self c.as_slice.ensures.value c.self.view_is
    (ap (λ (u : Uid). place_of (is_join_of u j.x j.store) 0 c.as_slice.result.now) (sym c.last.ensures) ∙ sym c.in-Some.ensures.place) c.in-Some.ensures.within c.index_mut.ensures.value c.take.ensures
    ∙ sym (joined_is j c.args.self.now)

pub returns-in_ok-push-in-None-clause-noted : goal.returns-in_ok-push-in-None-clause-noted
returns-in_ok-push-in-None-clause-noted c =
    let j : coord.Joined = record { path = uids_of c.args.path.now; x = c.args.x; store = c.args.store; loaded = c.args.loaded } in
    put_last (coord.same_join j) (rejoined j.loaded) j c.self.inside.joined.items c.as_slice.result.now c.args.self.now c.push.new.self.items c.as_slice.ensures.value c.self.view_is
    (ap (λ (u : Uid). place_of (is_join_of u j.x j.store) 0 c.as_slice.result.now) (sym c.last.ensures) ∙ sym c.in-None.ensures.place) c.in_ok-push-in-None.ensures.items
    ∙ sym (joined_is j c.args.self.now)
