use Rattle.std.proofs.Common.{rules, ◌≡◌, ◌<◌, ◌≤◌, ◌+◌, ◌++◌, ◌∷◌, ◌∙◌, [], sym, subst, refl, length, slice_index_or}
use Rattle.std.proofs.lemmas.Option.{slice_get_read}
use Rattle.arj_standing.specs.Node.{IsTable}
use Rattle.arj_view_data.proofs.Tables.{all_taken, none_taken, one_before, one_taken, set_length}
use Rattle.arj_view_data.proofs.standing.take_each.Goals as goal

pub loop-at-init : goal.loop-at-init
loop-at-init c = record { count = refl; taken = λ lines begun are. none_taken lines c.args.line.now c.args.tables.now.items are }

pub loop-at-preserved : goal.loop-at-preserved
loop-at-preserved c =
    let ts = c.loop-at.tables.items in
    let k = c.loop-at.at in
    let line = c.args.line.now in
    let was = c.index_mut.result.now in
    let lt : k < length ts = search rules in
    let is : was ≡ slice_index_or ts k was = search rules in
    record {
      count = set_length ts k c.take.new.self ∙ c.loop-at.invariant.count;
      taken = λ lines begun are.
          let before = c.loop-at.invariant.taken lines begun are in
          let old = one_before lines line k ts was before (slice_get_read ts (length ts) k was refl lt is) in
          one_taken lines line k ts c.take.new.self before (subst (λ n. IsTable n (lines ++ line ∷ []) c.take.new.self) old.node (c.in_ok-take.ensures.table lines begun (subst (λ n. IsTable n lines was) (sym old.node) old)));
    }

pub returns : goal.returns
returns c =
    let le : length c.loop-at.tables.items ≤ c.loop-at.at = search rules in
    record {
      nodes = c.loop-at.invariant.count;
      tables = λ lines begun are. all_taken lines c.args.line.now c.loop-at.at c.loop-at.tables.items le (c.loop-at.invariant.taken lines begun are);
    }
