use Rattle.std.proofs.Common.{◌≡◌, ◌∙◌, ◌+◌, ap, cond}
use Rattle.arj_model.specs.Actions.{acts}
use Rattle.arj_model.specs.Last.{listed_after, same_list}
use Rattle.arj_changes.specs.Stores.{joined_by, left_by, stores_after}
use Rattle.arj_changes.specs.Tops.{top_called}
use Rattle.arj_changes.proofs.Folded.{stores_step}
use Rattle.arj_changes.proofs.Paths.{uid_is}
use Rattle.arj_changes.proofs.entry.step.Goals as goal

pub returns : goal.returns
returns c = λ lines begun has few.
    let changes = c.args.changes.now in
    let entry = c.args.entry in
    let x = c.args.x in
    let top = c.args.one.now.top in
    let t = top_called top in
    let old = entry.stores.items in
    let listed : c.in_ok-stores.stores.items ≡ listed_after lines x old t =
    c.in_ok-stores.ensures ∙ ap (λ s. stores_after s (left_by changes top.id x) (joined_by changes top.id x)) c.as_slice.ensures.value ∙ stores_step lines changes has x old t in
    let stays : c.are_same-stays.result ≡ same_list (listed_after lines x old t) old =
    c.are_same-stays.ensures ∙ (λ i. same_list ((c.as_slice-2.ensures.value ∙ listed) i) (c.as_slice-3.ensures.value i)) in
    record {
      stores = listed;
      version = c.counted.ensures few ∙ ap (λ b. cond b entry.version (entry.version + 1)) stays;
      writer = c.changer.ensures ∙ (λ i. cond (stays i) entry.writer (uid_is (acts lines) c.args.begun.now begun top.id i));
    }
