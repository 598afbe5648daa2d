use Rattle.std.proofs.Common.{◌≡◌, ◌∙◌, ℕ, List, length, ap, sym, subst}
use Rattle.std.specs.Prelude.{is_some}
use Rattle.std.specs.BTreeMap.{get}
use Rattle.std.specs.Ordering.{nat_cmp}
use Rattle.arj_base.specs.Order.{uid_order}
use Rattle.arj_text.specs.Label.{label_cmp}
use Rattle.arj_journal.specs.declared.body.Line.{Line}
use Rattle.arj_model.specs.Actions.{acts}
use Rattle.arj_reading.specs.Reading.{HasRead, found_with, known_with, labelled_with, listed_with, marked, noted}
use Rattle.arj_reading.proofs.Lines.{Takes, line_more}
use Rattle.arj_reading.proofs.take.take_line.Goals as goal

pub returns : goal.returns
returns c = λ lines line has at body.
    let takes : Takes (acts lines) c.args.body.now c.args.at c.args.reading.now c.begin.new.reading = record {
      labels = λ q. c.in_ok-begin.ensures.labels q ∙ ap (λ o. labelled_with o (length c.args.reading.now.list.items) (get label_cmp c.args.reading.now.labels q) q) (c.next-next.ensures lines has);
      uids = λ u. c.in_ok-begin.ensures.uids u ∙ ap (λ o. known_with o (length c.args.reading.now.list.items) (get uid_order c.args.reading.now.uids u) u) (c.next-next.ensures lines has);
      list = c.in_ok-begin.ensures.list ∙ ap (λ o. listed_with o c.args.reading.now.list.items) (c.next-next.ensures lines has);
      called_at = λ i. ap (λ m. get nat_cmp m i) c.in_ok-begin.ensures.called ∙ c.in_ok-note.ensures i ∙ ap (λ o. noted o c.args.at (get nat_cmp c.args.reading.now.called i) i) (c.called_number-called.ensures lines has);
      ended_at = λ i. ap (λ m. get nat_cmp m i) c.in_ok-begin.ensures.ended ∙ c.in_ok-note-2.ensures i ∙ ap (λ o. noted o c.args.at (get nat_cmp c.args.reading.now.ended i) i) (c.ended_number-ended.ensures lines has);
      committed_at =
          λ i. ap (λ m. get nat_cmp m i) c.in_ok-begin.ensures.committed ∙ c.in_ok-note-3.ensures i ∙ ap (λ o. noted o c.args.at (get nat_cmp c.args.reading.now.committed i) i) (c.committed_number-committed.ensures lines has);
      found = λ u. ap (λ m. is_some (get uid_order m u)) c.in_ok-begin.ensures.found ∙ c.in_ok-note_found.ensures u ∙ ap (λ o. found_with o (is_some (get uid_order c.args.reading.now.found u)) u) (c.found_uid.ensures (acts lines));
      said = ap (λ v. v.items) c.in_ok-begin.ensures.said ∙ c.in_ok-mark.ensures ∙ ap (λ o. marked o c.args.at c.args.reading.now.said.items) (c.said_number-said.ensures lines has);
      calls = ap (λ v. v.items) c.in_ok-begin.ensures.calls ∙ c.in_ok-mark-2.ensures ∙ ap (λ o. marked o c.args.at c.args.reading.now.calls.items) (c.called_number-called.ensures lines has);
    } in
    line_more lines line c.args.reading.now c.begin.new.reading has
    (subst (λ b. Takes (acts lines) b (length lines) c.args.reading.now c.begin.new.reading) (sym body) (subst (λ n. Takes (acts lines) c.args.body.now n c.args.reading.now c.begin.new.reading) at takes))
