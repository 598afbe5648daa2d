-- Where both machines of an object stand in one state: the last state of the disk machine is the last committed one by the lock machine,
-- and nobody is in doubt there.
use Rattle.arj_law_parts.proofs.Words
use Words.{◌≡◌, refl, sym, ◌∙◌, ap, ⊎_elim, number_tells}
use Rattle.arj_law_serial.proofs.Terms.{first_values, Mark, marked, Packed, Plan, content_of, in_decided, packed, state_code}
use Rattle.arj_law_disk_view.proofs.deciding_lines.Owners.{decided_begun}
use Rattle.arj_law_serial.proofs.joint
use joint.{Given.LastThereIsLast, GivenFirst.first_in_form, GivenSettled.nobody_in_doubt}
use Rattle.arj_law_serial.proofs.order.{Contents.value_told, Timely.run_initial}
use joint.GivenValue.{first_is_last, newest_wrote}
use Rattle.arj_start.specs.Start.{format_at}
use joint.GivenWriters.{IsNewest, WroteNone, newest_of}

pub last_there_is_last : LastThereIsLast
last_there_is_last hd f x begun S M form line b st there = record {
  value = ⊎_elim
      (λ (none : WroteNone (let A = b.office in A.world.disk.first) (let A = b.office in A.world.disk.tops)).
      first_is_last hd f x begun S M b (state_code f.act f.code st) none (is_first none))
      (λ (z : IsNewest M.lines (let A = b.office in A.world.disk.first) (let A = b.office in A.world.disk.tops)).
      newest_wrote hd f x begun S M b z st.writer (ap (λ (k : Packed). k.writer) (there.last_one ∙ z.last) ∙ its_writer z) form st refl
      (there.last_one ∙ z.last))
      (newest_of M.lines (let A = b.office in A.world.disk.first) (let A = b.office in A.world.disk.tops) b.turns);
  settled = nobody_in_doubt hd f x begun S M b there.settled there.first there.first_there;
}
  where
    -- the first state
    is_first : WroteNone (let A = b.office in A.world.disk.first) (let A = b.office in A.world.disk.tops) →
        state_code f.act f.code st ≡ S.initial
    is_first none =
        let mark : Mark = M.start.marks.states x in
        let first = format_at hd.format mark.version in
        let same : packed st ≡ marked mark (content_of first (first_values hd x)) = there.last_one ∙ none.0 ∙ b.begins.state in
        let writer : st.writer ≡ mark.writer = number_tells st.writer mark.writer (ap (λ (k : Packed). k.writer) same) in
        let value = value_told st first (first_values hd x) (ap (λ (k : Packed). k.content) same) (first_in_form hd x form) in
        (λ i. f.code (value i) (f.act (writer i)))
        ∙ sym (run_initial (let s = b.seen in let l = s.sees in l.run) ∙ b.agrees.1.0)

    its_writer : (z : IsNewest M.lines (let A = b.office in A.world.disk.first) (let A = b.office in A.world.disk.tops)) →
        (let k = z.state in k.writer) ≡ (let d = z.done in d.top)
    its_writer z =
        let n = (let q = b.both in q.named) in
        let whole = n.whole in
        let begun_it = decided_begun (let A = b.office in A.world) whole (let d = z.done in
        d.top) (in_decided (let A = b.office in A.world.disk.tops) z.done z.there) in
        let plan : (let d = z.done in d.plan)
        ≡ (let A = b.office in A.world.disk.plan) (let d = z.done in d.top) = whole.core.journal.plan z.done z.there in
        (n.plans.writer (let d = z.done in d.top) z.state begun_it (ap (λ (k : Plan). k.writes) (sym plan) ∙ z.writes)).0
