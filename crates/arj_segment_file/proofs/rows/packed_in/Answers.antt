use Rattle.std.proofs.Common.{◌∙◌, ◌+◌, ◌-◌, sym, ap, Some, take, drop}
use Rattle.arj_base.specs.Uid.{uid_eq}
use Rattle.arj_disk.specs.Says.{new_of, uid_in}
use Rattle.arj_segment_file.specs.Format.{rows_in, states_in}
use Rattle.arj_segment_file.proofs.Read.{find_all, find_end, find_here, find_later}
use Rattle.arj_segment_file.proofs.rows.packed_in.Goals as goal

pub returns-in_default : goal.returns-in_default
returns-in_default c =
    find_end c.rows_of-count.result.0 c.loop-row.row c.loop-row.rest.now c.args.uid (new_of (states_in c.args.bytes.now) c.args.uid) c.in_default.ensures c.loop-row.invariant

pub returns-then-eq : goal.returns-then-eq
returns-then-eq c =
    find_here c.rows_of-count.result.0 c.loop-row.row c.loop-row.rest.now c.args.uid (new_of (states_in c.args.bytes.now) c.args.uid) c.loop-row-test.true c.in-Some.ensures.0 c.loop-row.invariant
    (ap (uid_eq c.args.uid) (sym (c.uid_of.ensures ∙ ap (λ st. uid_in (take 16 (drop 4 st))) c.in-Some.ensures.1)) ∙ sym c.if-eq.ensures)
    ∙ ap Some (sym c.in-Some.ensures.1)

pub loop-row-preserved : goal.loop-row-preserved
loop-row-preserved c =
    ap (λ r. new_of (rows_in (c.rows_of-count.result.0 - (c.loop-row.row + 1)) r) c.args.uid) c.in-Some.ensures.2
    ∙ find_later c.rows_of-count.result.0 c.loop-row.row c.loop-row.rest.now c.args.uid (new_of (states_in c.args.bytes.now) c.args.uid) c.loop-row-test.true c.in-Some.ensures.0 c.loop-row.invariant
    (ap (uid_eq c.args.uid) (sym (c.uid_of.ensures ∙ ap (λ st. uid_in (take 16 (drop 4 st))) c.in-Some.ensures.1)) ∙ sym c.if-eq.ensures)

pub returns : goal.returns
returns c = find_all c.rows_of-count.result.0 c.loop-row.row c.loop-row.rest.now c.args.uid (new_of (states_in c.args.bytes.now) c.args.uid) c.loop-row-test.false c.loop-row.invariant
