-- Inside of each event the first conflicts of tables and of nodes are the same.
use Rattle.arj_law_parts.proofs.Words
use Words.{◌≡◌, ◌∙◌, ◌==◌, ◌+◌, ⊤, ℕ, List, [], length, Some, sym, ap, subst, is_some, find, entry, object}
use Words.{first_conflict, is_against, server_rows, Line, Mode, Parts, Row, Uid, uid_eq, Header, world_from}
use Rattle.arj_law_serial.proofs.Terms.{ShowsLocks, memory_of, named_locks, rows_on, up_of}
use Rattle.arj_law_serial.proofs.holding.Lines.{Since, since_all}
use Rattle.arj_law_parts.specs.moves.Moments.{no_history}
use Rattle.arj_law_parts.specs.moves.With.{past_of}
use Rattle.arj_model.specs.Table.{table}
use Rattle.arj_promise.specs.Runs.{Run, world_by}
use Rattle.arj_protocol.specs.Laws.{naming_rows}
use Rattle.arj_law_cause.proofs.rows.Meeting.{find_some, on_object}
use Rattle.arj_law_cause.proofs.rows.Running.{InEvent, StandsSo, early, first_so, moves_stand, none_beside, none_fits, opened_so}
use Rattle.arj_law_cause.proofs.rows.Running.{tables_step}
use Rattle.arj_law_cause.specs.rows.Tables.{EventsAgree, EventsBegin, EventsKeep, TableAgrees}

-- the rows on an object are all that count
first_same : (path : List Uid) (o : Uid) (asked : Mode) (all rows : List Row) → rows_on o all ≡ rows →
    first_conflict path o asked all ≡ first_conflict path o asked rows
first_same path o asked all rows same =
    find_some (is_against path o asked) (λ (r : Row). uid_eq r.object o) (on_object path o asked) all
    ∙ ap (find (is_against path o asked)) same

agrees : (k : ℕ) (lines : List Line) (t : Parts) → ShowsLocks k lines (Some t) → is_some t.naming ≡ (k == 1) → TableAgrees k lines t
agrees k lines t shown place = record {
  server = λ path x asked. first_same path (object x) asked (table k lines) (server_rows x t.server) (shown.server x);
  naming = λ o there path x asked. first_same path (entry x) asked (table k lines) (naming_rows x o)
      (shown.naming x (sym place ∙ ap is_some there) ∙ ap (named_locks x) there);
}

pub events_agree : EventsAgree
events_agree hd before event M h k n t there live off =
    let s = h.0.1 in
    let inside = h.1 in
    let past = s.2.1.1.0.0 in
    let q = past.nodes k n there in
    let l = q.live t live in
    let shown = s.2.2 in
    agrees k M.seen.lines t (subst (ShowsLocks k M.seen.lines) (ap memory_of there ∙ live)
    (shown.shown (subst (Since event (length before)) (sym inside.lines) (since_all event inside.wrote before)) k
    ((λ i. sym inside.number i == up_of k M.seen.lines) ∙ off))) l.place

-- ---- in every run

stands : (hd : Header) (r : Run hd) → StandsSo [] hd (λ M. ⊤) (InEvent [] hd) (none_beside [] hd) (past_of hd r) (world_by hd r)
stands hd r = moves_stand [] hd (λ M. ⊤) (InEvent [] hd) (none_beside [] hd) (none_fits hd) r.moves (no_history r.start)
    (world_from hd r.start)
    (first_so [] hd (λ M. ⊤) (InEvent [] hd) (none_beside [] hd) r.start r.formed tt)

pub events_begin : EventsBegin
events_begin hd r e over =
    let o = opened_so [] hd (λ M. ⊤) (InEvent [] hd) (none_beside [] hd) (past_of hd r) (world_by hd r) (stands hd r) e over in
    record { sent = o.sent; stands = o.stands; number = o.number; wrote = o.wrote; holds = o.holds.0.0 }

pub events_keep : EventsKeep
events_keep hd r = tables_step hd (let w = world_by hd r in w.lines) (let w = world_by hd r in w.event + 1)
    (early [] hd (λ M. ⊤) (InEvent [] hd) (none_beside [] hd) (past_of hd r) (world_by hd r) (stands hd r))
