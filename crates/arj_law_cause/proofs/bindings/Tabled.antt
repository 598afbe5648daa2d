-- The table of a node's locks is what its server and naming have, within an event that is no restart: for rows of kinds of lines with
-- which lines of nodes that are up pass only in a restart.
use Rattle.arj_law_parts.proofs.Words
use Words.{◌≡◌, ◌∙◌, ◌==◌, ◌&&◌, ◌++◌, ◌+◌, ℕ, Bool, true, false, if◌then◌else◌, List, [], ◌∷◌, length, Some, refl, sym, ap, subst}
use Words.{and_parts}
use Words.{list_all, entry, Body, Event, Header, Start, Disk, numbered, Parts, World}
use Words.body
use Rattle.arj_law_parts.proofs.moves.Happens.{Wide}
use Rattle.arj_law_parts.specs.moves.Moments.{Moment, up}
use Rattle.arj_law_parts.specs.moves.Seen.{is_quiet_line}
use Rattle.arj_law_runs.proofs.kept.Walked.{same_number}
use Rattle.arj_law_runs.specs.follow.Frames.{are_so}
use Rattle.arj_law_serial.proofs.Terms
use Terms.{ShowsLocks, memory_of, named_locks, rows_on, up_from, up_of}
use Rattle.arj_law_serial.proofs.holding.{Events.IsShown, Events.later_off, Lines.Since, Lines.since_all, Lines.ups_on}
use Rattle.arj_law_serial.proofs.holding.Running.{Showing}
use Rattle.arj_model.specs.CauseLocks.{is_restart}
use Rattle.arj_model.specs.CauseSpans.{Here, behind}
use Rattle.arj_model.specs.Past.{Past}
use Rattle.arj_model.specs.Table.{table}
use Rattle.arj_law_cause.proofs.kinds.Walks as walks
use Rattle.arj_law_cause.specs.kinds.Rows.{tested}

abbrev no_start : Body → Bool
no_start (body.Up n i) = false
no_start b = true

same_start : (n e up : ℕ) (bs : List Body) → list_all no_start bs ≡ true → up_from n up (numbered e bs) ≡ up
same_start n e up [] all = refl
same_start n e up (b ∷ bs) all =
    let p = and_parts (no_start b) (list_all no_start bs) all in by b p.0 (same_start n e up bs p.1)
  where
    by : (b : Body) → no_start b ≡ true → up_from n up (numbered e bs) ≡ up → up_from n up (numbered e (b ∷ bs)) ≡ up
    by (body.Up m i) is ih = absurd (cc is)
    by b is ih = ih

module _ (passes : Here → Body → Bool) (of : Body → Bool) (quiet : (b : Body) → is_quiet_line b ≡ true → of b ≡ false)
    (no_halt : (k : ℕ) → of (body.Halted k) ≡ false)
    (ups : (h : Here) (n i : ℕ) → tested passes (λ g. of) h (body.Up n i) ≡ true → is_restart h.event ≡ true) where
  -- no node starts anew in an event that is no restart
  no_starts : (g : Here) → is_restart g.event ≡ false → (bs : List Body) → are_so (tested passes (λ h. of)) g bs ≡ true →
      list_all no_start bs ≡ true
  no_starts g off [] all = refl
  no_starts g off (b ∷ bs) all =
      let p = and_parts (tested passes (λ h. of) g b) (are_so (tested passes (λ h. of)) (behind g b) bs) all in
      λ i. one b p.0 i && no_starts (behind g b) off bs p.1 i
    where
      one : (b : Body) → tested passes (λ h. of) g b ≡ true → no_start b ≡ true
      one (body.Up n i) is = let no_way : false ≡ true = sym off ∙ ups g n i is in absurd (cc no_way)
      one b is = refl

  module _ (hd : Header) (st : Start) (q : Past) (e : Event) (w : World) (shown : IsShown hd w) (lines_are : q.lines ≡ w.lines)
      (count_is : q.count ≡ w.event) (off : is_restart e ≡ false) (k : ℕ) (d : Disk) (t : Parts) (M : Moment)
      (known : Wide (Showing hd (length w.lines) (w.event + 1)) (up k d t M)) (h : walks.Inside passes hd of quiet no_halt st q e M) where
    abbrev Number : ℕ
    Number = w.event + 1

    lines_now : M.seen.lines ≡ w.lines ++ numbered Number h.wrote
    lines_now = h.lines ∙ (λ i. lines_are i ++ numbered (count_is i + 1) h.wrote)

    here : memory_of ((up k d t M).seen.nodes k) ≡ Some t
    here = λ i. memory_of (if same_number k i then Some (record { number = k; disk = d; live = Some t }) else M.seen.nodes k)

    pub start_off : (Number == up_of k M.seen.lines) ≡ false
    start_off =
        let none = no_starts (walks.first_here passes hd of quiet no_halt st q e) off h.wrote h.fit in
        ap (λ n. Number == n) (ap (up_of k) lines_now ∙ ups_on k 0 w.lines (numbered Number h.wrote)
        ∙ same_start k Number (up_of k w.lines) h.wrote none)
        ∙ later_off (up_of k w.lines) w.event (shown.early k)

    -- its table shows its locks
    pub shows_now : ShowsLocks k M.seen.lines (Some t)
    shows_now =
        let z = known.2.2 in
        let s : ShowsLocks k M.seen.lines (memory_of ((up k d t M).seen.nodes k)) = z.shown
        (subst (Since Number (length w.lines)) (sym lines_now) (since_all Number h.wrote w.lines)) k start_off in
        subst (ShowsLocks k M.seen.lines) here s

    pub table_now : (k == 1) ≡ true → (x : ℕ) → rows_on (entry x) (table k M.seen.lines) ≡ named_locks x t.naming
    table_now one x = let r = shows_now in r.naming x one
