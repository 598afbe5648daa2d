-- Stores are excluded in time, where both machines of each object are tied to the journal.
use Rattle.arj_law_parts.proofs.Words.{◌≡◌, ℕ, true, [], is_some, Header, World, world_by, see}
use Rattle.arj_law_serial.proofs.Terms
use Terms.{HeaderFits, new_book, AreRight, kept_right, first_values, object_line, IsReached, Keeping, AreExcludedInTime, CommitsBeginIt}
use Terms.{IsSeenSo, OpsFit}
use Rattle.arj_law_serial.proofs.joint
use joint.{CommitCalls.commits_begin, FitRuns.runs_in_form, Knowing.none_last, NamedTops.AreLockTied, Takers.takers}
use joint.Clean.{AreJoined, Decides, Held, decided, decides_in, formed, held_in, lock_tied, ordered_of, reached_both}
use joint.Excluding.{is_in_time, kept_nodes_form, newest_by_calls}
use Rattle.arj_law_serial.proofs.order.Ties.{Ties, ties_of}
use Rattle.arj_law_serial.specs.joint.InTime.{RunsExcludeInTime}

module _ (hd : Header) (w : World) (keeping : Keeping hd w) (form : HeaderFits hd) (tied : AreLockTied hd w.lines) (held : Held hd w)
    (decide : Decides hd w held) (begins : CommitsBeginIt w.event w.lines) where
  right : AreRight new_book w.lines
  right = kept_right hd w keeping

  ties : Ties (first_values hd) w.lines
  ties = ties_of (first_values hd) w.lines tied.called

  abbrev seen_so : (x : ℕ) (there : is_some (object_line hd x) ≡ true) → IsSeenSo hd w.event x (see (let h = held x there in h.sent) w)
  seen_so x there =
      let h = ordered_of hd w x (held x there) in
      let b = h.holds.begun in
      let j = b.journalled in
      record {
        seen = record {
          kinds = j.tops;
          world = j.machine;
          sees = j.sees;
          decided = (decided hd w keeping form tied held decide x there);
          begins = b.begins;
          form = formed hd w keeping form tied held decide x there;
        };
        forms = kept_nodes_form hd x form w keeping h.sent;
        takers = takers hd w keeping x h;
      }

  in_time : AreExcludedInTime hd w.event (see [] w)
  in_time t x s n m st there new wrote at_naming at_store held_there has_it =
      let h = ordered_of hd w x (held x there) in
      let i = seen_so x there in
      let newest = newest_by_calls hd w.event (see h.sent w) right tied.called begins x i t new wrote
      (record { last = none_last hd w right begins x h (decided hd w keeping form tied held decide x there) t new wrote }) in
      is_in_time hd w.event (see h.sent w) right ties x i t new wrote newest s n m st at_naming at_store held_there has_it

-- with both machines at once
pub in_time_so : (hd : Header) (w : World) → Keeping hd w → AreJoined hd w → HeaderFits hd → CommitsBeginIt w.event w.lines →
    AreExcludedInTime hd w.event (see [] w)
in_time_so hd w keeping joined form begins =
    in_time hd w keeping form (lock_tied hd w keeping joined) (held_in hd w keeping joined) (decides_in hd w keeping joined) begins

pub reached_in_time : (hd : Header) → HeaderFits hd → (w : World) → IsReached hd w → ((x : ℕ) → OpsFit x w.lines) →
    CommitsBeginIt w.event w.lines → AreExcludedInTime hd w.event (see [] w)
reached_in_time hd form w reached fit = in_time_so hd w reached.keeping (reached_both hd form w reached fit) form

pub runs_exclude : RunsExcludeInTime
runs_exclude hd r f = let h = runs_in_form hd r f in reached_in_time hd f.header (world_by hd r) h.0 h.1 (commits_begin hd r)
