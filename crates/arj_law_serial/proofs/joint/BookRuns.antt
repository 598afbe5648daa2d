-- The lock book, by the lock machines to which journals are tied; and that journals list nodes of the header.
use Rattle.arj_law_parts.proofs.Words.{ℕ, Header, World, world_by}
use Rattle.arj_law_serial.proofs.Terms.{HeaderFits, first_values, new_book, AreRight, kept_right, IsReached, Keeping, OpsFit}
use Rattle.arj_law.specs.Joined.{AreCalled}
use Rattle.arj_law_serial.proofs.joint.{Clean.includes_there, Clean.reached_tied, FitRuns.runs_in_form, Listing.all_there}
use Rattle.arj_law_serial.proofs.order.{Order.all_called_first, Order.all_freed, Order.all_in_order, Order.all_in_time, Order.all_called}
use Rattle.arj_law_serial.proofs.order.{Ties.Ties, Ties.ties_of, Values.are_answered}
use Rattle.arj_law_serial.specs.joint.{Booked.KeepsTheBook, Booked.RunsKeepTheBook, Booked.RunsAreCalled, Shown.ListedAreThere}
use Rattle.arj_law_serial.specs.order.Tied.{AreTied}

module _ (hd : Header) (w : World) (keeping : Keeping hd w) (tied : AreTied (first_values hd) w.lines) where
  right : AreRight new_book w.lines
  right = kept_right hd w keeping

  ties : Ties (first_values hd) w.lines
  ties = ties_of (first_values hd) w.lines tied

  pub book_so : KeepsTheBook (first_values hd) w.lines
  book_so = record {
    order = all_in_order (first_values hd) w.lines right ties;
    commits = all_called_first (first_values hd) w.lines right ties;
    answers = are_answered (first_values hd) w.lines right ties;
    nested = all_freed (first_values hd) w.lines right ties;
    times = all_in_time (first_values hd) w.lines right ties;
  }

  pub called_so : AreCalled w.lines
  called_so = all_called (first_values hd) w.lines right ties

-- each store that an object lists by the journal is a node of the header
pub lists_nodes : (hd : Header) → HeaderFits hd → (w : World) → Keeping hd w → ListedAreThere hd w.lines
lists_nodes hd form w keeping = all_there hd w.lines form (includes_there hd w keeping)

-- ---- runs

pub reached_book : (hd : Header) → HeaderFits hd → (w : World) → IsReached hd w → ((x : ℕ) → OpsFit x w.lines) →
    KeepsTheBook (first_values hd) w.lines
reached_book hd form w reached fit = book_so hd w reached.keeping (reached_tied hd form w reached fit)

pub runs_keep_the_book : RunsKeepTheBook
runs_keep_the_book hd r f = let h = runs_in_form hd r f in reached_book hd f.header (world_by hd r) h.0 h.1

pub runs_are_called : RunsAreCalled
runs_are_called hd r f = let h = runs_in_form hd r f in
    called_so hd (world_by hd r) (let k = h.0 in k.keeping) (reached_tied hd f.header (world_by hd r) h.0 h.1)
