-- In every run.
use Rattle.arj_law_parts.proofs.Words.{Header, []}
use Rattle.arj_law_lock_view.proofs.Terms.{IsAtStarts}
use Rattle.arj_law_parts.proofs.moves.{Events.run_with, Happens.Wide, Happens.keeps_asked, Happens.wide_kept}
use Rattle.arj_law_parts.specs.moves.Moments.{Moment}
use Rattle.arj_law_parts.specs.moves.With.{KeepsAll, KeepsWith}
use Rattle.arj_law_runs.proofs.journal.Paths.{IsNamed, paths_keep}
use Rattle.arj_law_runs.specs.journal.Paths.{IsAlike}
use Rattle.arj_promise.specs.Runs.{Seen}
use Rattle.arj_law_lock_view.proofs.asking.Keeping.{HasPaths, first_tied, tied_closes, tied_opens, tied_step}
use Rattle.arj_law_lock_view.specs.asking.{Asked.AskedAreTied, Runs.RunsTieCalls}

-- the actions of nodes are those of the journal
abbrev pub Pathed : Seen → Type 0
Pathed M = IsNamed M × IsAlike M

pub pathed_wide : (hd : Header) → KeepsWith hd (IsAtStarts hd Pathed) (Wide Pathed)
pathed_wide hd = wide_kept hd (IsAtStarts hd Pathed) Pathed (keeps_asked hd Pathed (paths_keep hd))

pub paths_of_wide : (M : Moment) → Wide Pathed M → HasPaths M
paths_of_wide M h = (h.0, h.1, (h.2.1.0, (h.2.0, h.2.1.1)))

pub tied_keep : (hd : Header) → KeepsAll hd (λ M. Wide Pathed M × AskedAreTied M)
tied_keep hd =
    let wide = pathed_wide hd in
    record {
      opens = λ e M first number h. (wide.opens e M first number h.0, tied_opens e M first number h.1);
      closes = λ bodies M number lines h. (wide.closes bodies M number lines h.0, tied_closes bodies M number lines h.1);
      steps = tied_step hd (Wide Pathed) wide.steps paths_of_wide;
      first = λ st formed. (([], (λ p i. i), wide.first st formed), first_tied hd st);
    }

pub runs_tie : RunsTieCalls
runs_tie hd r =
    let h = run_with hd (λ M. Wide Pathed M × AskedAreTied M) (tied_keep hd) r in
    record {
      now = record {
        sent = h.now.sent;
        stands = h.now.stands;
        number = h.now.number;
        wrote = h.now.wrote;
        holds = h.now.holds.1;
      };
      count = h.count;
      lines = h.lines;
    }
