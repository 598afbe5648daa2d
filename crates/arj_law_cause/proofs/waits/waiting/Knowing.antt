-- What is known at each moment of a run: whose actions are whose, which have ended, and that what waits was asked last.
use Rattle.arj_law_parts.proofs.Words.{[], Header, Seen}
use Rattle.arj_law_runs.proofs.Terms.{IsAtStarts, Keeps, keeps_asked}
use Rattle.arj_law_parts.proofs.moves.{Happens.Wide, Happens.wide_kept}
use Rattle.arj_law_parts.specs.moves.Moments.{Moment}
use Rattle.arj_law_parts.specs.moves.With.{KeepsAll, KeepsWith}
use Rattle.arj_law_runs.proofs.calls.Given.{keeps_given, kept_both}
use Rattle.arj_law_runs.proofs.follow.Halts.{KnowsAll, halts_keep}
use Rattle.arj_law_runs.proofs.journal.Paths.{paths_keep}
use Rattle.arj_law_lock_view.proofs.asking.Keeping.{HasPaths, first_tied, tied_closes, tied_opens, tied_step}
use Rattle.arj_law_lock_view.proofs.asking.Tied.{Pathed}
use Rattle.arj_law_lock_view.specs.asking.Asked.{AskedAreTied}

abbrev pub Facts : Seen → Type 0
Facts S = Pathed S × KnowsAll S

pub facts_keep : (hd : Header) → Keeps hd Facts
facts_keep hd = kept_both hd Pathed KnowsAll (paths_keep hd) (keeps_given hd Pathed KnowsAll (halts_keep hd))

pub paths_of : (M : Moment) → Wide Facts M → HasPaths M
paths_of M h = (h.0, h.1, (h.2.0.1.0, (h.2.0.0, h.2.0.1.1)))

abbrev pub Core : Moment → Type 0
Core M = Wide Facts M × AskedAreTied M

pub core_keep : (hd : Header) → KeepsAll hd Core
core_keep hd =
    let wide : KeepsWith hd (IsAtStarts hd Facts) (Wide Facts) = wide_kept hd (IsAtStarts hd Facts) Facts
    (keeps_asked hd Facts (facts_keep hd)) in
    record {
      opens = λ e M first number h. (wide.opens e M first number h.0, tied_opens e M first number h.1);
      closes = λ bodies M number lines h. (wide.closes bodies M number lines h.0, tied_closes bodies M number lines h.1);
      steps = tied_step hd (Wide Facts) wide.steps paths_of;
      first = λ st formed. (([], (λ p i. i), wide.first st formed), first_tied hd st);
    }
