-- A run up to an event: each call that waits for its operation has a frame that asks for it, where the run goes on; and each action that is
-- doomed at its coordinator is doomed by the journal.
use Rattle.arj_law_parts.proofs.Words
use Words.{◌≡◌, ℕ, false, List, Header, Asked, Reply, Uid, Intent, Coord, World, heard}
use Rattle.arj_law_parts.specs.moves.Moments.{History}
use Rattle.arj_law_parts.specs.moves.With.{HoldsWith}
use Rattle.arj_law_runs.proofs.Terms.{Holds, IsGood}
use Rattle.arj_law_runs.specs.addresses.Binds.{BindsAreKnown}
use Rattle.arj_law_promise.proofs.settling.Waiting.{AllKnown}
use Rattle.arj_promise.specs.Runs.{HeaderFits}
use Rattle.arj_model.specs.Past.{Past}
use Rattle.arj_law_cause.proofs.follow.causes.Turning.{of_heard}
use Rattle.arj_law_cause.proofs.waits.doomed.Behind.{BasedBehind}
use Rattle.arj_law_cause.proofs.waits.doomed.Flags.{Flags, flags_begun, flags_ended, flags_new}
use Rattle.arj_law_cause.proofs.waits.doomed.Lost.{IsDoomedSo}
use Rattle.arj_law_cause.proofs.waits.doomed.Spans.{Both}
use Rattle.arj_law_cause.proofs.waits.doomed.Walking as walking
use Rattle.arj_law_cause.proofs.waits.waiting.Running as running

pub flags_hear : (D : Uid → Type 0) (from : ℕ) (a : Asked) (r : Reply) (intents : List (Uid × Intent)) (c : Coord) → Flags D c.tree →
    Flags D (heard from a r intents c).part.tree
flags_hear D from a r intents c its = of_heard (Flags D) (flags_ended D) from a r intents c its

module _ (hd : Header) (form : HeaderFits hd) where
  -- so it is in the world, where of each doomed action this holds
  abbrev pub Ways : (Uid → Type 0) → World → Type 0
  Ways D w = walking.Stands hd form (Flags D) (flags_hear D) (flags_begun D) (flags_new D) w

  pub ways_more : (D E : Uid → Type 0) (w : World) → ((u : Uid) → D u → E u) → Ways D w → Ways E w
  ways_more D E w to z = record {
    calls = z.calls;
    trees = λ k a t there live u b found doomed. to u (z.trees k a t there live u b found doomed);
    asked = z.asked;
  }

  pub record Stands (g : History) (p : Past) (w : World) : Type 0 where
    pub base : running.Stands hd form g p w
    pub all : HoldsWith hd Both g w
    pub commits : HoldsWith hd BasedBehind g w
    pub known : Holds hd (λ M. AllKnown hd M × IsGood M) w
    pub binds : Holds hd (λ M. IsGood M × BindsAreKnown M) w
    pub ways : w.over ≡ false → Ways (λ u. IsDoomedSo p.accepted p.lines u) w
