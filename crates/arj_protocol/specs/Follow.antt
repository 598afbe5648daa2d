-- What it means that the locks of a node follow its lines over a whole step.
use Rattle.std.specs.Prelude.{⊤, ◌≡◌, ◌==◌, ℕ, zero, suc, false, List, [], ◌∷◌, ◌++◌, map, Option, Some, None}
use Rattle.std.specs.List.{AllByRecursion}
use Rattle.arj_protocol.specs.Words.{ObjectState, entry, Uid, End, Message, Head, Path, Ask, asks, uids_of, tops_of}
use Rattle.arj_protocol.specs.Words.ask
use Rattle.arj_protocol.specs.Words.message
use Rattle.arj_protocol.specs.Effect.{Effect, Disk}
use Rattle.arj_protocol.specs.Ask.{actor, top_of, top_path}
use Rattle.arj_protocol.specs.Naming.{Naming}
use Rattle.arj_protocol.specs.Coord.{Coord}
use Rattle.arj_protocol.specs.Asking.{again_all}
use Rattle.arj_protocol.specs.Node.{Parts, Handled, Void, Took, Ran, ran, next_round, most_rounds, taken, holders, query_about, with_coord}
use Rattle.arj_protocol.specs.Step.{Node, Input, acts, tolds_again}
use Rattle.arj_protocol.specs.Step as input
use Rattle.arj_protocol.specs.Laws.{Holders, IsPathOf, AreOfActions, ServerTable, NamingTable}

-- at a node without naming there is nothing to follow
abbrev pub NamingFollows : Holders → ℕ → Option Naming → List Effect → Option Naming → Type 0
NamingFollows h x None outs None = ⊤
NamingFollows h x (Some n) outs (Some m) = NamingTable h x n outs m
NamingFollows h x _ outs _ = ⊥

-- The locks of server and naming after these effects are what their lines make of those before.
pub record TablesFollow (h : Holders) (n x : ℕ) (t : Parts) (outs : List Effect) (v : Parts) : Type 0 where
  pub server : ServerTable h n x t.server outs v.server
  pub naming : NamingFollows h x t.naming outs v.naming

-- the ends that a request brings
abbrev pub ends_in : Ask → List (Uid × End)
ends_in (ask.Invoke x b i ends op) = ends
ends_in (ask.Vote i ties ends) = ends
ends_in _ = []

-- the path is that of its action, and its leading part that of its top
pub record FitsPath (h : Holders) (p : Path) : Type 0 where
  pub actor_is : IsPathOf h (actor p) (uids_of p) (tops_of p)
  pub top_is : IsPathOf h (top_of p) (top_path p) (tops_of p)

-- what a told says is of actions
abbrev pub FitsOther : Message → Type 0
FitsOther (message.Told m) = AreOfActions m.ends
FitsOther _ = ⊤

-- a request is by a path that fits
abbrev pub FitsHead : Holders → Head → Type 0
FitsHead h hd = FitsPath h hd.path

-- a request fits by its path and its ends, any other message by what it tells
abbrev pub FitsAsked : Holders → Message → Option (Head × Ask) → Type 0
FitsAsked h m None = FitsOther m
FitsAsked h m (Some a) = FitsHead h a.0 × AreOfActions (ends_in a.1)

-- a message by a path that is that of its action, with ends of actions
abbrev pub Fits : Holders → Message → Type 0
Fits h m = FitsAsked h m (asks m)

-- and so each message that the node sends to itself, in so many rounds
abbrev pub FitRounds : Holders → ℕ → ℕ → Ran → Type 0
FitRounds h n zero r = ⊤
FitRounds h n (suc k) r = AllByRecursion (Fits h) r.queue × FitRounds h n k (next_round n r)

-- so each message that the handling of one leads to
abbrev pub FitsHandled : Holders → ℕ → Disk → Handled → Type 0
FitsHandled h n d (Void outs) = ⊤
FitsHandled h n d (Took v outs) = FitRounds h n most_rounds (ran n v outs d)

-- so a frame with a message, and each that it leads to
abbrev pub FitsFrame : Holders → Node → Parts → ℕ → Option Message → Type 0
FitsFrame h n t from None = ⊤
FitsFrame h n t from (Some m) = Fits h m × FitsHandled h n.number n.disk (taken n.number n.disk t from m)

-- so each message that what the coordinator did leads to
abbrev pub FitsDid : Holders → Node → Parts → Coord → List Effect → Type 0
FitsDid h n t c outs = FitRounds h n.number most_rounds (ran n.number (with_coord t c) outs n.disk)

-- what a tick sends
abbrev pub tick_outs : Node → Parts → List Effect
tick_outs n t = let d = again_all t.coord.doings t.coord in d.outs ++ tolds_again t.coord.telling ++ map query_about (holders n.disk t)

-- all messages that are handled in a step fit
abbrev pub FitsStep : Holders → Node → Parts → Input → Type 0
FitsStep h n t (input.Frame k from m) = FitsFrame h n t from m
FitsStep h n t input.Tick = let d = again_all t.coord.doings t.coord in FitsDid h n t d.part (tick_outs n t)
FitsStep h n t input.Restart = ⊤
FitsStep h n t input.Crash = ⊤
FitsStep h n t (input.Show x) = ⊤
FitsStep h n t i = let d = acts i n.disk.intents t.coord in FitsDid h n t d.part d.outs

-- what a step leaves of a node that stays up
abbrev pub StepFollows : Holders → ℕ → ℕ → Parts → List Effect → Option Parts → Type 0
StepFollows h n x t outs None = ⊤
StepFollows h n x t outs (Some v) = TablesFollow h n x t outs v

-- ---- restart

-- the locks that a restart gives back have their holders alone as their paths
abbrev pub alone : Holders
alone = record { path = λ u. u ∷ []; tops = λ u. 1 }

-- each is the state of an entry, of another object than those behind it
abbrev pub AreEntries : List (Uid × ObjectState) → Type 0
AreEntries [] = ⊤
AreEntries (e ∷ es) = (e.0 ≡ entry e.0.num) × AllByRecursion (λ (f : Uid × ObjectState). (f.0.num == e.0.num) ≡ false) es × AreEntries es
