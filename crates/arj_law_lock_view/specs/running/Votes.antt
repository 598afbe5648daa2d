-- What commits have of votes on the object, in the whole world.
use Rattle.std.specs.Prelude.{◌≡◌, ℕ, Some}
use Rattle.arj_protocol.specs.Node.{Parts}
use Rattle.arj_protocol.specs.Step.{Node}
use Rattle.arj_law_lock.specs.machine.State.{State}
use Rattle.arj_promise.specs.Runs.{Seen}
use Rattle.arj_law_lock_view.specs.facts.Votes.{AreVoted}
use Rattle.arj_law_lock_view.specs.running.Fixed.{Fixed}

-- each coordinator that is up has the votes of its commits under way
abbrev pub AreVotedAt : Fixed → ℕ → State → Seen → Type 0
AreVotedAt f x S M = (k : ℕ) (n : Node) (t : Parts) → M.nodes k ≡ Some n → n.live ≡ Some t → AreVoted f.act f.code x t.coord S
