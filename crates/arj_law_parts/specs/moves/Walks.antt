-- A node's effects, walked through one by one: what a stop may leave at each of its works, and what is left at the end.
use Rattle.std.specs.Prelude.{ℕ, List, [], ◌∷◌}
use Rattle.arj_protocol.specs.Words.{Body}
use Rattle.arj_protocol.specs.Words.body
use Rattle.arj_protocol.specs.Effect.{Disk, Work, Effect, Say, Send, Do, Stop, worked, stopped}
use Rattle.arj_protocol.specs.Node.{Parts}
use Rattle.arj_law_parts.specs.moves.Seen.{AreQuiet, down, up, said, posted}
use Rattle.arj_promise.specs.Runs.{Seen}

-- the node has stopped
abbrev pub halted : ℕ → ℕ → Disk → Seen → Seen
halted e k d M = said e (body.Halted k ∷ []) (down k d M)

-- the relation holds however a stop falls on the work
abbrev pub Stops : (Seen → Type 0) → ℕ → ℕ → Work → Disk → Seen → Type 0
Stops P e k w d M = (how : Stop) → P (halted e k (stopped how w d) M)

-- In event e node k does these effects one after another, from this disk on. A frame may make lines of its own.
abbrev pub Walks : (Seen → Type 0) → ℕ → ℕ → List Effect → (Disk → Seen → Type 0) → Disk → Seen → Type 0
Walks P e k [] end d M = end d M
Walks P e k (Do w ∷ es) end d M = Stops P e k w d M × Walks P e k es end (worked w d) M
Walks P e k (Say b ∷ es) end d M = Walks P e k es end d (said e (b ∷ []) M)
Walks P e k (Send to m ∷ es) end d M = (more : List Body) → AreQuiet more →
    Walks P e k es end d (said e more (posted (record { from = k; to = to; message = m }) M))

-- at the end the node is up with these parts, and the relation holds
abbrev pub Up : (Seen → Type 0) → ℕ → Parts → Disk → Seen → Type 0
Up P k t d M = P (up k d t M)
