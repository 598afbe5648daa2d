-- Answers to a Bind name a binding and its server.
use Rattle.std.specs.Prelude.{◌≡◌, ℕ}
use Rattle.arj_protocol.specs.Words.{Binding, BoundReply}
use Rattle.arj_protocol.specs.Words.bound
use Rattle.arj_protocol.specs.Ask.{Reply}

-- the answer names this binding, and this server
abbrev pub Names : BoundReply → Binding → ℕ → Type 0
Names (bound.Live b server i g stores) c n = (b ≡ c) × (server ≡ n)
Names (bound.Make b server g stores) c n = (b ≡ c) × (server ≡ n)
Names (bound.Write g stores) c n = ⊥
Names (bound.Conflict holder m) c n = ⊥

-- so it is of an answer of any kind
abbrev pub NamesIn : Reply → Binding → ℕ → Type 0
NamesIn (Reply.Bound r) c n = Names r c n
NamesIn _ c n = ⊥
