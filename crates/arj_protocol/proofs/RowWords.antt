-- Words for worked runs: events, their lines, and labels.
use Rattle.std.specs.Prelude.{ℕ, ◌+◌, ◌/◌, ◌%◌, List, [], ◌∷◌, map, nat_lt, replicate, refl, if◌then◌else◌}
use Rattle.std.proofs.Common.{arith}
use Rattle.arj_protocol.specs.Words.{Uid, Binding, Label, Answer, Event, Body, Line, ObjectLine, Value, answer_text}
use Rattle.arj_protocol.specs.Effect.{Stop, Before}
use Rattle.arj_protocol.specs.World.{Asked}

-- a Uid of a node, an incarnation and a number
abbrev pub u : ℕ → ℕ → ℕ → Uid
u n i k = record { node = n; inc = i; num = k }

-- a binding of an incarnation and a count
abbrev pub b : ℕ → ℕ → Binding
b i n = record { inc = i; count = n }

-- an event
abbrev pub does : Event → Asked
does e = record { event = e; arm = record { works = 0; how = Before } }

-- an event, and a disk that is armed with how it will stop
abbrev pub stops : Event → ℕ → Stop → Asked
stops e k how = record { event = e; arm = record { works = k; how = how } }

-- the lines of an event
abbrev pub at : ℕ → List Body → List Line
at k bodies = map (λ s. record { event = k; body = s }) bodies

-- the text of an answer
abbrev pub text : Answer → List ℕ
text a = answer_text a

-- an object with one server and one store, node 1
abbrev pub object_line : ℕ → Value → ObjectLine
object_line x v = record { x = x; value = v; servers = 1 ∷ []; stores = 1 ∷ [] }

-- a label of one letter
abbrev pub l : ℕ → Label
l c = record { len = 1; text = c ∷ replicate 15 0; whole = refl; short = omega arith; zeros = refl }

-- a label of a letter and a number of one digit, or of two
abbrev pub l_digit : ℕ → ℕ → Label
l_digit c d = record { len = 2; text = c ∷ (48 + d) ∷ replicate 14 0; whole = refl; short = omega arith; zeros = refl }

abbrev pub l_digits : ℕ → ℕ → Label
l_digits c n = record { len = 3; text = c ∷ (48 + n / 10) ∷ (48 + n % 10) ∷ replicate 13 0; whole = refl; short = omega arith; zeros = refl }

-- a label of a letter and a number
abbrev pub l_number : ℕ → ℕ → Label
l_number c n = if nat_lt n 10 then l_digit c n else l_digits c n

abbrev pub l_A : Label
l_A = l 65

abbrev pub l_B : Label
l_B = l 66

abbrev pub l_C : Label
l_C = l 67

abbrev pub l_D : Label
l_D = l 68

abbrev pub l_I : Label
l_I = l 73

abbrev pub l_J : Label
l_J = l 74

abbrev pub l_K : Label
l_K = l 75

abbrev pub l_M : Label
l_M = l 77

abbrev pub l_N : Label
l_N = l 78

abbrev pub l_S : Label
l_S = l 83

abbrev pub l_T : Label
l_T = l 84

abbrev pub l_Z : Label
l_Z = l 90
