-- Whole runs, by computation: the journal of each script is known line by line.
use Rattle.std.specs.Prelude.{◌≡◌, refl, ℕ, List, [], ◌∷◌, ◌++◌, map, Some, None}
use Rattle.arj_msg.specs.Format.{byte}
use Rattle.arj_msg.specs.Fields.{node, number4}
use Rattle.arj_msg.specs.Layout.{hello}
use Rattle.arj_protocol.specs.Words.{read_message, Label, Header, object, entry}
use Rattle.arj_protocol.specs.Words.mode
use Rattle.arj_protocol.specs.Words.op
use Rattle.arj_protocol.specs.Words.answer
use Rattle.arj_protocol.specs.Words.format
use Rattle.arj_protocol.specs.Words.value
use Rattle.arj_protocol.specs.Words.body
use Rattle.arj_protocol.specs.Words.kind
use Rattle.arj_protocol.specs.Words.frame
use Rattle.arj_protocol.specs.Words.event
use Rattle.arj_protocol.specs.Words.frame_no
use Rattle.arj_protocol.specs.World.{Asked, journal}
use Rattle.arj_protocol.proofs.RowWords.{u, b, does, at, text, object_line, l_number, l_A, l_B, l_S, l_T, l_Z}

-- labels of a letter and a number
abbrev c : ℕ → Label
c k = l_number 67 k

abbrev n : ℕ → Label
n k = l_number 78 k

header_refusals : Header
header_refusals = record { nodes = 1; objects = []; format = format.Two }

script_refusals : List Asked
script_refusals =
    does (event.Deliver (frame_no.Number 0)) ∷ does (event.Deliver (frame_no.Number 1)) ∷ does (event.Begin l_A 1) ∷ does (event.Commit l_A) ∷ does (event.Call l_A 1 op.Get) ∷
    does (event.Begin l_B 1) ∷ does (event.BeginIn (c 2) l_B) ∷ does (event.BeginIn (c 3) (c 2)) ∷ does (event.BeginIn (c 4) (c 3)) ∷ does (event.BeginIn (c 5) (c 4)) ∷
    does (event.BeginIn (c 6) (c 5)) ∷ does (event.BeginIn (c 7) (c 6)) ∷ does (event.BeginIn (c 8) (c 7)) ∷ does (event.BeginIn (c 9) (c 8)) ∷ does (event.BeginIn (c 10) (c 9)) ∷
    does (event.BeginIn (c 11) (c 10)) ∷ does (event.BeginIn (c 12) (c 11)) ∷ does (event.BeginIn (c 13) (c 12)) ∷ does (event.BeginIn (c 14) (c 13)) ∷ does (event.BeginIn (c 15) (c 14)) ∷
    does (event.BeginIn (c 16) (c 15)) ∷ does (event.BeginIn (c 17) (c 16)) ∷ does (event.Call (c 16) 1 op.Get) ∷ does (event.Commit l_B) ∷ does (event.Junk 1 (20 ∷ 2 ∷ 0 ∷ 0 ∷ 0 ∷ 3 ∷ [])) ∷
    does (event.Junk 1 (255 ∷ [])) ∷ does (event.Deliver frame_no.Last) ∷ does (event.Restart 1) ∷ does (event.Crash 2) ∷ does (event.Crash 1) ∷ does (event.Commit l_B) ∷
    does (event.Begin l_B 1) ∷ does (event.GiveUp l_Z) ∷ does (event.Restart 1) ∷ does (event.Serial l_S 1) ∷ does (event.Call l_S 1 op.Get) ∷ does (event.Top l_T l_S) ∷
    does (event.GiveUp l_S) ∷ does (event.Begin l_S 1) ∷ []

-- the refusals of events, in a row
refusals : journal header_refusals script_refusals ≡
    at 1 (body.Refused 17 ∷ [])
    ++ at 2 (body.Refused 17 ∷ [])
    ++ at 3 (body.Began l_A kind.Top (u 1 1 1) None ∷ [])
    ++ at 4 (body.Committing l_A ∷ body.Committed l_A ∷ [])
    ++ at 5 (body.Refused 6 ∷ [])
    ++ at 6 (body.Began l_B kind.Top (u 1 1 2) None ∷ [])
    ++ at 7 (body.Began (c 2) kind.Nested (u 1 1 3) (Some l_B) ∷ [])
    ++ at 8 (body.Began (c 3) kind.Nested (u 1 1 4) (Some (c 2)) ∷ [])
    ++ at 9 (body.Began (c 4) kind.Nested (u 1 1 5) (Some (c 3)) ∷ [])
    ++ at 10 (body.Began (c 5) kind.Nested (u 1 1 6) (Some (c 4)) ∷ [])
    ++ at 11 (body.Began (c 6) kind.Nested (u 1 1 7) (Some (c 5)) ∷ [])
    ++ at 12 (body.Began (c 7) kind.Nested (u 1 1 8) (Some (c 6)) ∷ [])
    ++ at 13 (body.Began (c 8) kind.Nested (u 1 1 9) (Some (c 7)) ∷ [])
    ++ at 14 (body.Began (c 9) kind.Nested (u 1 1 10) (Some (c 8)) ∷ [])
    ++ at 15 (body.Began (c 10) kind.Nested (u 1 1 11) (Some (c 9)) ∷ [])
    ++ at 16 (body.Began (c 11) kind.Nested (u 1 1 12) (Some (c 10)) ∷ [])
    ++ at 17 (body.Began (c 12) kind.Nested (u 1 1 13) (Some (c 11)) ∷ [])
    ++ at 18 (body.Began (c 13) kind.Nested (u 1 1 14) (Some (c 12)) ∷ [])
    ++ at 19 (body.Began (c 14) kind.Nested (u 1 1 15) (Some (c 13)) ∷ [])
    ++ at 20 (body.Began (c 15) kind.Nested (u 1 1 16) (Some (c 14)) ∷ [])
    ++ at 21 (body.Began (c 16) kind.Nested (u 1 1 17) (Some (c 15)) ∷ [])
    ++ at 22 (body.Refused 15 ∷ [])
    ++ at 23 (body.Refused 13 ∷ [])
    ++ at 24 (body.Refused 9 ∷ [])
    ++ at 25 (body.Refused 18 ∷ [])
    ++ at 26 (body.Sent 1 0 1 frame.Junk ∷ [])
    ++ at 27 (body.Void 1 ∷ [])
    ++ at 28 (body.Refused 3 ∷ [])
    ++ at 29 (body.Refused 1 ∷ [])
    ++ at 30 (body.Halted 1 ∷ [])
    ++ at 31 (body.Refused 6 ∷ [])
    ++ at 32 (body.Refused 2 ∷ [])
    ++ at 33 (body.Refused 5 ∷ [])
    ++ at 34 (body.Up 1 2 ∷ [])
    ++ at 35 (body.Began l_S kind.Serial (u 1 2 1) None ∷ [])
    ++ at 36 (body.Refused 11 ∷ [])
    ++ at 37 (body.Refused 10 ∷ [])
    ++ at 38 (body.Refused 8 ∷ [])
    ++ at 39 (body.Refused 4 ∷ [])
unfolding header_refusals script_refusals read_message hello node number4 byte
refusals = refl

header_many_actions : Header
header_many_actions = record { nodes = 1; objects = []; format = format.Two }

script_many_actions : List Asked
script_many_actions =
    does (event.Begin l_A 1) ∷ does (event.BeginIn (n 2) l_A) ∷ does (event.BeginIn (n 3) l_A) ∷ does (event.BeginIn (n 4) l_A) ∷ does (event.BeginIn (n 5) l_A) ∷
    does (event.BeginIn (n 6) l_A) ∷ does (event.BeginIn (n 7) l_A) ∷ does (event.BeginIn (n 8) l_A) ∷ does (event.BeginIn (n 9) l_A) ∷ does (event.BeginIn (n 10) l_A) ∷
    does (event.BeginIn (n 11) l_A) ∷ does (event.BeginIn (n 12) l_A) ∷ does (event.BeginIn (n 13) l_A) ∷ does (event.BeginIn (n 14) l_A) ∷ does (event.BeginIn (n 15) l_A) ∷
    does (event.BeginIn (n 16) l_A) ∷ does (event.BeginIn (n 17) l_A) ∷ does (event.BeginIn (n 18) l_A) ∷ does (event.BeginIn (n 19) l_A) ∷ does (event.BeginIn (n 20) l_A) ∷
    does (event.BeginIn (n 21) l_A) ∷ does (event.BeginIn (n 22) l_A) ∷ does (event.BeginIn (n 23) l_A) ∷ does (event.BeginIn (n 24) l_A) ∷ does (event.BeginIn (n 25) l_A) ∷
    does (event.BeginIn (n 26) l_A) ∷ does (event.BeginIn (n 27) l_A) ∷ does (event.BeginIn (n 28) l_A) ∷ does (event.BeginIn (n 29) l_A) ∷ does (event.BeginIn (n 30) l_A) ∷
    does (event.BeginIn (n 31) l_A) ∷ does (event.BeginIn (n 32) l_A) ∷ does (event.BeginIn (n 33) l_A) ∷ does (event.BeginIn (n 34) l_A) ∷ does (event.BeginIn (n 35) l_A) ∷
    does (event.BeginIn (n 36) l_A) ∷ does (event.BeginIn (n 37) l_A) ∷ does (event.BeginIn (n 38) l_A) ∷ does (event.BeginIn (n 39) l_A) ∷ does (event.BeginIn (n 40) l_A) ∷
    does (event.BeginIn (n 41) l_A) ∷ does (event.BeginIn (n 42) l_A) ∷ does (event.BeginIn (n 43) l_A) ∷ does (event.BeginIn (n 44) l_A) ∷ does (event.BeginIn (n 45) l_A) ∷
    does (event.BeginIn (n 46) l_A) ∷ does (event.BeginIn (n 47) l_A) ∷ does (event.BeginIn (n 48) l_A) ∷ does (event.BeginIn (n 49) l_A) ∷ does (event.BeginIn (n 50) l_A) ∷
    does (event.BeginIn (n 51) l_A) ∷ does (event.BeginIn (n 52) l_A) ∷ does (event.BeginIn (n 53) l_A) ∷ does (event.BeginIn (n 54) l_A) ∷ does (event.BeginIn (n 55) l_A) ∷
    does (event.BeginIn (n 56) l_A) ∷ does (event.BeginIn (n 57) l_A) ∷ does (event.BeginIn (n 58) l_A) ∷ does (event.BeginIn (n 59) l_A) ∷ does (event.BeginIn (n 60) l_A) ∷
    does (event.BeginIn (n 61) l_A) ∷ does (event.BeginIn (n 62) l_A) ∷ does (event.BeginIn (n 63) l_A) ∷ does (event.BeginIn (n 64) l_A) ∷ does (event.BeginIn (n 65) l_A) ∷
    does (event.Begin l_B 1) ∷ []

-- the sixty-fifth action of a root is refused
many_actions : journal header_many_actions script_many_actions ≡
    at 1 (body.Began l_A kind.Top (u 1 1 1) None ∷ [])
    ++ at 2 (body.Began (n 2) kind.Nested (u 1 1 2) (Some l_A) ∷ [])
    ++ at 3 (body.Began (n 3) kind.Nested (u 1 1 3) (Some l_A) ∷ [])
    ++ at 4 (body.Began (n 4) kind.Nested (u 1 1 4) (Some l_A) ∷ [])
    ++ at 5 (body.Began (n 5) kind.Nested (u 1 1 5) (Some l_A) ∷ [])
    ++ at 6 (body.Began (n 6) kind.Nested (u 1 1 6) (Some l_A) ∷ [])
    ++ at 7 (body.Began (n 7) kind.Nested (u 1 1 7) (Some l_A) ∷ [])
    ++ at 8 (body.Began (n 8) kind.Nested (u 1 1 8) (Some l_A) ∷ [])
    ++ at 9 (body.Began (n 9) kind.Nested (u 1 1 9) (Some l_A) ∷ [])
    ++ at 10 (body.Began (n 10) kind.Nested (u 1 1 10) (Some l_A) ∷ [])
    ++ at 11 (body.Began (n 11) kind.Nested (u 1 1 11) (Some l_A) ∷ [])
    ++ at 12 (body.Began (n 12) kind.Nested (u 1 1 12) (Some l_A) ∷ [])
    ++ at 13 (body.Began (n 13) kind.Nested (u 1 1 13) (Some l_A) ∷ [])
    ++ at 14 (body.Began (n 14) kind.Nested (u 1 1 14) (Some l_A) ∷ [])
    ++ at 15 (body.Began (n 15) kind.Nested (u 1 1 15) (Some l_A) ∷ [])
    ++ at 16 (body.Began (n 16) kind.Nested (u 1 1 16) (Some l_A) ∷ [])
    ++ at 17 (body.Began (n 17) kind.Nested (u 1 1 17) (Some l_A) ∷ [])
    ++ at 18 (body.Began (n 18) kind.Nested (u 1 1 18) (Some l_A) ∷ [])
    ++ at 19 (body.Began (n 19) kind.Nested (u 1 1 19) (Some l_A) ∷ [])
    ++ at 20 (body.Began (n 20) kind.Nested (u 1 1 20) (Some l_A) ∷ [])
    ++ at 21 (body.Began (n 21) kind.Nested (u 1 1 21) (Some l_A) ∷ [])
    ++ at 22 (body.Began (n 22) kind.Nested (u 1 1 22) (Some l_A) ∷ [])
    ++ at 23 (body.Began (n 23) kind.Nested (u 1 1 23) (Some l_A) ∷ [])
    ++ at 24 (body.Began (n 24) kind.Nested (u 1 1 24) (Some l_A) ∷ [])
    ++ at 25 (body.Began (n 25) kind.Nested (u 1 1 25) (Some l_A) ∷ [])
    ++ at 26 (body.Began (n 26) kind.Nested (u 1 1 26) (Some l_A) ∷ [])
    ++ at 27 (body.Began (n 27) kind.Nested (u 1 1 27) (Some l_A) ∷ [])
    ++ at 28 (body.Began (n 28) kind.Nested (u 1 1 28) (Some l_A) ∷ [])
    ++ at 29 (body.Began (n 29) kind.Nested (u 1 1 29) (Some l_A) ∷ [])
    ++ at 30 (body.Began (n 30) kind.Nested (u 1 1 30) (Some l_A) ∷ [])
    ++ at 31 (body.Began (n 31) kind.Nested (u 1 1 31) (Some l_A) ∷ [])
    ++ at 32 (body.Began (n 32) kind.Nested (u 1 1 32) (Some l_A) ∷ [])
    ++ at 33 (body.Began (n 33) kind.Nested (u 1 1 33) (Some l_A) ∷ [])
    ++ at 34 (body.Began (n 34) kind.Nested (u 1 1 34) (Some l_A) ∷ [])
    ++ at 35 (body.Began (n 35) kind.Nested (u 1 1 35) (Some l_A) ∷ [])
    ++ at 36 (body.Began (n 36) kind.Nested (u 1 1 36) (Some l_A) ∷ [])
    ++ at 37 (body.Began (n 37) kind.Nested (u 1 1 37) (Some l_A) ∷ [])
    ++ at 38 (body.Began (n 38) kind.Nested (u 1 1 38) (Some l_A) ∷ [])
    ++ at 39 (body.Began (n 39) kind.Nested (u 1 1 39) (Some l_A) ∷ [])
    ++ at 40 (body.Began (n 40) kind.Nested (u 1 1 40) (Some l_A) ∷ [])
    ++ at 41 (body.Began (n 41) kind.Nested (u 1 1 41) (Some l_A) ∷ [])
    ++ at 42 (body.Began (n 42) kind.Nested (u 1 1 42) (Some l_A) ∷ [])
    ++ at 43 (body.Began (n 43) kind.Nested (u 1 1 43) (Some l_A) ∷ [])
    ++ at 44 (body.Began (n 44) kind.Nested (u 1 1 44) (Some l_A) ∷ [])
    ++ at 45 (body.Began (n 45) kind.Nested (u 1 1 45) (Some l_A) ∷ [])
    ++ at 46 (body.Began (n 46) kind.Nested (u 1 1 46) (Some l_A) ∷ [])
    ++ at 47 (body.Began (n 47) kind.Nested (u 1 1 47) (Some l_A) ∷ [])
    ++ at 48 (body.Began (n 48) kind.Nested (u 1 1 48) (Some l_A) ∷ [])
    ++ at 49 (body.Began (n 49) kind.Nested (u 1 1 49) (Some l_A) ∷ [])
    ++ at 50 (body.Began (n 50) kind.Nested (u 1 1 50) (Some l_A) ∷ [])
    ++ at 51 (body.Began (n 51) kind.Nested (u 1 1 51) (Some l_A) ∷ [])
    ++ at 52 (body.Began (n 52) kind.Nested (u 1 1 52) (Some l_A) ∷ [])
    ++ at 53 (body.Began (n 53) kind.Nested (u 1 1 53) (Some l_A) ∷ [])
    ++ at 54 (body.Began (n 54) kind.Nested (u 1 1 54) (Some l_A) ∷ [])
    ++ at 55 (body.Began (n 55) kind.Nested (u 1 1 55) (Some l_A) ∷ [])
    ++ at 56 (body.Began (n 56) kind.Nested (u 1 1 56) (Some l_A) ∷ [])
    ++ at 57 (body.Began (n 57) kind.Nested (u 1 1 57) (Some l_A) ∷ [])
    ++ at 58 (body.Began (n 58) kind.Nested (u 1 1 58) (Some l_A) ∷ [])
    ++ at 59 (body.Began (n 59) kind.Nested (u 1 1 59) (Some l_A) ∷ [])
    ++ at 60 (body.Began (n 60) kind.Nested (u 1 1 60) (Some l_A) ∷ [])
    ++ at 61 (body.Began (n 61) kind.Nested (u 1 1 61) (Some l_A) ∷ [])
    ++ at 62 (body.Began (n 62) kind.Nested (u 1 1 62) (Some l_A) ∷ [])
    ++ at 63 (body.Began (n 63) kind.Nested (u 1 1 63) (Some l_A) ∷ [])
    ++ at 64 (body.Began (n 64) kind.Nested (u 1 1 64) (Some l_A) ∷ [])
    ++ at 65 (body.Refused 16 ∷ [])
    ++ at 66 (body.Began l_B kind.Top (u 1 1 65) None ∷ [])
unfolding header_many_actions script_many_actions
many_actions = refl

header_many_objects : Header
header_many_objects =
    record { nodes = 1; objects = map (λ x. object_line x (value.Counter 0)) (1 ∷ 2 ∷ 3 ∷ 4 ∷ 5 ∷ 6 ∷ 7 ∷ 8 ∷ 9 ∷ 10 ∷ 11 ∷ 12 ∷ 13 ∷ 14 ∷ 15 ∷ 16 ∷ 17 ∷ []); format = format.Two }

script_many_objects : List Asked
script_many_objects =
    does (event.Begin l_A 1) ∷ does (event.Call l_A 1 op.Get) ∷ does (event.Call l_A 2 op.Get) ∷ does (event.Call l_A 3 op.Get) ∷ does (event.Call l_A 4 op.Get) ∷
    does (event.Call l_A 5 op.Get) ∷ does (event.Call l_A 6 op.Get) ∷ does (event.Call l_A 7 op.Get) ∷ does (event.Call l_A 8 op.Get) ∷ does (event.Call l_A 9 op.Get) ∷
    does (event.Call l_A 10 op.Get) ∷ does (event.Call l_A 11 op.Get) ∷ does (event.Call l_A 12 op.Get) ∷ does (event.Call l_A 13 op.Get) ∷ does (event.Call l_A 14 op.Get) ∷
    does (event.Call l_A 15 op.Get) ∷ does (event.Call l_A 16 op.Get) ∷ does (event.Call l_A 17 op.Get) ∷ []

-- the seventeenth object of a root is refused
many_objects : journal header_many_objects script_many_objects ≡
    at 1 (body.Began l_A kind.Top (u 1 1 1) None ∷ [])
    ++ at 2 (body.Granted 1 (u 1 1 1) (entry 1) mode.Write ∷ body.Bound 1 (b 1 1) 1 ∷ body.Active 1 1 (b 1 1) ∷ body.Lowered 1 (u 1 1 1) (entry 1) ∷ body.Granted 1 (u 1 1 1) (object 1) mode.Read ∷ body.Ok l_A 1 op.Get (text (answer.Number 0)) ∷ [])
    ++ at 3 (body.Granted 1 (u 1 1 1) (entry 2) mode.Write ∷ body.Bound 2 (b 1 2) 1 ∷ body.Active 1 2 (b 1 2) ∷ body.Lowered 1 (u 1 1 1) (entry 2) ∷ body.Granted 1 (u 1 1 1) (object 2) mode.Read ∷ body.Ok l_A 2 op.Get (text (answer.Number 0)) ∷ [])
    ++ at 4 (body.Granted 1 (u 1 1 1) (entry 3) mode.Write ∷ body.Bound 3 (b 1 3) 1 ∷ body.Active 1 3 (b 1 3) ∷ body.Lowered 1 (u 1 1 1) (entry 3) ∷ body.Granted 1 (u 1 1 1) (object 3) mode.Read ∷ body.Ok l_A 3 op.Get (text (answer.Number 0)) ∷ [])
    ++ at 5 (body.Granted 1 (u 1 1 1) (entry 4) mode.Write ∷ body.Bound 4 (b 1 4) 1 ∷ body.Active 1 4 (b 1 4) ∷ body.Lowered 1 (u 1 1 1) (entry 4) ∷ body.Granted 1 (u 1 1 1) (object 4) mode.Read ∷ body.Ok l_A 4 op.Get (text (answer.Number 0)) ∷ [])
    ++ at 6 (body.Granted 1 (u 1 1 1) (entry 5) mode.Write ∷ body.Bound 5 (b 1 5) 1 ∷ body.Active 1 5 (b 1 5) ∷ body.Lowered 1 (u 1 1 1) (entry 5) ∷ body.Granted 1 (u 1 1 1) (object 5) mode.Read ∷ body.Ok l_A 5 op.Get (text (answer.Number 0)) ∷ [])
    ++ at 7 (body.Granted 1 (u 1 1 1) (entry 6) mode.Write ∷ body.Bound 6 (b 1 6) 1 ∷ body.Active 1 6 (b 1 6) ∷ body.Lowered 1 (u 1 1 1) (entry 6) ∷ body.Granted 1 (u 1 1 1) (object 6) mode.Read ∷ body.Ok l_A 6 op.Get (text (answer.Number 0)) ∷ [])
    ++ at 8 (body.Granted 1 (u 1 1 1) (entry 7) mode.Write ∷ body.Bound 7 (b 1 7) 1 ∷ body.Active 1 7 (b 1 7) ∷ body.Lowered 1 (u 1 1 1) (entry 7) ∷ body.Granted 1 (u 1 1 1) (object 7) mode.Read ∷ body.Ok l_A 7 op.Get (text (answer.Number 0)) ∷ [])
    ++ at 9 (body.Granted 1 (u 1 1 1) (entry 8) mode.Write ∷ body.Bound 8 (b 1 8) 1 ∷ body.Active 1 8 (b 1 8) ∷ body.Lowered 1 (u 1 1 1) (entry 8) ∷ body.Granted 1 (u 1 1 1) (object 8) mode.Read ∷ body.Ok l_A 8 op.Get (text (answer.Number 0)) ∷ [])
    ++ at 10 (body.Granted 1 (u 1 1 1) (entry 9) mode.Write ∷ body.Bound 9 (b 1 9) 1 ∷ body.Active 1 9 (b 1 9) ∷ body.Lowered 1 (u 1 1 1) (entry 9) ∷ body.Granted 1 (u 1 1 1) (object 9) mode.Read ∷ body.Ok l_A 9 op.Get (text (answer.Number 0)) ∷ [])
    ++ at 11 (body.Granted 1 (u 1 1 1) (entry 10) mode.Write ∷ body.Bound 10 (b 1 10) 1 ∷ body.Active 1 10 (b 1 10) ∷ body.Lowered 1 (u 1 1 1) (entry 10) ∷ body.Granted 1 (u 1 1 1) (object 10) mode.Read ∷ body.Ok l_A 10 op.Get (text (answer.Number 0)) ∷ [])
    ++ at 12 (body.Granted 1 (u 1 1 1) (entry 11) mode.Write ∷ body.Bound 11 (b 1 11) 1 ∷ body.Active 1 11 (b 1 11) ∷ body.Lowered 1 (u 1 1 1) (entry 11) ∷ body.Granted 1 (u 1 1 1) (object 11) mode.Read ∷ body.Ok l_A 11 op.Get (text (answer.Number 0)) ∷ [])
    ++ at 13 (body.Granted 1 (u 1 1 1) (entry 12) mode.Write ∷ body.Bound 12 (b 1 12) 1 ∷ body.Active 1 12 (b 1 12) ∷ body.Lowered 1 (u 1 1 1) (entry 12) ∷ body.Granted 1 (u 1 1 1) (object 12) mode.Read ∷ body.Ok l_A 12 op.Get (text (answer.Number 0)) ∷ [])
    ++ at 14 (body.Granted 1 (u 1 1 1) (entry 13) mode.Write ∷ body.Bound 13 (b 1 13) 1 ∷ body.Active 1 13 (b 1 13) ∷ body.Lowered 1 (u 1 1 1) (entry 13) ∷ body.Granted 1 (u 1 1 1) (object 13) mode.Read ∷ body.Ok l_A 13 op.Get (text (answer.Number 0)) ∷ [])
    ++ at 15 (body.Granted 1 (u 1 1 1) (entry 14) mode.Write ∷ body.Bound 14 (b 1 14) 1 ∷ body.Active 1 14 (b 1 14) ∷ body.Lowered 1 (u 1 1 1) (entry 14) ∷ body.Granted 1 (u 1 1 1) (object 14) mode.Read ∷ body.Ok l_A 14 op.Get (text (answer.Number 0)) ∷ [])
    ++ at 16 (body.Granted 1 (u 1 1 1) (entry 15) mode.Write ∷ body.Bound 15 (b 1 15) 1 ∷ body.Active 1 15 (b 1 15) ∷ body.Lowered 1 (u 1 1 1) (entry 15) ∷ body.Granted 1 (u 1 1 1) (object 15) mode.Read ∷ body.Ok l_A 15 op.Get (text (answer.Number 0)) ∷ [])
    ++ at 17 (body.Granted 1 (u 1 1 1) (entry 16) mode.Write ∷ body.Bound 16 (b 1 16) 1 ∷ body.Active 1 16 (b 1 16) ∷ body.Lowered 1 (u 1 1 1) (entry 16) ∷ body.Granted 1 (u 1 1 1) (object 16) mode.Read ∷ body.Ok l_A 16 op.Get (text (answer.Number 0)) ∷ [])
    ++ at 18 (body.Refused 16 ∷ [])
unfolding header_many_objects script_many_objects
many_objects = refl
