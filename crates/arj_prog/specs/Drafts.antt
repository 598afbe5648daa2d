-- Programs that are being read: which line may come next, and what it adds.
use Rattle.std.specs.Prelude.{ℕ, ◌+◌, List, [], ◌∷◌, ◌++◌, length, Bool, true, false, ◌&&◌, nat_lt, nat_le, not, if◌then◌else◌, Option}
use Rattle.std.specs.Prelude.{Some, None}
use Rattle.std.specs.List.{list_any}
use Rattle.std.specs.Str.{bytes_eq}
use Rattle.arj_prog.specs.declared.draft.Draft.{Draft}
use Rattle.arj_prog.specs.declared.frame.Frame.{Frame}
use Rattle.arj_prog.specs.declared.frame.Opened.{Opened}
use Rattle.arj_prog.specs.declared.frame.Opened.TheVariants as opened
use Rattle.arj_prog.specs.declared.limits.TheConstants.{BLOCKS, PROGRAMS, STATEMENTS}
use Rattle.arj_prog.specs.declared.opening.Opening.{Opening}
use Rattle.arj_prog.specs.declared.plan.Plan.{Plan}
use Rattle.arj_prog.specs.declared.plan.Program.{Program}
use Rattle.arj_prog.specs.declared.said.Said.{Said}
use Rattle.arj_prog.specs.declared.said.Said.TheVariants as said
use Rattle.arj_prog.specs.declared.statements.Statement.{Statement}
use Rattle.arj_prog.specs.declared.statements.Statement.TheVariants as statement
use Rattle.arj_prog.specs.Listed.{add}
use Rattle.arj_prog.specs.Listing.{Listing, End}
use Rattle.arj_prog.specs.Nesting.{awaits_else, blocks_in, ended, in_second, is_nil}
use Rattle.arj_prog.specs.Objects.{may_use, with_used}
use Rattle.arj_text.specs.declared.label.Label.{Label}
use Rattle.arj_text.specs.Label.{name}

-- a program without statements
abbrev pub begun : Label → ℕ → ℕ → Opening
begun label node retry = record { name = label; node = node; retry = retry; nest = []; list = End; count = 0; used = [] }

-- with these open statements, this innermost list, and so many statements
abbrev pub moved : List Frame → Listing → ℕ → Opening → Opening
moved nest list count o = record { name = o.name; node = o.node; retry = o.retry; nest = nest; list = list; count = count; used = o.used }

-- with another statement in the innermost list
abbrev pub put_in : Statement → Opening → Opening
put_in s o = moved o.nest (add o.list s) (o.count + 1) o

-- with a statement open behind those of the innermost list
abbrev pub opened_in : Opened → Opening → Opening
opened_in what o = moved (record { before = o.list; opened = what } ∷ o.nest) End (o.count + 1) o

-- with the innermost condition in its second list
abbrev pub second_in : Opening → Opening
second_in o = moved (in_second o.list o.nest) End o.count o

-- with the innermost statement at its end
abbrev pub ended_in : List Frame → Opening → Opening
ended_in [] o = o
ended_in (f ∷ fs) o = moved fs (add f.before (ended f.opened o.list)) o.count o

-- with this object used
abbrev pub using : ℕ → Opening → Opening
using x o = record {
  name = o.name;
  node = o.node;
  retry = o.retry;
  nest = o.nest;
  list = o.list;
  count = o.count;
  used =
      with_used x o.used;
}

-- whether another statement may come, with a call of the object
abbrev pub may_call : ℕ → Opening → Bool
may_call x o = nat_lt o.count STATEMENTS && may_use x o.used

-- whether no condition is innermost that is in its first list
abbrev pub may_end : Opening → Bool
may_end o = not (awaits_else o.nest)

-- which line may stand in a program
abbrev pub fits_in : Said → Opening → Bool
fits_in (said.Do x op) o = may_call x o
fits_in (said.Print x op) o = may_call x o
fits_in (said.If x op answer) o = may_call x o
fits_in said.Else o = awaits_else o.nest
fits_in (said.Block retry) o = nat_lt o.count STATEMENTS && nat_lt (blocks_in o.nest) BLOCKS
fits_in said.End o = may_end o
fits_in said.Fail o = nat_lt o.count STATEMENTS
fits_in _ o = false

-- the program behind it
abbrev pub behind_line : Said → Opening → Opening
behind_line (said.Do x op) o = using x (put_in (statement.Do x op) o)
behind_line (said.Print x op) o = using x (put_in (statement.Print x op) o)
behind_line (said.If x op answer) o = using x (opened_in (opened.If x op answer None) o)
behind_line said.Else o = second_in o
behind_line (said.Block retry) o = opened_in (opened.Block retry) o
behind_line said.End o = ended_in o.nest o
behind_line said.Fail o = put_in statement.Fail o
behind_line _ o = o

-- the program that was read, at its end
abbrev pub program_of : Opening → Program
program_of o = record { name = o.name; node = o.node; retry = o.retry; body = o.list }

-- some program has the name
abbrev pub has_name : List ℕ → List Program → Bool
has_name bytes ps = list_any (λ p. bytes_eq (name p.name) bytes) ps

-- whether a program of this name may begin at the node
abbrev pub may_begin : Label → ℕ → Draft → Bool
may_begin label node d = (nat_lt (length d.programs) PROGRAMS && not (has_name (name label) d.programs)) && nat_le node d.header.nodes

-- which line may stand between programs
abbrev pub fits_between : Said → Draft → Bool
fits_between (said.Prog label node retry) d = may_begin label node d
fits_between said.Run d = nat_lt 0 (length d.programs)
fits_between _ d = false

-- which line may stand, in a program or between two
abbrev pub fits_at : Option Opening → Said → Draft → Bool
fits_at None s d = fits_between s d
fits_at (Some o) s d = fits_in s o

-- which line may stand next
abbrev pub fits_draft : Said → Draft → Bool
fits_draft s d = fits_at d.opening s d

-- with this program being read
abbrev pub with_opening : Option Opening → Draft → Draft
with_opening opening d = record { header = d.header; seed = d.seed; turns = d.turns; programs = d.programs; opening = opening }

-- with another program that was read
abbrev pub with_program : Opening → Draft → Draft
with_program o d = record { header = d.header; seed = d.seed; turns = d.turns; programs = d.programs ++ program_of o ∷ []; opening = None }

-- behind a line that begins a program
abbrev pub begun_by : Said → Draft → Draft
begun_by (said.Prog label node retry) d = with_opening (Some (begun label node retry)) d
begun_by _ d = d

-- whether the line ends the program
abbrev pub ends_program : Said → Opening → Bool
ends_program said.End o = is_nil o.nest
ends_program _ o = false

-- behind a line in a program, or between two
abbrev pub draft_at : Option Opening → Said → Draft → Draft
draft_at None s d = begun_by s d
draft_at (Some o) s d = if ends_program s o then with_program o d else with_opening (Some (behind_line s o)) d

-- behind the line
abbrev pub draft_behind : Said → Draft → Draft
draft_behind s d = draft_at d.opening s d

-- the plan that was read
abbrev pub plan_of : Draft → Plan
plan_of d = record { header = d.header; seed = d.seed; turns = d.turns; programs = d.programs }

-- whether the programs are run
abbrev pub is_run : Said → Bool
is_run said.Run = true
is_run _ = false
