-- The lines of what was read, in order: of statements, of programs, and of a draft.
use Rattle.std.specs.Prelude.{List, [], ◌∷◌, ◌++◌, Option, Some, None}
use Rattle.std.specs.List.{flat_map}
use Rattle.arj_prog.specs.declared.draft.Draft.{Draft}
use Rattle.arj_prog.specs.declared.frame.Frame.{Frame}
use Rattle.arj_prog.specs.declared.frame.Opened.{Opened}
use Rattle.arj_prog.specs.declared.frame.Opened.TheVariants as opened
use Rattle.arj_prog.specs.declared.opening.Opening.{Opening}
use Rattle.arj_prog.specs.declared.plan.Plan.{Plan}
use Rattle.arj_prog.specs.declared.plan.Program.{Program}
use Rattle.arj_prog.specs.declared.said.Said.{Said}
use Rattle.arj_prog.specs.declared.said.Said.TheVariants as said
use Rattle.arj_prog.specs.Listing.{Listing, End, Do, Print, If, Block, Fail}

-- the lines of statements
abbrev pub listing_lines : Listing → List Said
listing_lines End = []
listing_lines (Do x op rest) = said.Do x op ∷ listing_lines rest
listing_lines (Print x op rest) = said.Print x op ∷ listing_lines rest
listing_lines (If x op answer first second rest) =
    said.If x op answer ∷ (listing_lines first ++ (said.Else ∷ (listing_lines second ++ (said.End ∷ listing_lines rest))))
listing_lines (Block retry body rest) = said.Block retry ∷ (listing_lines body ++ (said.End ∷ listing_lines rest))
listing_lines (Fail rest) = said.Fail ∷ listing_lines rest

-- the lines of a program
abbrev pub program_lines : Program → List Said
program_lines p = said.Prog p.name p.node p.retry ∷ (listing_lines p.body ++ said.End ∷ [])

-- the lines of an open statement, up to its last list
abbrev pub opened_lines : Opened → List Said
opened_lines (opened.Block retry) = said.Block retry ∷ []
opened_lines (opened.If x op answer None) = said.If x op answer ∷ []
opened_lines (opened.If x op answer (Some first)) = said.If x op answer ∷ (listing_lines first ++ said.Else ∷ [])

-- the lines of open statements, the innermost first, with those before each
abbrev pub nest_lines : List Frame → List Said
nest_lines [] = []
nest_lines (f ∷ fs) = nest_lines fs ++ (listing_lines f.before ++ opened_lines f.opened)

-- the lines of a program that is being read
abbrev pub opening_lines : Opening → List Said
opening_lines o = said.Prog o.name o.node o.retry ∷ (nest_lines o.nest ++ listing_lines o.list)

-- those of one that may be there
abbrev pub lines_at : Option Opening → List Said
lines_at None = []
lines_at (Some o) = opening_lines o

-- the lines that a draft was read from, behind the turns
abbrev pub draft_lines : Draft → List Said
draft_lines d = flat_map program_lines d.programs ++ lines_at d.opening

-- the lines of a plan's programs
abbrev pub plan_lines : Plan → List Said
plan_lines plan = flat_map program_lines plan.programs
