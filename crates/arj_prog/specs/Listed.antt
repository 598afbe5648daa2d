-- Statements in lists, seen as a tree.
use Rattle.std.specs.Prelude.{List, [], ◌∷◌}
use Rattle.arj_prog.specs.declared.statements.Statement.{Statement}
use Rattle.arj_prog.specs.declared.statements.Statement.TheVariants as statement
use Rattle.arj_prog.specs.Listing.{Listing, End, Do, Print, If, Block, Fail, joined}

-- a statement before others
abbrev pub before : Statement → Listing → Listing
before (statement.Do x op) rest = Do x op rest
before (statement.Print x op) rest = Print x op rest
before (statement.If x op answer first second) rest = If x op answer first second rest
before (statement.Block retry body) rest = Block retry body rest
before statement.Fail rest = Fail rest

-- these statements, one after another
abbrev pub listing_of : List Statement → Listing
listing_of [] = End
listing_of (s ∷ ss) = before s (listing_of ss)

-- a statement behind others
abbrev pub add : Listing → Statement → Listing
add listing s = joined listing (before s End)
