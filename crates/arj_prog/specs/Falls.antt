-- A list in a statement has fewer statements than the list that holds it.
use Rattle.std.specs.Prelude.{◌≤◌, List, [], ◌∷◌}
use Rattle.std.proofs.Common.{arith}
use denote.Param.Weighed.{most}
use Rattle.arj_prog.specs.declared.statements.Statement.{Statement}
use Rattle.arj_prog.specs.declared.statements.Statement.TheVariants as statement
use Rattle.arj_prog.specs.declared.statements.Statements.TheDeep.{deep-Statement}
use Rattle.arj_prog.specs.Listing.{statement_count}
use Rattle.arj_prog.specs.Listed.{listing_of}

-- no list is deeper than the statements are many
pub deepest : (ss : List Statement) → most deep-Statement ss ≤ statement_count (listing_of ss)
deepest [] = omega arith
deepest (statement.Do x op ∷ ss) = omega (arith, deepest ss)
deepest (statement.Print x op ∷ ss) = omega (arith, deepest ss)
deepest (statement.If x op answer first second ∷ ss) = omega (arith, deepest ss)
deepest (statement.Block retry body ∷ ss) = omega (arith, deepest ss)
deepest (statement.Fail ∷ ss) = omega (arith, deepest ss)
