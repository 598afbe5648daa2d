-- A listing of statements that grow.
use Rattle.std.proofs.Common.{◌≡◌, List, [], ◌∷◌, ◌++◌, refl, ap, sym, ◌∙◌}
use Rattle.arj_prog.specs.declared.statements.Statement.{Statement}
use Rattle.arj_prog.specs.declared.statements.Statement.TheVariants as statement
use Rattle.arj_prog.specs.Listed.{add, before, listing_of}
use Rattle.arj_prog.specs.Listing.{Listing, End, joined}

before_joined : (s : Statement) (rest more : Listing) → joined (before s rest) more ≡ before s (joined rest more)
before_joined (statement.Do x op) rest more = refl
before_joined _ rest more = refl

pub listing_behind : (ss : List Statement) (s : Statement) → listing_of (ss ++ s ∷ []) ≡ add (listing_of ss) s
listing_behind [] s = refl
listing_behind (t ∷ ss) s = ap (before t) (listing_behind ss s) ∙ sym (before_joined t (listing_of ss) (before s End))
