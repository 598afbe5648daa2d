-- Statements that are open one inside another, the innermost first.
use Rattle.std.specs.Prelude.{ℕ, List, [], ◌∷◌, Bool, true, false, Some, None}
use Rattle.std.specs.List.{count_by}
use Rattle.arj_prog.specs.declared.frame.Frame.{Frame}
use Rattle.arj_prog.specs.declared.frame.Opened.{Opened}
use Rattle.arj_prog.specs.declared.frame.Opened.TheVariants as opened
use Rattle.arj_prog.specs.declared.statements.Statement.{Statement}
use Rattle.arj_prog.specs.declared.statements.Statement.TheVariants as statement
use Rattle.arj_prog.specs.Listing.{Listing, End}

-- whether it is a condition in its first list
abbrev pub is_in_first : Opened → Bool
is_in_first (opened.If x op answer None) = true
is_in_first _ = false

-- whether it is a block
abbrev pub is_block : Opened → Bool
is_block (opened.Block retry) = true
is_block _ = false

-- nothing is open
abbrev pub is_nil : List Frame → Bool
is_nil [] = true
is_nil (f ∷ fs) = false

-- whether `else` may stand: a condition is innermost, in its first list
abbrev pub awaits_else : List Frame → Bool
awaits_else [] = false
awaits_else (f ∷ fs) = is_in_first f.opened

-- how many blocks are open
abbrev pub blocks_in : List Frame → ℕ
blocks_in fs = count_by (λ f. is_block f.opened) fs

-- the condition behind its first list
abbrev pub with_first : Listing → Opened → Opened
with_first list (opened.If x op answer first) = opened.If x op answer (Some list)
with_first list (opened.Block retry) = opened.Block retry

-- the innermost condition behind its first list
abbrev pub in_second : Listing → List Frame → List Frame
in_second list [] = []
in_second list (f ∷ fs) = record { before = f.before; opened = with_first list f.opened } ∷ fs

-- the statement that ends with its last list
abbrev pub ended : Opened → Listing → Statement
ended (opened.Block retry) list = statement.Block retry list
ended (opened.If x op answer (Some first)) list = statement.If x op answer first list
ended (opened.If x op answer None) list = statement.If x op answer list End
