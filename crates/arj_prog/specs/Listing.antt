-- Statements one after another, as a tree.
use Rattle.std.specs.Prelude.{ℕ, ◌+◌}
use Rattle.arj_class.specs.declared.op.Op.{Op}
use Rattle.arj_class.specs.declared.op.Answer.{Answer}

-- Statements, one after another.
pub data Listing : Type 0 where
  End : Listing
  Do : (x : ℕ) (op : Op) (rest : Listing) → Listing
  Print : (x : ℕ) (op : Op) (rest : Listing) → Listing
  If : (x : ℕ) (op : Op) (answer : Answer) (first second rest : Listing) → Listing
  Block : (retry : ℕ) (body rest : Listing) → Listing
  Fail : (rest : Listing) → Listing

-- how many statements there are, those in others counted
abbrev pub statement_count : Listing → ℕ
statement_count End = 0
statement_count (Do x op rest) = 1 + statement_count rest
statement_count (Print x op rest) = 1 + statement_count rest
statement_count (If x op answer first second rest) = 1 + statement_count first + statement_count second + statement_count rest
statement_count (Block retry body rest) = 1 + statement_count body + statement_count rest
statement_count (Fail rest) = 1 + statement_count rest

-- these statements, and then those
abbrev pub joined : Listing → Listing → Listing
joined End more = more
joined (Do x op rest) more = Do x op (joined rest more)
joined (Print x op rest) more = Print x op (joined rest more)
joined (If x op answer first second rest) more = If x op answer first second (joined rest more)
joined (Block retry body rest) more = Block retry body (joined rest more)
joined (Fail rest) more = Fail (joined rest more)
