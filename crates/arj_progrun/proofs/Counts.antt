-- How far the counts of a program go in a turn.
use Rattle.std.proofs.Common.{◌≤◌, ◌+◌, ℕ, List, [], ◌∷◌, true, false, Bool, Some, None, Option, if◌then◌else◌, ◌||◌, ◌==◌, arith}
use Rattle.arj_journal.specs.declared.body.Body.{Body}
use Rattle.arj_journal.specs.declared.body.Body.TheVariants as body
use Rattle.arj_prog.specs.Listing.{Listing}
use Rattle.arj_prog.specs.declared.statements.Statement.{Statement}
use Rattle.arj_prog.specs.declared.statements.Statement.TheVariants as statement
use Rattle.arj_progrun.specs.Client.{Client, Level, aborted, again, answered, asking, asks_by, asks_for, asks_next, begins, commits_at, cut}
use Rattle.arj_progrun.specs.Client.{hears, inner_of, inside, inside_at, is_over, is_phase, is_waiting, leaves, loses, loses_at, refused_at}
use Rattle.arj_progrun.specs.Client.{stands, taken, turned, unbegun, waits, waits_on}
use Rattle.arj_progrun.specs.declared.phase.Phase.{Phase}
use Rattle.arj_progrun.specs.declared.phase.Phase.TheVariants as phase

-- the program has begun no more actions, nor waited longer, than this
abbrev pub IsUpTo : ℕ → Client → Type 0
IsUpTo n c = (c.begun ≤ n) × (c.waited ≤ n)

up : (n : ℕ) (c : Client) → IsUpTo n c → IsUpTo (n + 1) c
up n c h = (omega (arith, h.0), omega (arith, h.1))

either : (n : ℕ) (b : Bool) (c d : Client) → IsUpTo n c → IsUpTo n d → IsUpTo n (if b then c else d)
either n true c d h k = h
either n false c d h k = k

inside_up : (n : ℕ) (f : Level → Level) (bs : List Level) (c : Client) → IsUpTo n c → IsUpTo n (inside_at bs f c)
inside_up n f [] c h = h
inside_up n f (b ∷ bs) c h = h

unbegun_up : (n : ℕ) (bs : List Level) (c : Client) → IsUpTo n c → IsUpTo n (unbegun bs c)
unbegun_up n [] c h = h
unbegun_up n (b ∷ bs) c h = h

refused_up : (n : ℕ) (p : Phase) (c : Client) → IsUpTo n c → IsUpTo n (refused_at p c)
refused_up n phase.Beginning c h = unbegun_up n c.blocks c h
refused_up n phase.Calling c h = h
refused_up n phase.Committing c h = h
refused_up n phase.Aborting c h = h
refused_up n phase.Failing c h = h
refused_up n _ c h = h

answered_up : (n : ℕ) (answer : List ℕ) (asked : Option Statement) (c : Client) → IsUpTo n c → IsUpTo n (answered answer asked c)
answered_up n answer None c h = h
answered_up n answer (Some s) c h = inside_up n (taken s answer) c.blocks (stands phase.Ready c) h

commits_up : (n : ℕ) (bs : List Level) (c : Client) → IsUpTo n c → IsUpTo n (commits_at bs c)
commits_up n [] c h = h
commits_up n (b ∷ bs) c h = inside_up n _ bs (record c { blocks = bs; phase = phase.Ready }) h

loses_up : (n : ℕ) (bs : List Level) (c : Client) → IsUpTo n c → IsUpTo n (loses_at bs c)
loses_up n [] c h = either n ((let t = c.top in t.left) == 0) (stands phase.GaveUp c) _ h (let e : 0 ≤ n = omega arith in e, h.1)
loses_up n (b ∷ bs) c h =
    either n (b.left == 0) (record c { blocks = bs; phase = phase.Backing }) (record c {
      blocks = again b ∷ bs;
      phase =
          phase.Entering;
    }) h h

aborted_up : (n : ℕ) (label : List ℕ) (c : Client) → IsUpTo n c → IsUpTo n (aborted label c)
aborted_up n label c h =
    either n _ (stands phase.Failed c) _ h
    (either n (waits phase.Aborting label c || waits phase.Committing label c) (loses c) c (loses_up n c.blocks c h) h)

-- what is heard counts nothing
pub hears_up : (n : ℕ) (b : Body) (own : Bool) (c : Client) → IsUpTo n c → IsUpTo n (hears b own c)
hears_up n (body.Refused cause) own c h = either n own (refused_at c.phase c) c (refused_up n c.phase c h) h
hears_up n (body.Began l k u p) own c h = either n (waits phase.Beginning _ c) (stands phase.Ready c) c h h
hears_up n (body.Ok l x op answer) own c h =
    either n (waits phase.Calling _ c) (answered answer c.asked c) c (answered_up n answer c.asked c h) h
hears_up n (body.Conflict l u m k) own c h = either n (waits phase.Calling _ c) (stands phase.Backing c) c h h
hears_up n (body.Lost l k) own c h = either n (waits phase.Calling _ c) (stands phase.Backing c) c h h
hears_up n (body.Changed l k d) own c h = either n (waits phase.Calling _ c) (stands phase.Backing c) c h h
hears_up n (body.Committed l) own c h = either n (waits phase.Committing _ c) (commits_at c.blocks c) c (commits_up n c.blocks c h) h
hears_up n (body.Aborted l cause) own c h = aborted_up n _ c h
hears_up n (body.Halted k) own c h = either n _ (stands (if is_phase phase.Failing c.phase then phase.Failed else phase.GaveUp) c) c h h
hears_up n _ own c h = h

begins_up : (n : ℕ) (bs : List Level) (c : Client) → IsUpTo n c → IsUpTo (n + 1) (let a = begins bs c in a.client)
begins_up n [] c h = up n c h
begins_up n (b ∷ bs) c h = (let e : c.begun + 1 ≤ n + 1 = omega (arith, h.0) in e, omega (arith, h.1))

asks_for_up : (n : ℕ) (s : Statement) (c : Client) → IsUpTo n c → IsUpTo (n + 1) (let a = asks_for s c in a.client)
asks_for_up n (statement.Do x op) c h = up n c h
asks_for_up n (statement.Print x op) c h = up n c h
asks_for_up n (statement.If x op wanted first second) c h = up n c h
asks_for_up n (statement.Block retry body) c h = (let e : c.begun + 1 ≤ n + 1 = omega (arith, h.0) in e, omega (arith, h.1))
asks_for_up n statement.Fail c h = up n c h

asks_next_up : (n : ℕ) (o : Option (Statement × Listing)) (c : Client) → IsUpTo n c → IsUpTo (n + 1) (let a = asks_next o c in a.client)
asks_next_up n None c h = up n c h
asks_next_up n (Some p) c h = asks_for_up n p.0 (inside (leaves p.1) c) (inside_up n (leaves p.1) c.blocks c h)

asks_up : (n : ℕ) (p : Phase) (c : Client) → IsUpTo n c → IsUpTo (n + 1) (let a = asks_by p c in a.client)
asks_up n phase.Entering c h = begins_up n c.blocks c h
asks_up n phase.Backing c h = up n c h
asks_up n _ c h = asks_next_up n (cut (let l = inner_of c.top c.blocks in l.rest)) c h

by_turn : (n : ℕ) (over waiting : Bool) (p : Phase) (c : Client) → IsUpTo n c →
    IsUpTo (n + 1) (let a =
    (if over then asking None c else if waiting then waits_on c else asks_by p (record c { waited = 0 })) in a.client)
by_turn n true waiting p c h = up n c h
by_turn n false true p c h = (omega (arith, h.0), let e : c.waited + 1 ≤ n + 1 = omega (arith, h.1) in e)
by_turn n false false p c h = asks_up n p (record c { waited = 0 }) (h.0, let e : 0 ≤ n = omega arith in e)

-- a turn counts one at most
pub turned_up : (n : ℕ) (c : Client) → IsUpTo n c → IsUpTo (n + 1) (let a = turned c in a.client)
turned_up n c h = by_turn n (is_over c.phase) (is_waiting c.phase) c.phase c h
