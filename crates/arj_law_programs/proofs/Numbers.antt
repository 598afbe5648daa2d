-- Programs keep their numbers.
use Rattle.std.proofs.Common.{◌≡◌, ◌∙◌, ℕ, List, [], ◌∷◌, refl, true, false, Bool, Option, Some, None, if◌then◌else◌, ◌&&◌, ◌||◌, ◌==◌}
use Rattle.std.specs.Str.{bytes_eq}
use Rattle.arj_journal.specs.declared.body.Body.{Body}
use Rattle.arj_journal.specs.declared.body.Body.TheVariants as body
use Rattle.arj_text.specs.Label.{name}
use Rattle.arj_prog.specs.Listing.{Listing}
use Rattle.arj_prog.specs.declared.statements.Statement.{Statement}
use Rattle.arj_prog.specs.declared.statements.Statement.TheVariants as statement
use Rattle.arj_progrun.specs.Client.{Client, Level, aborted, answered, asking, asks_by, asks_for, asks_next, begins, commits_at, cut}
use Rattle.arj_progrun.specs.Client.{hears, inner_of, inside, inside_at, is_open, is_over, is_phase, is_waiting, joins, leaves}
use Rattle.arj_progrun.specs.Client.{loses, loses_at, refused_at, stands, taken, turned, unbegun, waits, waits_on}
use Rattle.arj_progrun.specs.declared.phase.Phase.{Phase}
use Rattle.arj_progrun.specs.declared.phase.Phase.TheVariants as phase

number_if : (n : ℕ) (b : Bool) (c d : Client) → c.number ≡ n → d.number ≡ n → (let e = (if b then c else d) in e.number) ≡ n
number_if n true c d f g = f
number_if n false c d f g = g

inside_number : (bs : List Level) (f : Level → Level) (c : Client) → (let e = inside_at bs f c in e.number) ≡ c.number
inside_number [] f c = refl
inside_number (b ∷ bs) f c = refl

unbegun_number : (bs : List Level) (c : Client) → (let e = unbegun bs c in e.number) ≡ c.number
unbegun_number [] c = refl
unbegun_number (b ∷ bs) c = refl

pub refused_number : (p : Phase) (c : Client) → (let e = refused_at p c in e.number) ≡ c.number
refused_number phase.Beginning c = unbegun_number c.blocks c
refused_number _ c = refl

answered_number : (answer : List ℕ) (o : Option Statement) (c : Client) → (let e = answered answer o c in e.number) ≡ c.number
answered_number answer None c = refl
answered_number answer (Some s) c = inside_number c.blocks (taken s answer) (stands phase.Ready c)

commits_number : (bs : List Level) (c : Client) → (let e = commits_at bs c in e.number) ≡ c.number
commits_number [] c = refl
commits_number (b ∷ bs) c = inside_number bs (joins b) (record c { blocks = bs; phase = phase.Ready })

loses_number : (bs : List Level) (c : Client) → (let e = loses_at bs c in e.number) ≡ c.number
loses_number [] c = number_if c.number ((let t = c.top in t.left) == 0) (stands phase.GaveUp c) _ refl refl
loses_number (b ∷ bs) c = number_if c.number (b.left == 0) (record c { blocks = bs; phase = phase.Backing }) _ refl refl

aborted_number : (l : List ℕ) (c : Client) → (let e = aborted l c in e.number) ≡ c.number
aborted_number l c =
    number_if c.number (is_phase phase.Failing c.phase && bytes_eq (let t = c.top in t.label) l) (stands phase.Failed c) _ refl
    (number_if c.number (waits phase.Aborting l c || waits phase.Committing l c) (loses c) c (loses_number c.blocks c) refl)

pub hears_number : (b : Body) (own : Bool) (c : Client) → (let e = hears b own c in e.number) ≡ c.number
hears_number (body.Refused cause) own c = number_if c.number own (refused_at c.phase c) c (refused_number c.phase c) refl
hears_number (body.Began l k u p) own c = number_if c.number (waits phase.Beginning (name l) c) (stands phase.Ready c) c refl refl
hears_number (body.Ok l x op answer) own c =
    number_if c.number (waits phase.Calling (name l) c) (answered answer c.asked c) c (answered_number answer c.asked c) refl
hears_number (body.Conflict l h m n) own c = number_if c.number (waits phase.Calling (name l) c) (stands phase.Backing c) c refl refl
hears_number (body.Lost l n) own c = number_if c.number (waits phase.Calling (name l) c) (stands phase.Backing c) c refl refl
hears_number (body.Changed l n d) own c = number_if c.number (waits phase.Calling (name l) c) (stands phase.Backing c) c refl refl
hears_number (body.Committed l) own c =
    number_if c.number (waits phase.Committing (name l) c) (commits_at c.blocks c) c (commits_number c.blocks c) refl
hears_number (body.Aborted l cause) own c = aborted_number (name l) c
hears_number (body.Halted n) own c =
    number_if c.number ((n == c.node) && is_open c) (stands
    (if is_phase phase.Failing c.phase then phase.Failed else phase.GaveUp) c) c refl refl
hears_number _ own c = refl

begins_number : (bs : List Level) (c : Client) → (let a = begins bs c in let e = a.client in e.number) ≡ c.number
begins_number [] c = refl
begins_number (b ∷ bs) c = refl

asks_for_number : (s : Statement) (c : Client) → (let a = asks_for s c in let e = a.client in e.number) ≡ c.number
asks_for_number (statement.Do x op) c = refl
asks_for_number (statement.Print x op) c = refl
asks_for_number (statement.If x op wanted first second) c = refl
asks_for_number (statement.Block retry rest) c = refl
asks_for_number statement.Fail c = refl

asks_next_number : (o : Option (Statement × Listing)) (c : Client) → (let a = asks_next o c in let e = a.client in e.number) ≡ c.number
asks_next_number None c = refl
asks_next_number (Some p) c = asks_for_number p.0 (inside (leaves p.1) c) ∙ inside_number c.blocks (leaves p.1) c

turned_by : (p : Phase) (c : Client) →
    (let a = (if is_over p then asking None c else if is_waiting p then waits_on c else asks_by p (record c {
      waited = 0;
    })) in let e = a.client in e.number) ≡ c.number
turned_by phase.Entering c = begins_number c.blocks (record c { waited = 0 })
turned_by phase.Ready c = asks_next_number (cut (let l = inner_of c.top c.blocks in l.rest)) (record c { waited = 0 })
turned_by _ c = refl

pub turned_number : (c : Client) → (let a = turned c in let e = a.client in e.number) ≡ c.number
turned_number c = turned_by c.phase c
