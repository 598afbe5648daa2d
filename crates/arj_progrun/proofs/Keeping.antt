-- Programs stay good, whatever they ask and hear.
use Rattle.std.proofs.Common.{◌≡◌, ◌∙◌, ℕ, zero, suc, ◌+◌, ◌-◌, List, [], ◌∷◌, ◌++◌, refl, ap, sym, subst, true, false, Bool, Some, None}
use Rattle.std.proofs.Common.{Option, if◌then◌else◌, ◌&&◌, ◌||◌, ◌==◌, slice_get, slice_set, length, ◌%◌}
use Rattle.std.specs.List.{AllByRecursion}
use Rattle.arj_journal.specs.declared.body.Body.{Body}
use Rattle.arj_journal.specs.declared.body.Body.TheVariants as body
use Rattle.arj_journal.specs.declared.body.Line.{Line}
use Rattle.arj_prog.specs.Listing.{Listing, End}
use Rattle.arj_prog.specs.declared.plan.Plan.{Plan}
use Rattle.arj_prog.specs.declared.plan.Program.{Program}
use Rattle.arj_prog.specs.declared.statements.Statement.{Statement}
use Rattle.arj_prog.specs.declared.statements.Statement.TheVariants as statement
use Rattle.arj_progrun.proofs.Alone.{CallsAt, Entries, Goes, Here, IsFresh, IsGood, answered_at, before, block_entered, cut_back, uncut}
use Rattle.arj_progrun.proofs.Alone.{committed_at, fresh_is_here, here_means, passed, rest_in, said_in}
use Rattle.arj_progrun.proofs.Stacks.{some_same}
use Rattle.arj_progrun.specs.Alone.{MeansItsCalls, Reaches}
use Rattle.arj_progrun.specs.Client.{Ask, Client, Level, LosesLast, Settles, Ticks, aborted, again, answered, asking, asks_by, asks_for}
use Rattle.arj_progrun.specs.Client.{asks_next, begins, commits_at, cut, hears, inner_of, inside, is_over, is_phase, is_waiting, labelled}
use Rattle.arj_progrun.specs.Client.{leaves, loses, loses_at, loses_top, refused_at, stands, taken, try_label, turned, unbegun, waits}
use Rattle.arj_progrun.specs.Client.{waits_on}
use Rattle.arj_progrun.specs.Schedule.{Given, GivesAsk, Schedule, Standing, Turning, Turns, all_hear, clients_from, line_heard, lines_heard}
use Rattle.arj_progrun.specs.Schedule.{own, turn_at, turn_by, turn_drawn}
use Rattle.arj_gen.specs.Bank.{drawn, next_state}
use Rattle.arj_progrun.specs.declared.phase.Phase.{Phase}
use Rattle.arj_progrun.specs.declared.phase.Phase.TheVariants as phase

-- ---- tests

-- a choice where either side is good
chosen : (P : Client → Type 0) (b : Bool) (c d : Client) → (b ≡ true → P c) → P d → P (if b then c else d)
chosen P true c d f g = f refl
chosen P false c d f g = g

pub first_true : (a b : Bool) → (a && b) ≡ true → a ≡ true
first_true true b e = refl
first_true false b e = e

pub same_phase : (p q : Phase) → is_phase p q ≡ true → q ≡ p
same_phase phase.Beginning phase.Beginning e = refl
same_phase phase.Calling phase.Calling e = refl
same_phase phase.Committing phase.Committing e = refl
same_phase phase.Aborting phase.Aborting e = refl
same_phase phase.Failing phase.Failing e = refl
same_phase phase.Committed phase.Committed e = refl
same_phase _ _ e = let never : true ≡ false = sym e in cc

-- where it waits so, it stands so
pub waits_so : (p : Phase) (label : List ℕ) (c : Client) → waits p label c ≡ true → c.phase ≡ p
waits_so p label c e = same_phase p c.phase (first_true (is_phase p c.phase) _ e)

-- what holds where it stands so
goes_so : (p : Phase) (label : List ℕ) (c : Client) → IsGood c → waits p label c ≡ true → Goes p c.asked c.top c.blocks
goes_so p label c good e = subst (λ q. Goes q c.asked c.top c.blocks) (waits_so p label c e) good.1

-- ---- what is heard

backing : (c : Client) → IsGood c → IsGood (stands phase.Backing c)
backing c good = (good.0, tt)

gives_up : (c : Client) → IsGood c → IsGood (stands phase.GaveUp c)
gives_up c good = (good.0, tt)

fails : (c : Client) → IsGood c → IsGood (stands phase.Failed c)
fails c good = (good.0, tt)

unbegun_good : (bs : List Level) (c : Client) → c.blocks ≡ bs → IsGood c → IsGood (unbegun bs c)
unbegun_good [] c is good = (good.0, tt)
unbegun_good (b ∷ bs) c is good = (let entries : Entries c.top (b ∷ bs) = subst (λ ls. Entries c.top ls) is good.0 in entries.1, tt)

refused_good : (p : Phase) (c : Client) → IsGood c → IsGood (refused_at p c)
refused_good phase.Beginning c good = unbegun_good c.blocks c refl good
refused_good phase.Calling c good = (good.0, tt)
refused_good phase.Committing c good = (good.0, tt)
refused_good phase.Aborting c good = (good.0, tt)
refused_good phase.Failing c good = (good.0, tt)
refused_good _ c good = good

answered_some : (answer : List ℕ) (s : Statement) (c : Client) (bs : List Level) → Entries c.top bs → CallsAt (Some s) c.top bs
    → IsGood (inside (taken s answer) (record c { blocks = bs; phase = phase.Ready }))
answered_some answer s c [] entries at = (tt, answered_at c.top [] s answer at)
answered_some answer s c (b ∷ bs) entries at = (entries, answered_at c.top (b ∷ bs) s answer at)

answered_good : (answer : List ℕ) (asked : Option Statement) (c : Client) → Entries c.top c.blocks → CallsAt asked c.top c.blocks →
    IsGood (answered answer asked c)
answered_good answer None c entries at = absurd at
answered_good answer (Some s) c entries at = answered_some answer s c c.blocks entries at

commits_good : (bs : List Level) (c : Client) → Entries c.top bs → Here c.top bs → (let l = inner_of c.top bs in l.rest) ≡ End →
    c.blocks ≡ bs → IsGood (commits_at bs c)
commits_good [] c entries here is are = (subst (λ ls. Entries c.top ls) (sym are) entries, here_means c.top here is)
commits_good (b ∷ []) c entries here is are = (tt, committed_at c.top b [] here is)
commits_good (b ∷ p ∷ ps) c entries here is are = (entries.1, committed_at c.top b (p ∷ ps) here is)

loses_top_good : (c : Client) → c.blocks ≡ [] → IsGood c → IsGood (loses_top c)
loses_top_good c none good =
    let new : Level = labelled (try_label c.number (c.retry - ((let t = c.top in t.left) - 1))) (again c.top) in
    let lost : Client = record c { top = new; begun = 0; phase = phase.Entering } in
    chosen IsGood ((let t = c.top in t.left) == 0) (stands phase.GaveUp c) lost (λ e. gives_up c good)
    (subst (λ ls. Entries new ls) (sym none) tt, subst (λ ls. IsFresh (inner_of new ls)) (sym none) (refl, refl))

loses_good : (bs : List Level) (c : Client) → c.blocks ≡ bs → IsGood c → IsGood (loses_at bs c)
loses_good [] c is good = loses_top_good c is good
loses_good (b ∷ bs) c is good =
    let entries : Entries c.top (b ∷ bs) = subst (λ ls. Entries c.top ls) is good.0 in
    chosen IsGood (b.left == 0) (record c { blocks = bs; phase = phase.Backing }) (record c {
      blocks = again b ∷ bs;
      phase =
          phase.Entering;
    })
    (λ e. (entries.1, tt)) (entries, (refl, refl))

aborted_good : (label : List ℕ) (c : Client) → IsGood c → IsGood (aborted label c)
aborted_good label c good =
    chosen IsGood _ (stands phase.Failed c) _ (λ e. fails c good)
    (chosen IsGood (waits phase.Aborting label c || waits phase.Committing label c) (loses c) c (λ e. loses_good c.blocks c refl good) good)

halted_as : (b : Bool) (c : Client) → IsGood c → IsGood (stands (if b then phase.Failed else phase.GaveUp) c)
halted_as true c good = fails c good
halted_as false c good = gives_up c good

began_good : (label : List ℕ) (c : Client) → IsGood c → waits phase.Beginning label c ≡ true → IsGood (stands phase.Ready c)
began_good label c good e = (good.0, fresh_is_here c.top c.blocks good.0 (goes_so phase.Beginning label c good e))

denied_good : (label : List ℕ) (c : Client) → IsGood c → IsGood (if waits phase.Calling label c then stands phase.Backing c else c)
denied_good label c good = chosen IsGood (waits phase.Calling label c) (stands phase.Backing c) c (λ e. backing c good) good

pub hears_good : (b : Body) (own : Bool) (c : Client) → IsGood c → IsGood (hears b own c)
hears_good (body.Refused cause) own c good = chosen IsGood own (refused_at c.phase c) c (λ e. refused_good c.phase c good) good
hears_good (body.Began l k u p) own c good =
    chosen IsGood (waits phase.Beginning _ c) (stands phase.Ready c) c (λ e. began_good _ c good e) good
hears_good (body.Ok l x op answer) own c good =
    chosen IsGood (waits phase.Calling _ c) (answered answer c.asked c) c
    (λ e. answered_good answer c.asked c good.0 (goes_so phase.Calling _ c good e)) good
hears_good (body.Conflict l h m n) own c good = denied_good _ c good
hears_good (body.Lost l n) own c good = denied_good _ c good
hears_good (body.Changed l n d) own c good = denied_good _ c good
hears_good (body.Committed l) own c good =
    chosen IsGood (waits phase.Committing _ c) (commits_at c.blocks c) c
    (λ e. let at = goes_so phase.Committing _ c good e in commits_good c.blocks c good.0 at.0 at.1 refl) good
hears_good (body.Aborted l cause) own c good = aborted_good _ c good
hears_good (body.Halted n) own c good =
    chosen IsGood _ (stands (if is_phase phase.Failing c.phase then phase.Failed else phase.GaveUp) c) c
    (λ e. halted_as (is_phase phase.Failing c.phase) c good) good
hears_good _ own c good = good

-- ---- what is asked

begins_good : (bs : List Level) (c : Client) → c.blocks ≡ bs → Entries c.top bs → IsFresh (inner_of c.top bs) →
    IsGood (let a = begins bs c in a.client)
begins_good [] c is entries fresh = (subst (λ ls. Entries c.top ls) (sym is) tt, subst (λ ls. IsFresh (inner_of c.top ls)) (sym is) fresh)
begins_good (b ∷ bs) c is entries fresh = (entries, fresh)

leaves_at : (c : Client) (bs : List Level) (s : Statement) (rest : Listing) → cut (let l = inner_of c.top bs in l.rest) ≡ Some (s, rest) →
    Entries c.top bs → Here c.top bs →
    let d = inside (leaves rest) (record c { blocks = bs }) in
    Entries d.top d.blocks × Reaches (let t = d.top in t.body) (said_in d.top d.blocks) (before s (rest_in d.top d.blocks))
leaves_at c [] s rest is entries here = (
  tt,
  subst (λ l. Reaches (let t = c.top in t.body) (let t = c.top in t.said) l) (passed c.top [] s rest is) here,
)
leaves_at c (b ∷ bs) s rest is entries here =
    (entries, subst (λ l. Reaches (let t = c.top in t.body) (said_in c.top bs ++ b.said) l) (passed c.top (b ∷ bs) s rest is) here)

asks_for_good : (s : Statement) (d : Client) → Entries d.top d.blocks →
    Reaches (let t = d.top in t.body) (said_in d.top d.blocks) (before s (rest_in d.top d.blocks)) →
    IsGood (let a = asks_for s d in a.client)
asks_for_good (statement.Do x op) d entries reaches = (entries, (tt, reaches))
asks_for_good (statement.Print x op) d entries reaches = (entries, (tt, reaches))
asks_for_good (statement.If x op wanted first second) d entries reaches = (entries, (tt, reaches))
asks_for_good (statement.Block retry body) d entries reaches =
    ((block_entered (let t = d.top in t.body) (said_in d.top d.blocks) retry body (rest_in d.top d.blocks) reaches, entries), (refl, refl))
asks_for_good statement.Fail d entries reaches = (entries, tt)

asks_next_good : (o : Option (Statement × Listing)) (c : Client) → cut (let l = inner_of c.top c.blocks in l.rest) ≡ o →
    Entries c.top c.blocks → Here c.top c.blocks →
    IsGood (let a = asks_next o c in a.client)
asks_next_good None c is entries here = (entries, (here, sym (cut_back (let l = inner_of c.top c.blocks in l.rest)) ∙ ap uncut is))
asks_next_good (Some p) c is entries here =
    let left = leaves_at c c.blocks p.0 p.1 is entries here in asks_for_good p.0 (inside (leaves p.1) c) left.0 left.1

turned_by : (p : Phase) (c : Client) → c.phase ≡ p → IsGood c →
    IsGood (let a = (if is_over p then asking None c else if is_waiting p then waits_on c else asks_by p (record c {
      waited =
          0;
    })) in a.client)
turned_by phase.Entering c is good =
    begins_good c.blocks (record c { waited = 0 }) refl good.0 (subst (λ p. Goes p c.asked c.top c.blocks) is good.1)
turned_by phase.Ready c is good =
    asks_next_good (cut (let l = inner_of c.top c.blocks in l.rest)) (record c {
      waited =
          0;
    }) refl good.0 (subst (λ p. Goes p c.asked c.top c.blocks) is good.1)
turned_by phase.Backing c is good = (good.0, tt)
turned_by _ c is good = good

pub turned_good : (c : Client) → IsGood c → IsGood (let a = turned c in a.client)
turned_good c good = turned_by c.phase c refl good

-- ---- all programs

set_good : (cs : List Client) (at : ℕ) (c : Client) → AllByRecursion IsGood cs → IsGood c → AllByRecursion IsGood (slice_set cs at c)
set_good [] at c good one = tt
set_good (d ∷ cs) zero c good one = (one, good.1)
set_good (d ∷ cs) (suc at) c good one = (good.0, set_good cs at c good.1 one)

get_good : (cs : List Client) (at : ℕ) (c : Client) → AllByRecursion IsGood cs → slice_get cs at ≡ Some c → IsGood c
get_good [] at c good is = let never : None ≡ Some c = is in cc
get_good (d ∷ cs) zero c good is = subst IsGood (some_same d c is) good.0
get_good (d ∷ cs) (suc at) c good is = get_good cs at c good.1 is

all_hear_good : (by : Option ℕ) (n : ℕ) (b : Body) (cs : List Client) → AllByRecursion IsGood cs →
    AllByRecursion IsGood (all_hear by n b cs)
all_hear_good by n b [] good = tt
all_hear_good by n b (c ∷ cs) good = (hears_good b _ c good.0, all_hear_good by (n + 1) b cs good.1)

lines_good : (by : Option ℕ) (lines : List Line) (s : Standing) → AllByRecursion IsGood s.clients →
    AllByRecursion IsGood (let e = lines_heard by lines s in e.clients)
lines_good by [] s good = good
lines_good by (line ∷ lines) s good = lines_good by lines (line_heard by line.body s) (all_hear_good by 0 line.body s.clients good)

turn_by_good : (at : ℕ) (o : Option Client) (s : Standing) → AllByRecursion IsGood s.clients → slice_get s.clients at ≡ o →
    AllByRecursion IsGood (let t = turn_by at o s in let now = t.now in now.clients)
turn_by_good at None s good is = good
turn_by_good at (Some c) s good is =
    set_good s.clients at (let a = turned c in a.client) good (turned_good c (get_good s.clients at c good is))

either_good : (b : Bool) (x y : Turning) → AllByRecursion IsGood (let n = x.now in n.clients) →
    AllByRecursion IsGood (let n = y.now in n.clients) →
    AllByRecursion IsGood (let t = (if b then x else y) in let n = t.now in n.clients)
either_good true x y p q = p
either_good false x y p q = q

turn_good : (nodes turn draw : ℕ) (s : Standing) → AllByRecursion IsGood s.clients →
    AllByRecursion IsGood (let t = turn_drawn nodes turn draw s in let n = t.now in n.clients)
turn_good nodes turn draw s good =
    let at : ℕ = draw % length s.clients in
    let last : Turning = turn_by at (slice_get s.clients at) s in
    let third : Turning = if turn % 16 == 15 then own (if draw % 4 == 0 then LosesLast else Settles) s else last in
    let second : Turning = if turn % 16 == 7 then own (Ticks (1 + draw % nodes)) s else third in
    either_good ((turn % 16 == 3) || (turn % 16 == 11)) (own Settles s) second good
    (either_good (turn % 16 == 7) (own (Ticks (1 + draw % nodes)) s) third good
    (either_good (turn % 16 == 15) (own (if draw % 4 == 0 then LosesLast else Settles) s) last good
    (turn_by_good at (slice_get s.clients at) s good refl)))

gives_good : (o : Option Ask) (t : Turning) (front trace : List Given) (now : Standing) →
    AllByRecursion IsGood (let n = t.now in n.clients) → GivesAsk o t front trace now →
    AllByRecursion IsGood now.clients
gives_good None t front trace now good gives = subst (λ s. AllByRecursion IsGood (let n = s in n.clients)) (sym gives.1) good
gives_good (Some ask) t front trace now good (g, is, cut, heard) =
    subst (λ s. AllByRecursion IsGood (let n = s in n.clients)) (sym heard) (lines_good t.by g.lines t.now good)

first_good : (number : ℕ) (ps : List Program) → AllByRecursion IsGood (clients_from number ps)
first_good number [] = tt
first_good number (p ∷ ps) = ((tt, (refl, refl)), first_good (number + 1) ps)

turns_good : (plan : Plan) (turns : ℕ) (trace : List Given) (now : Standing) → Turns plan turns trace now →
    AllByRecursion IsGood now.clients
turns_good plan zero trace now took = subst (λ s. AllByRecursion IsGood (let n = s in n.clients)) (sym took.1) (first_good 1 plan.programs)
turns_good plan (suc t) trace now (before, front, took, going, gives) =
    gives_good _ (turn_at (let h = plan.header in h.nodes) t before) front trace now
    (turn_good (let h = plan.header in h.nodes) t (drawn before.state) (record before {
      state =
          next_state before.state;
    }) (turns_good plan t front before took)) gives

all_mean : (cs : List Client) → AllByRecursion IsGood cs → AllByRecursion MeansItsCalls cs
all_mean [] good = tt
all_mean (c ∷ cs) good = ((λ is. subst (λ p. Goes p c.asked c.top c.blocks) is (let g = good.0 in g.1)), all_mean cs good.1)

-- so at the schedule's end each program that committed means its calls
pub programs_mean : (plan : Plan) (trace : List Given) (end : Standing) → Schedule plan trace end → AllByRecursion MeansItsCalls end.clients
programs_mean plan trace end s =
    all_mean end.clients (subst (λ e. AllByRecursion IsGood (let n = e in n.clients)) (sym s.heard)
    (lines_good None s.lines s.before (turns_good plan s.turns s.front s.before s.took)))
