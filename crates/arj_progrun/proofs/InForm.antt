-- What the programs of a plan in form ask is in form.
use Rattle.std.proofs.Common.{◌≡◌, ◌∙◌, ℕ, zero, suc, ◌+◌, ◌-◌, ◌<◌, ◌≤◌, ◌^◌, List, [], ◌∷◌, ◌++◌, refl, ap, sym, subst, true, false, Bool}
use Rattle.std.proofs.Common.{Some, None}
use Rattle.std.proofs.Common.{Option, if◌then◌else◌, ◌&&◌, ◌||◌, ◌==◌, slice_get, slice_set, length, ◌%◌, ◌/◌, arith}
use Rattle.std.specs.Prelude.{⊤}
use Rattle.std.specs.Fmt.{decimal, digit_glyph, digits, digits_onto}
use Rattle.std.specs.List.{AllByRecursion, flat_map, list_all}
use Rattle.std.proofs.lemmas.Bool.Decides.{nat_tests}
use Rattle.std.proofs.lemmas.List.Folds.{list_all-append}
use Rattle.arj_gen.specs.Bank.{drawn, next_state}
use Rattle.arj_journal.specs.ScriptForm.{EventInForm, HeaderInForm}
use Rattle.arj_journal.specs.declared.body.Body.{Body}
use Rattle.arj_journal.specs.declared.body.Body.TheVariants as body
use Rattle.arj_journal.specs.declared.body.Line.{Line}
use Rattle.arj_journal.specs.declared.event.Event.{Event}
use Rattle.arj_journal.specs.declared.event.Event.TheVariants as event
use Rattle.arj_journal.specs.declared.event.FrameNo.TheVariants as frame_no
use Rattle.arj_journal.specs.declared.header.ObjectLine.{ObjectLine}
use Rattle.arj_prog.specs.Lines.{SaidInForm}
use Rattle.arj_prog.specs.Listed.{before}
use Rattle.arj_prog.specs.Listing.{Listing, End, Do, Print, If, Block, Fail, joined}
use Rattle.arj_prog.specs.Written.{listing_lines, program_lines}
use Rattle.arj_prog.specs.declared.plan.Plan.{Plan}
use Rattle.arj_prog.specs.declared.plan.Program.{Program}
use Rattle.arj_prog.specs.declared.said.Said.TheVariants as said
use Rattle.arj_prog.specs.declared.statements.Statement.{Statement}
use Rattle.arj_prog.specs.declared.statements.Statement.TheVariants as statement
use Rattle.arj_progrun.proofs.Driven.{gave, nodes_of}
use Rattle.arj_progrun.proofs.Stacks.{some_same}
use Rattle.arj_progrun.specs.Client as client
use Rattle.arj_progrun.specs.Client.{Ask, Asking, Client, Level, aborted, again, answered, asking, asks_by, asks_for, asks_next, begins}
use Rattle.arj_progrun.specs.Client.{block_label, branch, commits_at, cut, first_client, hears, inner_of, inside, inside_at, is_over}
use Rattle.arj_progrun.specs.Client.{is_phase}
use Rattle.arj_progrun.specs.Client.{is_waiting, labelled, leaves, loses, loses_at, loses_top, refused_at, stands, taken, try_label, turned}
use Rattle.arj_progrun.specs.Client.{unbegun, waits, waits_on}
use Rattle.arj_progrun.specs.Driving.{IsDriven, Takes}
use Rattle.arj_progrun.specs.Events.{ask_of}
use Rattle.arj_progrun.specs.InForm.{PlanInForm, ProgramInForm, StatementsInForm}
use Rattle.arj_progrun.specs.Schedule.{Given, GivesAsk, Standing, Turning, Turns, all_hear, clients_from, line_heard, lines_heard, own}
use Rattle.arj_progrun.specs.Schedule.{turn_at, turn_by, turn_drawn}
use Rattle.arj_progrun.specs.Stepped.{Stepping, written}
use Rattle.arj_progrun.specs.declared.nodes.Nodes as nodes
use Rattle.arj_progrun.specs.declared.phase.Phase.{Phase}
use Rattle.arj_progrun.specs.declared.phase.Phase.TheVariants as phase
use Rattle.arj_text.specs.Fields.{OpTextInForm, ShortInForm, WordInForm}
use Rattle.arj_text.specs.Label.{is_digit, is_label, is_letter}

-- ---- labels

abbrev in_word : ℕ → Bool
in_word b = is_letter b || is_digit b

glyph_in_word : (n : ℕ) → in_word (digit_glyph false (n % 10)) ≡ true
glyph_in_word n = grind (arith, nat_tests)

either_in_word : (b : Bool) (xs ys : List ℕ) → list_all in_word xs ≡ true → list_all in_word ys ≡ true →
    list_all in_word (if b then xs else ys) ≡ true
either_in_word true xs ys h k = h
either_in_word false xs ys h k = k

digits_in_word : (k n : ℕ) (acc : List ℕ) → list_all in_word acc ≡ true → list_all in_word (digits_onto k 10 false n acc) ≡ true
digits_in_word zero n acc h = h
digits_in_word (suc k) n acc h =
    let more : list_all in_word (digit_glyph false (n % 10) ∷ acc) ≡ true = ap (λ b. b && list_all in_word acc) (glyph_in_word n) ∙ h in
    either_in_word (n / 10 == 0) (digit_glyph false (n % 10) ∷ acc) _ more (digits_in_word k (n / 10) (digit_glyph false
    (n % 10) ∷ acc) more)

decimal_in_word : (n : ℕ) → list_all in_word (decimal n) ≡ true
unfolding digits
decimal_in_word n = digits_in_word 64 n [] refl

both_in_word : (xs ys : List ℕ) → list_all in_word xs ≡ true → list_all in_word ys ≡ true → list_all in_word (xs ++ ys) ≡ true
both_in_word xs ys h k = list_all-append in_word xs ys ∙ (λ i. h i && k i)

try_label_in_form : (i j : ℕ) → is_label (try_label i j) ≡ true
try_label_in_form i j = both_in_word (decimal i) (116 ∷ decimal j) (decimal_in_word i) (decimal_in_word j)

block_label_in_form : (i j k : ℕ) → is_label (block_label i j k) ≡ true
block_label_in_form i j k =
    both_in_word (decimal i) (116 ∷ (decimal j ++ (98 ∷ decimal k))) (decimal_in_word i)
    (both_in_word (decimal j) (98 ∷ decimal k) (decimal_in_word j) (decimal_in_word k))

-- ---- statements

-- a statement alone
abbrev StatementInForm : Statement → Type 0
StatementInForm s = StatementsInForm (before s End)

abbrev CutInForm : Option (Statement × Listing) → Type 0
CutInForm None = ⊤
CutInForm (Some p) = StatementInForm p.0 × StatementsInForm p.1

cut_form : (l : Listing) → StatementsInForm l → CutInForm (cut l)
cut_form End h = tt
cut_form (Do x op rest) h = ((h.0, h.1, tt), h.2)
cut_form (Print x op rest) h = ((h.0, h.1, tt), h.2)
cut_form (If x op wanted first second rest) h = ((h.0, h.1, h.2, h.3, tt), h.4)
cut_form (Block retry body rest) h = ((h.0, tt), h.1)
cut_form (Fail rest) h = (tt, h)

joined_form : (a b : Listing) → StatementsInForm a → StatementsInForm b → StatementsInForm (joined a b)
joined_form End b h k = k
joined_form (Do x op rest) b h k = (h.0, h.1, joined_form rest b h.2 k)
joined_form (Print x op rest) b h k = (h.0, h.1, joined_form rest b h.2 k)
joined_form (If x op wanted first second rest) b h k = (h.0, h.1, h.2, h.3, joined_form rest b h.4 k)
joined_form (Block retry body rest) b h k = (h.0, joined_form rest b h.1 k)
joined_form (Fail rest) b h k = joined_form rest b h k

either_form : (P : Listing → Type 0) (b : Bool) (l m : Listing) → P l → P m → P (if b then l else m)
either_form P true l m h k = h
either_form P false l m h k = k

branch_form : (s : Statement) (answer : List ℕ) → StatementInForm s → StatementsInForm (branch s answer)
branch_form (statement.Do x op) answer h = tt
branch_form (statement.Print x op) answer h = tt
branch_form (statement.If x op wanted first second) answer h = either_form StatementsInForm _ first second h.2 h.3
branch_form (statement.Block retry body) answer h = tt
branch_form statement.Fail answer h = tt

-- ---- programs

abbrev LevelInForm : Level → Type 0
LevelInForm l = (is_label l.label ≡ true) × StatementsInForm l.body × StatementsInForm l.rest

abbrev AskedInForm : Option Statement → Type 0
AskedInForm None = ⊤
AskedInForm (Some s) = StatementInForm s

-- A program whose actions, and what it asked, are in form.
record ClientInForm (c : Client) : Type 0 where
  pub node : WordInForm c.node
  pub top : LevelInForm c.top
  pub blocks : AllByRecursion LevelInForm c.blocks
  pub asked : AskedInForm c.asked

chosen : (b : Bool) (c d : Client) → ClientInForm c → ClientInForm d → ClientInForm (if b then c else d)
chosen true c d h k = h
chosen false c d h k = k

stands_form : (p : Phase) (c : Client) → ClientInForm c → ClientInForm (stands p c)
stands_form p c h = record { node = h.node; top = h.top; blocks = h.blocks; asked = h.asked }

-- with these nested actions, standing so
blocks_form : (bs : List Level) (p : Phase) (c : Client) → AllByRecursion LevelInForm bs → ClientInForm c →
    ClientInForm (record c { blocks = bs; phase = p })
blocks_form bs p c all h = record { node = h.node; top = h.top; blocks = all; asked = h.asked }

inside_form : (f : Level → Level) (bs : List Level) (c : Client) → ((l : Level) → LevelInForm l → LevelInForm (f l)) →
    AllByRecursion LevelInForm bs → ClientInForm c → ClientInForm (inside_at bs f c)
inside_form f [] c keeps all h = record { node = h.node; top = keeps c.top h.top; blocks = h.blocks; asked = h.asked }
inside_form f (b ∷ bs) c keeps all h = record { node = h.node; top = h.top; blocks = (keeps b all.0, all.1); asked = h.asked }

unbegun_form : (bs : List Level) (c : Client) → AllByRecursion LevelInForm bs → ClientInForm c → ClientInForm (unbegun bs c)
unbegun_form [] c all h = stands_form phase.GaveUp c h
unbegun_form (b ∷ bs) c all h = blocks_form bs phase.Backing c all.1 h

refused_form : (p : Phase) (c : Client) → ClientInForm c → ClientInForm (refused_at p c)
refused_form phase.Beginning c h = unbegun_form c.blocks c h.blocks h
refused_form phase.Calling c h = stands_form phase.Backing c h
refused_form phase.Committing c h = stands_form phase.Backing c h
refused_form phase.Aborting c h = stands_form phase.GaveUp c h
refused_form phase.Failing c h = stands_form phase.Failed c h
refused_form _ c h = h

answered_form : (answer : List ℕ) (asked : Option Statement) (c : Client) → AskedInForm asked → ClientInForm c →
    ClientInForm (answered answer asked c)
answered_form answer None c s h = stands_form phase.Ready c h
answered_form answer (Some s) c fits h =
    inside_form (taken s answer) c.blocks (stands phase.Ready c)
    (λ l k. (k.0, k.1, joined_form (branch s answer) l.rest (branch_form s answer fits) k.2)) h.blocks (stands_form phase.Ready c h)

commits_form : (bs : List Level) (c : Client) → AllByRecursion LevelInForm bs → ClientInForm c → ClientInForm (commits_at bs c)
commits_form [] c all h = stands_form phase.Committed c h
commits_form (b ∷ bs) c all h = inside_form (client.joins b) bs (record c {
  blocks = bs;
  phase =
      phase.Ready;
}) (λ l k. k) all.1 (blocks_form bs phase.Ready c all.1 h)

loses_top_form : (b : Bool) (c : Client) → ClientInForm c →
    ClientInForm (let t = c.top in
    if b then stands phase.GaveUp c
    else record c { top = labelled (try_label c.number (c.retry - (t.left - 1))) (again t); begun = 0; phase = phase.Entering })
loses_top_form true c h = stands_form phase.GaveUp c h
loses_top_form false c h = record {
  node = h.node;
  top = (try_label_in_form c.number _, let t = h.top in t.1, let t = h.top in t.1);
  blocks = h.blocks;
  asked = h.asked;
}

loses_block_form : (b : Bool) (l : Level) (bs : List Level) (c : Client) → LevelInForm l → AllByRecursion LevelInForm bs → ClientInForm c →
    ClientInForm (if b then record c { blocks = bs; phase = phase.Backing } else record c { blocks = again l ∷ bs; phase = phase.Entering })
loses_block_form true l bs c one all h = blocks_form bs phase.Backing c all h
loses_block_form false l bs c one all h = blocks_form (again l ∷ bs) phase.Entering c ((one.0, one.1, one.1), all) h

loses_form : (bs : List Level) (c : Client) → AllByRecursion LevelInForm bs → ClientInForm c → ClientInForm (loses_at bs c)
loses_form [] c all h = loses_top_form ((let t = c.top in t.left) == 0) c h
loses_form (b ∷ bs) c all h = loses_block_form (b.left == 0) b bs c all.0 all.1 h

aborted_form : (label : List ℕ) (c : Client) → ClientInForm c → ClientInForm (aborted label c)
aborted_form label c h =
    chosen _ (stands phase.Failed c) _ (stands_form phase.Failed c h)
    (chosen (waits phase.Aborting label c || waits phase.Committing label c) (loses c) c (loses_form c.blocks c h.blocks h) h)

hears_form : (b : Body) (own : Bool) (c : Client) → ClientInForm c → ClientInForm (hears b own c)
hears_form (body.Refused cause) own c h = chosen own (refused_at c.phase c) c (refused_form c.phase c h) h
hears_form (body.Began l k u p) own c h = chosen _ (stands phase.Ready c) c (stands_form phase.Ready c h) h
hears_form (body.Ok l x op answer) own c h = chosen _ (answered answer c.asked c) c (answered_form answer c.asked c h.asked h) h
hears_form (body.Conflict l u m k) own c h = chosen _ (stands phase.Backing c) c (stands_form phase.Backing c h) h
hears_form (body.Lost l k) own c h = chosen _ (stands phase.Backing c) c (stands_form phase.Backing c h) h
hears_form (body.Changed l k d) own c h = chosen _ (stands phase.Backing c) c (stands_form phase.Backing c h) h
hears_form (body.Committed l) own c h = chosen _ (commits_at c.blocks c) c (commits_form c.blocks c h.blocks h) h
hears_form (body.Aborted l cause) own c h = aborted_form _ c h
hears_form (body.Halted k) own c h =
    chosen _ (stands (if is_phase phase.Failing c.phase then phase.Failed else phase.GaveUp) c) c (stands_form _ c h) h
hears_form _ own c h = h

-- ---- what is asked

abbrev AskInForm : Ask → Type 0
AskInForm (client.Begins label node) = (is_label label ≡ true) × WordInForm node
AskInForm (client.BeginsIn label parent) = (is_label label ≡ true) × (is_label parent ≡ true)
AskInForm (client.Calls label x op) = (is_label label ≡ true) × ShortInForm x × OpTextInForm op
AskInForm (client.Commits label) = is_label label ≡ true
AskInForm (client.Aborts label) = is_label label ≡ true
AskInForm (client.GivesUp label) = is_label label ≡ true
AskInForm (client.Ticks node) = WordInForm node
AskInForm client.Settles = ⊤
AskInForm client.LosesLast = ⊤
AskInForm client.Quiesces = ⊤
AskInForm client.Other = ⊥

abbrev SomeInForm : Option Ask → Type 0
SomeInForm None = ⊤
SomeInForm (Some a) = AskInForm a

abbrev AskingInForm : Asking → Type 0
AskingInForm a = SomeInForm a.ask × ClientInForm a.client

inner_form : (bs : List Level) (c : Client) → AllByRecursion LevelInForm bs → ClientInForm c → LevelInForm (inner_of c.top bs)
inner_form [] c all h = h.top
inner_form (b ∷ bs) c all h = all.0

begins_form : (bs : List Level) (c : Client) → AllByRecursion LevelInForm bs → ClientInForm c → AskingInForm (begins bs c)
begins_form [] c all h = (((let t = h.top in t.0), h.node), stands_form phase.Beginning c h)
begins_form (b ∷ bs) c all h = (
  (block_label_in_form c.number _ _, let l = inner_form bs c all.1 h in l.0),
  record {
    node = h.node;
    top = h.top;
    blocks = ((block_label_in_form c.number _ _, let l = all.0 in l.1, let l = all.0 in l.2), all.1);
    asked = h.asked;
  },
)

calls_form : (s : Statement) (x : ℕ) (op : _) (c : Client) → StatementInForm s → ShortInForm x → OpTextInForm op → ClientInForm c →
    AskingInForm (client.calls s x op c)
calls_form s x op c fits small asked h = (
  ((let l = inner_form c.blocks c h.blocks h in l.0), small, asked),
  record { node = h.node; top = h.top; blocks = h.blocks; asked = fits },
)

asks_for_form : (s : Statement) (c : Client) → StatementInForm s → ClientInForm c → AskingInForm (asks_for s c)
asks_for_form (statement.Do x op) c fits h = calls_form (statement.Do x op) x op c fits fits.0 fits.1 h
asks_for_form (statement.Print x op) c fits h = calls_form (statement.Print x op) x op c fits fits.0 fits.1 h
asks_for_form (statement.If x op wanted first second) c fits h =
    calls_form (statement.If x op wanted first second) x op c fits fits.0 fits.1 h
asks_for_form (statement.Block retry body) c fits h =
    let d = client.enters retry body c in
    let entered : LevelInForm (client.level (let l = client.inner c in l.label) body retry) =
    ((let l = inner_form c.blocks c h.blocks h in l.0), fits.0, fits.0) in
    begins_form d.blocks d (entered, h.blocks) (record { node = h.node; top = h.top; blocks = (entered, h.blocks); asked = h.asked })
asks_for_form statement.Fail c fits h = ((let t = h.top in t.0), stands_form phase.Failing c h)

asks_next_form : (o : Option (Statement × Listing)) (c : Client) → CutInForm o → ClientInForm c → AskingInForm (asks_next o c)
asks_next_form None c fits h = ((let l = inner_form c.blocks c h.blocks h in l.0), stands_form phase.Committing c h)
asks_next_form (Some p) c fits h =
    asks_for_form p.0 (inside (leaves p.1) c) fits.0 (inside_form (leaves p.1) c.blocks c (λ l k. (k.0, k.1, fits.1)) h.blocks h)

asks_form : (p : Phase) (c : Client) → ClientInForm c → AskingInForm (asks_by p c)
asks_form phase.Entering c h = begins_form c.blocks c h.blocks h
asks_form phase.Backing c h = ((let l = inner_form c.blocks c h.blocks h in l.0), stands_form phase.Aborting c h)
asks_form _ c h =
    asks_next_form (cut (let l = inner_of c.top c.blocks in l.rest)) c (cut_form _ (let l = inner_form c.blocks c h.blocks h in l.2)) h

waited_form : (n : ℕ) (c : Client) → ClientInForm c → ClientInForm (record c { waited = n })
waited_form n c h = record { node = h.node; top = h.top; blocks = h.blocks; asked = h.asked }

gives_up_form : (b : Bool) (c : Client) → ClientInForm c →
    SomeInForm (if b then Some (client.GivesUp (let l = client.inner c in l.label)) else None)
gives_up_form true c h = let l = inner_form c.blocks c h.blocks h in l.0
gives_up_form false c h = tt

by_turn : (over waiting : Bool) (p : Phase) (c : Client) → ClientInForm c →
    AskingInForm (if over then asking None c else if waiting then waits_on c else asks_by p (record c { waited = 0 }))
by_turn true waiting p c h = (tt, h)
by_turn false true p c h = (gives_up_form _ c h, waited_form _ c h)
by_turn false false p c h = asks_form p (record c { waited = 0 }) (waited_form 0 c h)

turned_form : (c : Client) → ClientInForm c → AskingInForm (turned c)
turned_form c h = by_turn (is_over c.phase) (is_waiting c.phase) c.phase c h

-- ---- all programs

abbrev StandingInForm : Standing → Type 0
StandingInForm s = AllByRecursion ClientInForm s.clients

set_form : (cs : List Client) (at : ℕ) (c : Client) → AllByRecursion ClientInForm cs → ClientInForm c →
    AllByRecursion ClientInForm (slice_set cs at c)
set_form [] at c all one = tt
set_form (d ∷ cs) zero c all one = (one, all.1)
set_form (d ∷ cs) (suc at) c all one = (all.0, set_form cs at c all.1 one)

get_form : (cs : List Client) (at : ℕ) (c : Client) → AllByRecursion ClientInForm cs → slice_get cs at ≡ Some c → ClientInForm c
get_form [] at c all is = let never : None ≡ Some c = is in cc
get_form (d ∷ cs) zero c all is = subst ClientInForm (some_same d c is) all.0
get_form (d ∷ cs) (suc at) c all is = get_form cs at c all.1 is

all_hear_form : (by : Option ℕ) (n : ℕ) (b : Body) (cs : List Client) → AllByRecursion ClientInForm cs →
    AllByRecursion ClientInForm (all_hear by n b cs)
all_hear_form by n b [] all = tt
all_hear_form by n b (c ∷ cs) all = (hears_form b _ c all.0, all_hear_form by (n + 1) b cs all.1)

lines_form : (by : Option ℕ) (lines : List Line) (s : Standing) → StandingInForm s → StandingInForm (lines_heard by lines s)
lines_form by [] s all = all
lines_form by (line ∷ lines) s all = lines_form by lines (line_heard by line.body s) (all_hear_form by 0 line.body s.clients all)

abbrev TurningInForm : Turning → Type 0
TurningInForm t = SomeInForm t.ask × StandingInForm t.now

turn_by_form : (at : ℕ) (o : Option Client) (s : Standing) → StandingInForm s → slice_get s.clients at ≡ o →
    TurningInForm (turn_by at o s)
turn_by_form at None s all is = (tt, all)
turn_by_form at (Some c) s all is =
    let a = turned_form c (get_form s.clients at c all is) in (a.0, set_form s.clients at (let t = turned c in t.client) all a.1)

either_turn : (b : Bool) (x y : Turning) → TurningInForm x → TurningInForm y → TurningInForm (if b then x else y)
either_turn true x y p q = p
either_turn false x y p q = q

either_ask : (b : Bool) → AskInForm (if b then client.LosesLast else client.Settles)
either_ask true = tt
either_ask false = tt

turn_form : (nodes turn draw : ℕ) (s : Standing) → 1 ≤ nodes → nodes ≤ 16 → StandingInForm s →
    TurningInForm (turn_drawn nodes turn draw s)
turn_form nodes turn draw s some few all =
    let at : ℕ = draw % length s.clients in
    let last : Turning = turn_by at (slice_get s.clients at) s in
    let third : Turning = if turn % 16 == 15 then own (if draw % 4 == 0 then client.LosesLast else client.Settles) s else last in
    let second : Turning = if turn % 16 == 7 then own (client.Ticks (1 + draw % nodes)) s else third in
    let small : 1 + draw % nodes < 2 ^ 32 = omega (arith, some, few) in
    either_turn ((turn % 16 == 3) || (turn % 16 == 11)) (own client.Settles s) second (tt, all)
    (either_turn (turn % 16 == 7) (own (client.Ticks (1 + draw % nodes)) s) third (small, all)
    (either_turn (turn % 16 == 15) (own (if draw % 4 == 0 then client.LosesLast else client.Settles) s) last (
      either_ask
          (draw % 4 == 0),
      all,
    )
    (turn_by_form at (slice_get s.clients at) s all refl)))

gives_form : (o : Option Ask) (t : Turning) (front trace : List Given) (now : Standing) → StandingInForm t.now →
    GivesAsk o t front trace now → StandingInForm now
gives_form None t front trace now all gives = subst StandingInForm (sym gives.1) all
gives_form (Some ask) t front trace now all (g, is, cut, heard) = subst StandingInForm (sym heard) (lines_form t.by g.lines t.now all)

first_form : (number : ℕ) (ps : List Program) → AllByRecursion ProgramInForm ps →
    AllByRecursion ClientInForm (clients_from number ps)
first_form number [] fits = tt
first_form number (p ∷ ps) fits = (
  record {
    node = let f = fits.0 in f.0;
    top = (try_label_in_form number 0, let f = fits.0 in f.1, let f = fits.0 in f.1);
    blocks = tt;
    asked = tt;
  },
  first_form (number + 1) ps fits.1,
)

turn_at_form : (plan : Plan) (turn : ℕ) (s : Standing) → PlanInForm plan → StandingInForm s →
    TurningInForm (turn_at (nodes_of plan) turn s)
turn_at_form plan turn s fits all =
    let n = (let h = fits.header in h.nodes) in
    turn_form (nodes_of plan) turn (drawn s.state) (record s { state = next_state s.state }) n.0 n.1 all

turns_form : (plan : Plan) (turns : ℕ) (trace : List Given) (now : Standing) → PlanInForm plan → Turns plan turns trace now →
    StandingInForm now
turns_form plan zero trace now fits took = subst StandingInForm (sym took.1) (first_form 1 plan.programs fits.programs)
turns_form plan (suc t) trace now fits (before, front, took, going, gives) =
    gives_form _ (turn_at (nodes_of plan) t before) front trace now
    (let t = turn_at_form plan t before fits (turns_form plan t front before fits took) in t.1) gives

-- ---- events

event_form : (e : Event) → AskInForm (ask_of e) → EventInForm e
event_form (event.Begin l n) h = h
event_form (event.BeginIn l p) h = h
event_form (event.Call l x op) h = h
event_form (event.Commit l) h = h
event_form (event.Abort l) h = h
event_form (event.GiveUp l) h = h
event_form (event.Tick n) h = h
event_form event.Settle h = tt
event_form event.Quiesce h = tt
event_form (event.Lose frame_no.Last) h = tt
event_form _ h = absurd h

-- nodes take what a turn gives
pub turn_takes : {N R : Type 0} (n : nodes.Ghosts N R) (t : ℕ) (now : Stepping) (was mid : Standing) (count : ℕ) (e : Event)
    (by : Option ℕ) →
    (plan : Plan) × Takes n plan × (nodes_of plan ≡ count) × IsDriven plan t now was →
    gave (written e []) by mid ≡ turn_at count t was → n.takes e
turn_takes n t now was mid count e by (plan, takes, same, d) is =
    takes e (λ fits.
    let all = turn_at_form plan t was fits (turns_form plan t d.trace was fits d.took) in
    let at : turn_at (nodes_of plan) t was ≡ gave (written e []) by mid = ap (λ k. turn_at k t was) same ∙ sym is in
    event_form e (subst SomeInForm (ap (λ u. let v = u in v.ask) at) all.0))

-- ---- plans

all_parts : {X : Type 0} (P : X → Type 0) (xs ys : List X) → AllByRecursion P (xs ++ ys) → AllByRecursion P xs × AllByRecursion P ys
all_parts P [] ys h = (tt, h)
all_parts P (x ∷ xs) ys h = let t = all_parts P xs ys h.1 in ((h.0, t.0), t.1)

lines_statements : (os : List ObjectLine) (l : Listing) → AllByRecursion (SaidInForm os) (listing_lines l) → StatementsInForm l
lines_statements os End h = tt
lines_statements os (Do x op rest) h = (let c = h.0 in c.0.0, let c = h.0 in c.0.1, lines_statements os rest h.1)
lines_statements os (Print x op rest) h = (let c = h.0 in c.0.0, let c = h.0 in c.0.1, lines_statements os rest h.1)
lines_statements os (If x op wanted first second rest) h =
    let one = all_parts (SaidInForm os) (listing_lines first) (said.Else ∷ (listing_lines second ++ (said.End ∷ listing_lines rest))) h.1 in
    let two = all_parts (SaidInForm os) (listing_lines second) (said.End ∷ listing_lines rest) (let o = one.1 in o.1) in (
      let c = h.0 in c.0.0.0,
      let c = h.0 in c.0.0.1,
      lines_statements os first one.0,
      lines_statements os second two.0,
      lines_statements os rest (let o = two.1 in o.1),
    )
lines_statements os (Block retry body rest) h =
    let one = all_parts (SaidInForm os) (listing_lines body) (said.End ∷ listing_lines rest) h.1 in
    (lines_statements os body one.0, lines_statements os rest (let o = one.1 in o.1))
lines_statements os (Fail rest) h = lines_statements os rest h.1

lines_programs : (os : List ObjectLine) (ps : List Program) → AllByRecursion (SaidInForm os) (flat_map program_lines ps) →
    AllByRecursion ProgramInForm ps
lines_programs os [] h = tt
lines_programs os (p ∷ ps) h =
    let both = all_parts (SaidInForm os) (program_lines p) (flat_map program_lines ps) h in
    let lines = both.0 in
    let head = lines.0 in
    let inner = all_parts (SaidInForm os) (listing_lines p.body) (said.End ∷ []) lines.1 in
    let small : p.node < 2 ^ 32 = omega (arith, head.1.1) in
    ((small, lines_statements os p.body inner.0), lines_programs os ps both.1)

pub plan_in_form : (plan : Plan) → HeaderInForm plan.header →
    AllByRecursion (SaidInForm (let h = plan.header in h.objects)) (flat_map program_lines plan.programs) → PlanInForm plan
plan_in_form plan header lines = record {
  header = header;
  programs = lines_programs (let h =
      plan.header in h.objects) plan.programs lines;
}
