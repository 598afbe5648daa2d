-- Whoever is asked to prepare something, or to confirm, is asked for a top whose commit was called; and the stores that naming is asked to
-- exclude the top has excluded, and those that it is asked to include an include of the top that survives names.
use Rattle.arj_law_parts.proofs.Words
use Words.{⊤, ◌≡◌, ◌⊎◌, ◌∙◌, ◌==◌, ◌&&◌, ◌||◌, ◌++◌, ◌+◌, ◌<◌, not, ℕ, Bool, true, false, cond, List, [], ◌∷◌, Option, Some, None, refl}
use Words.{sym, ap}
use Words.{subst, inl, inr, ⊎_elim, AllByRecursion, and_parts, cons_option, eqb-true, eq-eqb, filter, filter_map, flat_map, list_all}
use Words.{list_any, In}
use Words.{in_filter, in_from, in_map, in_to, is_on, name, arith, nat_tests}
use Words.{Ask, Body, Disk, Effect, Do, Say, Send, Grants, Head, Header, Line, Marks, Message, Parts, Post, Seen, Start, Uid, asks, actor}
use Words.{numbered}
use Words.{Confirming, Machine, Preparing, Voting, ask_of, included_of, is_marked, joins_left, plan_of, Plan, Used, Calling, Committing}
use Words.{Coord, Doing}
use Words.{Idle, Now, doing_of, has, again_all, begin_action, parent_of, parts_in, restart_outs, tick_outs, with_coord, worked, stopped}
use Words.{is_serial}
use Words.{acts as acts_of}
use Words.ask
use Words.body
use Words.list as members
use Rattle.arj_law_promise.proofs.Terms
use Terms.{AllSo, IsSentBy, Keeps, IsGood, IsKept, Up, Walks, up, given, said, halted, posted, it, kept_of, lines_keep, AreQuiet}
use Rattle.arj_law_promise.proofs.meant.Posts.{act_sends, message_sends, tick_sends}
use Rattle.arj_law_promise.proofs.settling.{Rights.right_keep, Stills.IsRight}
use Rattle.arj_law_promise.proofs.waiting.Serving.{restart_asks}
use Rattle.arj_law_disk_view.specs.view.Plans.{plan_by, used_at}
use Rattle.arj_law_parts.specs.moves.Seen as seen
use Rattle.arj_law_parts.specs.parts.Requests.{AreOnce, IsNumbered}
use Rattle.arj_law_runs.proofs.addresses.BindRuns.{AreBound, binds_keep}
use Rattle.arj_law_runs.proofs.calls.Given.{given_more, keeps_given, kept_both}
use Rattle.arj_law_runs.proofs.Terms.{Act, Placed, acts, book, new_book}
use Rattle.arj_law_runs.proofs.journal.{Models.in_later, Models.its_acts, Models.named_in, Owners.acts_more, Ties.named_label}
use Rattle.arj_law_runs.proofs.kept.Walked.{same_number}
use Rattle.arj_law_runs.specs.journal.Knows.{AreIdle}
use Rattle.arj_law_runs.specs.journal.Right.{AreRight}
use Rattle.arj_law_serial.proofs.joint.{JoinModel.joined, JoinRuns.joins_given, Leaving.left, MarkRuns.IsNamed, MarkRuns.marks_given}
use Rattle.arj_law_serial.proofs.joint.{MarkRuns.named_at}
use Rattle.arj_law_serial.specs.joint.Joins.{FitsIncludes, IncludesAreSaid, IncludesLeft, has_included}
use Rattle.arj_law_serial.specs.joint.{Marked.MarksAreSaid, Marked.was_marked}
use Rattle.arj_model.specs.Actions.{chain_in, committed, committed_of, has_end, top_in}
use Rattle.arj_model.specs.Calls.{committing_of, committings}
use Rattle.arj_model.specs.CauseSpans.{holds_in}
use Rattle.arj_model.specs.Last as last
use Rattle.arj_model.specs.Last.{excluded_of, included, is_among, joins_by, joins_of, leaves_of}
use Rattle.arj_model.specs.Refusals.{was_called}
use Rattle.arj_law_cause.proofs.kinds.Late.{Late, acts_late, message_late, restart_late, tick_late}
use Rattle.arj_law_cause.proofs.kinds.Over.{or_later, read_later}
use Rattle.arj_law_cause.proofs.kinds.Waiting.{called_is}
use Rattle.arj_law_cause.proofs.waits.waiting.Lists.{any_in}

-- ---- what is known of the asked

-- an action with this Uid began, and its commit was called
abbrev pub IsCalled : List Line → Uid → Type 0
IsCalled lines u = (a : Act) × In a (acts lines) × (a.uid ≡ u) × (was_called (committings lines) a.id ≡ true)

-- the top with this number has excluded a store, or includes one
abbrev pub ChangesLists : List Line → ℕ → Type 0
ChangesLists lines id =
    (list_any (λ (e : Placed last.Exclusion). e.it.top == id) (last.excluded lines) ≡ true)
    ⊎ ((x s : ℕ) × (is_among (joins_of lines id x) s ≡ true))

-- the action began, its commit was called, and it has excluded a store, or includes one
abbrev pub NamesLists : List Line → Uid → Type 0
NamesLists lines u =
    (a : Act) × In a (acts lines) × (a.uid ≡ u) × (was_called (committings lines) a.id ≡ true) × ChangesLists lines a.id

-- the action has excluded each of these stores
abbrev pub Excludes : List Line → Uid → Marks → Type 0
Excludes lines u marks =
    (e : ℕ × ℕ) → In e marks → (a : Act) × In a (acts lines) × (a.uid ≡ u) × (is_among (leaves_of lines a.id e.0) e.1 ≡ true)

-- includes of the action that survive name each of these stores
abbrev pub Includes : List Line → Uid → Marks → Type 0
Includes lines u marks =
    (e : ℕ × ℕ) → In e marks → (a : Act) × In a (acts lines) × (a.uid ≡ u) × (is_among (joins_of lines a.id e.0) e.1 ≡ true)

-- naming has something to do
abbrev pub HasMarks : Marks → Marks → Type 0
HasMarks excluded included = (excluded ≡ []) × (included ≡ []) → ⊥

abbrev pub AskSo : List Line → Option (Head × Ask) → Type 0
AskSo lines None = ⊤
AskSo lines (Some (h, ask.Prepare states)) = IsCalled lines (actor h.path)
AskSo lines (Some (h, ask.Confirm grants excluded included)) =
    (HasMarks excluded included → NamesLists lines (actor h.path)) × Excludes lines (actor h.path) excluded
    × Includes lines (actor h.path) included
AskSo lines (Some (h, a)) = ⊤

-- so it is of each request that was sent
abbrev pub AsksAreSo : Seen → Type 0
AsksAreSo M = (p : Post) → seen.In p M.sent → AskSo M.lines (asks p.message)

-- ---- later lines

pub any_later : {A : Type 0} (p q : A → Bool) → ((x : A) → p x ≡ true → q x ≡ true) → (xs : List A) → list_any p xs ≡ true → list_any q xs
    ≡ true
any_later p q to [] is = is
any_later p q to (x ∷ xs) is = or_later (p x) (list_any p xs) (q x) (list_any q xs) (to x) (any_later p q to xs) is

pub all_later : {A : Type 0} (p q : A → Bool) → ((x : A) → p x ≡ true → q x ≡ true) → (xs : List A) → list_all p xs ≡ true → list_all q xs ≡
    true
all_later p q to [] is = is
all_later p q to (x ∷ xs) is = let b = and_parts (p x) (list_all p xs) is in λ i. to x b.0 i && all_later p q to xs b.1 i

pub among_those : {A : Type 0} (f : A → Option ℕ) (xs : List A) (s : ℕ) →
    is_among (filter_map f xs) s ≡ list_any (λ (x : A). holds_in (λ n. n == s) (f x)) xs
among_those f [] s = refl
among_those {A} f (x ∷ xs) s = by (f x) (among_those f xs s)
  where
    by : (o : Option ℕ) → is_among (filter_map f xs) s ≡ list_any (λ (y : A). holds_in (λ n. n == s) (f y)) xs →
        is_among (cons_option o (filter_map f xs)) s ≡ (holds_in (λ n. n == s) o || list_any (λ (y : A). holds_in (λ n. n == s) (f y)) xs)
    by None ih = ih
    by (Some n) ih = ap (λ b. (n == s) || b) ih

pub joins_later : (ls ms : List Line) (id x s : ℕ) → is_among (joins_of ls id x) s ≡ true → is_among (joins_of (ls ++ ms) id x) s ≡ true
joins_later ls ms id x s on =
    among_those (λ (i : Placed last.Inclusion). joins_by (committed (ls ++ ms)) id x i (top_in i.it.path)) (included (ls ++ ms)) s
    ∙ any_later old new more (included (ls ++ ms))
    (read_later last.included_of old [] 0 ls ms
    (sym (among_those (λ (i : Placed last.Inclusion). joins_by (committed ls) id x i (top_in i.it.path)) (included ls) s) ∙ on))
  where
    old : Placed last.Inclusion → Bool
    old i = holds_in (λ n. n == s) (joins_by (committed ls) id x i (top_in i.it.path))

    new : Placed last.Inclusion → Bool
    new i = holds_in (λ n. n == s) (joins_by (committed (ls ++ ms)) id x i (top_in i.it.path))

    ends : (n : ℕ) → has_end (committed ls) n ≡ true → has_end (committed (ls ++ ms)) n ≡ true
    ends n is = read_later committed_of (λ (e : Placed ℕ). e.it == n) [] 0 ls ms is

    kept : (a b c d : Bool) (k : ℕ) → (c ≡ true → d ≡ true) → holds_in (λ n. n == s) (cond (a && (b && c)) (Some k) None) ≡ true →
        holds_in (λ n. n == s) (cond (a && (b && d)) (Some k) None) ≡ true
    kept true true true d k to is = (λ i. holds_in (λ n. n == s) (cond (to refl i) (Some k) None)) ∙ is
    kept true true false d k to is = absurd (cc is)
    kept true false c d k to is = absurd (cc is)
    kept false b c d k to is = absurd (cc is)

    more : (i : Placed last.Inclusion) → old i ≡ true → new i ≡ true
    more i is = by (top_in i.it.path) is
      where
        by : (o : Option Act) → holds_in (λ n. n == s) (joins_by (committed ls) id x i o) ≡ true →
            holds_in (λ n. n == s) (joins_by (committed (ls ++ ms)) id x i o) ≡ true
        by None e = absurd (cc e)
        by (Some t) e = kept (t.id == id) (i.it.x == x) (list_all (λ (a : Act). has_end (committed ls) a.id) (chain_in i.it.path))
            (list_all (λ (a : Act). has_end (committed (ls ++ ms)) a.id) (chain_in i.it.path)) i.it.node
            (all_later (λ (a : Act). has_end (committed ls) a.id) (λ (a : Act). has_end (committed (ls ++ ms)) a.id) (λ a. ends a.id)
            (chain_in i.it.path)) e

pub called_later : (ls ms : List Line) (u : Uid) → IsCalled ls u → IsCalled (ls ++ ms) u
called_later ls ms u (a, there, its, on) = (
  a,
  subst (In a) (sym (acts_more [] ls ms)) (in_later ms (acts ls) a there),
  its,
  read_later committing_of (λ (m : Placed (List Act)). holds_in (λ (t : Act). t.id == a.id) (top_in m.it)) [] 0 ls ms on,
)

pub changes_later : (ls ms : List Line) (id : ℕ) → ChangesLists ls id → ChangesLists (ls ++ ms) id
changes_later ls ms id (inl ex) = inl (read_later excluded_of (λ (e : Placed last.Exclusion). e.it.top == id) [] 0 ls ms ex)
changes_later ls ms id (inr (x, s, on)) = inr (x, s, joins_later ls ms id x s on)

names_later : (ls ms : List Line) (u : Uid) → NamesLists ls u → NamesLists (ls ++ ms) u
names_later ls ms u (a, there, its, on, changes) = (
  a,
  subst (In a) (sym (acts_more [] ls ms)) (in_later ms (acts ls) a there),
  its,
  read_later committing_of (λ (m : Placed (List Act)). holds_in (λ (t : Act). t.id == a.id) (top_in m.it)) [] 0 ls ms on,
  changes_later ls ms a.id changes,
)

among_left : (id x s : ℕ) (fs : List (Placed last.Exclusion)) →
    is_among (Words.map (λ (f : Placed last.Exclusion). f.it.node) (filter
    (λ (f : Placed last.Exclusion). (f.it.top == id) && (f.it.x == x)) fs)) s
    ≡ list_any (λ (f : Placed last.Exclusion). ((f.it.top == id) && (f.it.x == x)) && (f.it.node == s)) fs
among_left id x s [] = refl
among_left id x s (f ∷ fs) = by ((f.it.top == id) && (f.it.x == x)) (among_left id x s fs)
  where
    rest : List (Placed last.Exclusion)
    rest = filter (λ (g : Placed last.Exclusion). (g.it.top == id) && (g.it.x == x)) fs

    by : (b : Bool) → is_among (Words.map (λ (g : Placed last.Exclusion). g.it.node) rest) s
        ≡ list_any (λ (g : Placed last.Exclusion). ((g.it.top == id) && (g.it.x == x)) && (g.it.node == s)) fs →
        is_among (Words.map (λ (g : Placed last.Exclusion). g.it.node) (cond b (f ∷ rest) rest)) s
        ≡ ((b && (f.it.node == s)) || list_any (λ (g : Placed last.Exclusion). ((g.it.top == id) && (g.it.x == x)) && (g.it.node == s)) fs)
    by true ih = ap (λ b. (f.it.node == s) || b) ih
    by false ih = ih

-- who has excluded a store has so by more lines
pub leaves_later : (ls ms : List Line) (id x s : ℕ) → is_among (leaves_of ls id x) s ≡ true → is_among (leaves_of (ls ++ ms) id x) s ≡ true
leaves_later ls ms id x s on = among_left id x s (last.excluded (ls ++ ms))
    ∙ read_later excluded_of (λ (f : Placed last.Exclusion). ((f.it.top == id) && (f.it.x == x)) && (f.it.node == s)) [] 0 ls ms
    (sym (among_left id x s (last.excluded ls)) ∙ on)

excludes_later : (ls ms : List Line) (u : Uid) (marks : Marks) → Excludes ls u marks → Excludes (ls ++ ms) u marks
excludes_later ls ms u marks its e i = let z = its e i in (
  z.0,
  subst (In z.0) (sym (acts_more [] ls ms)) (in_later ms (acts ls) z.0 z.1),
  z.2,
  leaves_later ls ms (let a = z.0 in a.id) e.0 e.1 z.3,
)

includes_later : (ls ms : List Line) (u : Uid) (marks : Marks) → Includes ls u marks → Includes (ls ++ ms) u marks
includes_later ls ms u marks its e i = let z = its e i in (
  z.0,
  subst (In z.0) (sym (acts_more [] ls ms)) (in_later ms (acts ls) z.0 z.1),
  z.2,
  joins_later ls ms (let a = z.0 in a.id) e.0 e.1 z.3,
)

ask_later : (ls ms : List Line) (o : Option (Head × Ask)) → AskSo ls o → AskSo (ls ++ ms) o
ask_later ls ms None so = so
ask_later ls ms (Some (h, ask.Prepare states)) so = called_later ls ms (actor h.path) so
ask_later ls ms (Some (h, ask.Confirm grants excluded included)) so = (
  (λ some. names_later ls ms (actor h.path) (so.0 some)),
  excludes_later ls ms (actor h.path) excluded so.1,
  includes_later ls ms (actor h.path) included so.2,
)
ask_later ls ms (Some (h, ask.Bind a b c)) so = so
ask_later ls ms (Some (h, ask.Load a)) so = so
ask_later ls ms (Some (h, ask.Activate a b)) so = so
ask_later ls ms (Some (h, ask.Record a b c d)) so = so
ask_later ls ms (Some (h, ask.Invoke a b c d e)) so = so
ask_later ls ms (Some (h, ask.Vote a b c)) so = so

-- ---- what a coordinator asks

-- what it stands on: good nodes, outcomes, and what a commit under way includes and has excluded
abbrev pub Stood : Seen → Type 0
Stood M = ((IsRight M × AreBound M) × IncludesAreSaid M) × MarksAreSaid M

pub stood_keep : (hd : Header) → Keeps hd Stood
stood_keep hd =
    kept_both hd (λ M. (IsRight M × AreBound M) × IncludesAreSaid M) MarksAreSaid
    (kept_both hd (λ M. IsRight M × AreBound M) IncludesAreSaid
    (kept_both hd IsRight AreBound (right_keep hd) (keeps_given hd IsRight AreBound (binds_keep hd)))
    (given_more hd (λ M. IsKept M × AreBound M) (λ M. IsRight M × AreBound M) IncludesAreSaid (λ M g. (its_kept M g.0, g.1))
    (joins_given hd)))
    (given_more hd IsKept (λ M. (IsRight M × AreBound M) × IncludesAreSaid M) MarksAreSaid (λ M g. its_kept M g.0.0) (marks_given hd))
  where
    its_kept : (M : Seen) → IsRight M → IsKept M
    its_kept M right = right.0.0.0.0

-- the commit that naming is asked for
record ConfirmsBy (c : Coord) (u : Uid) (e i : Marks) : Type 0 where
  pub doing : Doing
  pub plan : Plan
  pub found : doing_of u c ≡ Some doing
  pub now : doing.now ≡ Committing (Confirming plan)
  pub excluded : e ≡ plan.excluded
  pub included : i ≡ included_of plan

confirms_by : (c : Coord) (to : ℕ) (h : Head) (g : Grants) (e i : Marks) → IsSentBy c to h (ask.Confirm g e i) → ConfirmsBy c
    (actor h.path) e i
confirms_by c to h g e i s = by s.doing.now refl
  where
    step : (x : ℕ) (goal : Words.Goal) (at : Words.At) → ask.Confirm g e i ≡ Words.ask_at x goal [] at → ⊥
    step x goal (Words.AtBind avoid) is = cc is
    step x goal (Words.AtLoad k t rest) is = cc is
    step x goal (Words.AtActivate k st) is = cc is
    step x goal (Words.AtNote k j) is = cc is
    step x goal (Words.AtInvoke k j) is = cc is

    machine : (m : Machine) → s.doing.now ≡ Committing m → ask.Confirm g e i ≡ ask_of m to → ConfirmsBy c (actor h.path) e i
    machine (Voting p left) now is = absurd (cc is)
    machine (Preparing p left) now is = absurd (cc is)
    machine (Confirming p) now is = record { doing = s.doing; plan = p; found = s.found; now = now; excluded = cc is; included = cc is }

    by : (n : Now) → s.doing.now ≡ n → ConfirmsBy c (actor h.path) e i
    by Idle now = absurd (s.busy now)
    by (Calling z) now = absurd (step z.x z.goal z.at (let f = s.step z now in f.same))
    by (Committing m) now = machine m now (let f = s.commit m now in f.same)

-- whoever asks a store is at its commit
prepares_by : (c : Coord) (to : ℕ) (h : Head) (ss : List Words.ObjectState) → IsSentBy c to h (ask.Prepare ss) →
    (d : Doing) × (m : Machine) × (doing_of (actor h.path) c ≡ Some d) × (d.now ≡ Committing m)
prepares_by c to h ss s = by s.doing.now refl
  where
    step : (x : ℕ) (goal : Words.Goal) (at : Words.At) → ask.Prepare ss ≡ Words.ask_at x goal [] at → ⊥
    step x goal (Words.AtBind avoid) is = cc is
    step x goal (Words.AtLoad k t rest) is = cc is
    step x goal (Words.AtActivate k st) is = cc is
    step x goal (Words.AtNote k j) is = cc is
    step x goal (Words.AtInvoke k j) is = cc is

    by : (n : Now) → s.doing.now ≡ n → (d : Doing) × (m : Machine) × (doing_of (actor h.path) c ≡ Some d) × (d.now ≡ Committing m)
    by Idle now = absurd (s.busy now)
    by (Calling z) now = absurd (step z.x z.goal z.at (let f = s.step z now in f.same))
    by (Committing m) now = (s.doing, m, s.found, now)

in_flat : {A B : Type 0} (f : A → List B) (b : B) (xs : List A) → In b (flat_map f xs) → (a : A) × In a xs × In b (f a)
in_flat f b [] i = absurd i
in_flat {A} {B} f b (x ∷ xs) i = ⊎_elim (λ here. (x, inl refl, here)) (λ rest. let r = in_flat f b xs rest in (r.0, inr r.1, r.2))
    (split (f x) i)
  where
    split : (ys : List B) → In b (ys ++ flat_map f xs) → In b ys ⊎ In b (flat_map f xs)
    split [] j = inr j
    split (y ∷ ys) (inl same) = inl (inl same)
    split (y ∷ ys) (inr j) = ⊎_elim (λ here. inl (inr here)) (λ there. inr there) (split ys j)

has_in : (ns : List ℕ) (n : ℕ) → In n ns → has ns n ≡ true
has_in [] n i = absurd i
has_in (m ∷ ns) n (inl is) = λ j. (ap (λ k. k == n) is ∙ same_number n) j || has ns n
has_in (m ∷ ns) n (inr i) = (λ j. (m == n) || has_in ns n i j) ∙ last_true (m == n)
  where
    last_true : (b : Bool) → (b || true) ≡ true
    last_true true = refl
    last_true false = refl

-- a plan uses each object once
pub found_in : (us : List Used) → AreOnce us → (v : Used) → In v us → used_at v.x us ≡ Some v
found_in [] once v none = absurd none
found_in (u ∷ us) once v (inl same) = (λ i. cond ((ap (λ (w : Used). w.x == v.x) same ∙ same_number v.x) i) (Some u) (used_at v.x us)) ∙ ap
    Some same
found_in (u ∷ us) once v (inr more) = ap (λ b. cond b (Some u) (used_at v.x us)) (other u.x v.x (above us once.0 more)) ∙ found_in us
    once.1 v more
  where
    other : (m n : ℕ) → m < n → (m == n) ≡ false
    other m n less = grind (arith, nat_tests)

    above : (ws : List Used) → AllByRecursion (λ (w : Used). u.x < w.x) ws → In v ws → u.x < v.x
    above [] all none = absurd none
    above (w ∷ ws) all (inl is) = subst (λ (z : Used). u.x < z.x) is all.0
    above (w ∷ ws) all (inr i) = above ws all.1 i

-- who has marked a store has excluded one
of_top : (id x s : ℕ) (fs : List (Placed last.Exclusion)) →
    is_among (Words.map (λ (f : Placed last.Exclusion). f.it.node) (filter
    (λ (f : Placed last.Exclusion). (f.it.top == id) && (f.it.x == x)) fs)) s
    ≡ true → list_any (λ (f : Placed last.Exclusion). f.it.top == id) fs ≡ true
of_top id x s [] on = absurd (cc on)
of_top id x s (f ∷ fs) on = one (f.it.top == id) (f.it.x == x) (of_top id x s fs) on
  where
    rest : List (Placed last.Exclusion)
    rest = filter (λ (g : Placed last.Exclusion). (g.it.top == id) && (g.it.x == x)) fs

    one : (b c : Bool) → (is_among (Words.map (λ (g : Placed last.Exclusion). g.it.node) rest) s ≡ true →
        list_any (λ (g : Placed last.Exclusion). g.it.top == id) fs ≡ true) →
        is_among (Words.map (λ (g : Placed last.Exclusion). g.it.node) (cond (b && c) (f ∷ rest) rest)) s ≡ true →
        (b || list_any (λ (g : Placed last.Exclusion). g.it.top == id) fs) ≡ true
    one true c ih o = refl
    one false c ih o = ih o

module _ (k : ℕ) (d : Disk) (v : Parts) (N : Seen) (stood : Stood (up k d v N)) where
  abbrev lines : List Line
  lines = N.lines

  kept : IsKept (up k d v N)
  kept = stood.0.0.0.0.0.0.0

  right : AreRight new_book N.lines
  right = let w = kept.1 in w.right

  here : (up k d v N).nodes k ≡ Some (record { number = k; disk = d; live = Some v })
  here = λ i. cond (same_number k i) (Some (record { number = k; disk = d; live = Some v })) (N.nodes k)

  module _ (u : Uid) (q : Doing) (m : Machine) (found : doing_of u v.coord ≡ Some q) (now : q.now ≡ Committing m) where
    named : IsNamed (up k d v N) k u q
    named = named_at (up k d v N) kept k (record { number = k; disk = d; live = Some v }) v u q m here refl found now

    includes : FitsIncludes (book N.lines) (name q.label) m
    includes = (stood.0.1 k (record { number = k; disk = d; live = Some v }) v here refl).1 u q m found now

    same_act : includes.0 ≡ named.act
    same_act = let e : ◌≡◌ {A = Option Act} (Some includes.0) (Some named.act) = sym includes.1 ∙ named.named in cc e

    in_acts : In named.act (acts N.lines)
    in_acts = subst (In named.act) (its_acts N.lines right) (named_in (let B = book N.lines in B.acts) (name q.label) named.act named.named)

    its_call : was_called (committings N.lines) (let a = named.act in a.id) ≡ true
    its_call =
        called_is N.lines right named.act in_acts
        ∙ subst (λ (z : Act). is_on (let B = book N.lines in B.called) z.uid ≡ true) same_act includes.2

    is_called : IsCalled N.lines u
    is_called = (named.act, in_acts, named.uid, its_call)

  module _ (u : Uid) (q : Doing) (p : Plan) (found : doing_of u v.coord ≡ Some q) (now : q.now ≡ Committing (Confirming p)) where
    abbrev its : IsNamed (up k d v N) k u q
    its = named u q (Confirming p) found now

    awaited : AreOnce p.used
    awaited =
        let r = it 0 k d v N (let z : IsGood (up k d v N) = kept.0 in z) in
        let n : IsNumbered q.req (Committing (Confirming p)) = subst (IsNumbered q.req) now (r.numbered u q found) in n.1.0

    leaves : (e : ℕ × ℕ) → In e p.excluded → is_among (leaves_of N.lines its.act.id e.0) e.1 ≡ true
    leaves e i = sym (left N.lines right e.0 its.act (in_acts u q (Confirming p) found now) e.1) ∙ marked
      where
        said_it : was_marked N.lines (name q.label) e.0 e.1 ≡ is_marked e.0 e.1 p
        said_it = stood.1 k (record { number = k; disk = d; live = Some v }) v u q here refl found (Confirming p) now e.0 e.1

        label : its.act.label ≡ name q.label
        label = named_label (let B = book N.lines in B.acts) (name q.label) its.act its.named

        marked : was_marked N.lines its.act.label e.0 e.1 ≡ true
        marked = ap (λ l. was_marked N.lines l e.0 e.1) label ∙ said_it
            ∙ any_in (λ (m : ℕ × ℕ). (m.0 == e.0) && (m.1 == e.1)) p.excluded e i (λ i. same_number e.0 i && same_number e.1 i)

    excludes : (e : ℕ × ℕ) (es : Marks) → p.excluded ≡ e ∷ es → ChangesLists N.lines its.act.id
    excludes e es is = inl (of_top its.act.id e.0 e.1 (last.excluded N.lines) (leaves e (subst (In e) (sym is) (inl refl))))

    -- a survivor of its includes names each store that it includes
    joins_it : (i : ℕ × ℕ) → In i (included_of p) → is_among (joins_of N.lines its.act.id i.0) i.1 ≡ true
    joins_it i there =
        subst (λ x. is_among (joins_of N.lines its.act.id x) i.1 ≡ true) (ap (λ (z : ℕ × ℕ). z.0) m.2)
        (sym (joined N.lines right w.x its.act (in_acts u q (Confirming p) found now) i.1)
        ∙ subst (λ (z : Act). has_included (book N.lines) z.uid w.x i.1 ≡ true) (same_act u q (Confirming p) found now)
        (sym (includes_it.same w.x i.1) ∙ (λ j. has (let r = plan_by (found_in p.used awaited w in_used j) (Words.changed_of w.x p) in
        r.joins) i.1) ∙ mine))
      where
        f : (a : Used) × In a p.used × In i (joins_left p a)
        f = in_flat (joins_left p) i p.used there

        w : Used
        w = f.0

        in_used : In w p.used
        in_used = f.1

        m : (s : ℕ) × In s (filter (λ s. not (is_marked w.x s p)) w.joins) × ((w.x, s) ≡ i)
        m = in_map {X = ℕ} {Y = ℕ × ℕ} (λ s. (w.x, s)) i (filter (λ s. not (is_marked w.x s p)) w.joins) f.2

        mine : has w.joins i.1 ≡ true
        mine = subst (λ z. has w.joins z ≡ true) (ap (λ (z : ℕ × ℕ). z.1) m.2)
            (has_in w.joins m.0 (in_filter (λ s. not (is_marked w.x s p)) m.0 w.joins m.1).0)

        includes_it : IncludesLeft (book N.lines) (let a = (includes u q (Confirming p) found now).0 in a.uid) p
        includes_it = (includes u q (Confirming p) found now).3

    changes : HasMarks p.excluded (included_of p) → ChangesLists N.lines its.act.id
    changes some = by p.excluded refl (included_of p) refl
      where
        by : (es : Marks) → p.excluded ≡ es → (is : Marks) → included_of p ≡ is → ChangesLists N.lines its.act.id
        by (e ∷ es) ex is ic = excludes e es ex
        by [] ex (i ∷ is) ic = inr (i.0, i.1, joins_it i (subst (In i) (sym ic) (inl refl)))
        by [] ex [] ic = absurd (some (ex, ic))

    names_it : HasMarks p.excluded (included_of p) → NamesLists N.lines u
    names_it some = (
      its.act,
      in_acts u q (Confirming p) found now,
      its.uid,
      its_call u q (Confirming p) found now,
      changes some,
    )

  sent_so : (to : ℕ) (h : Head) (a : Ask) → IsSentBy v.coord to h a → AskSo N.lines (Some (h, a))
  sent_so to h (ask.Prepare states) s = let b = prepares_by v.coord to h states s in is_called (actor h.path) b.0 b.1 b.2 b.3
  sent_so to h (ask.Confirm grants excluded included) s =
      let b = confirms_by v.coord to h grants excluded included s in
      let z = its (actor h.path) b.doing b.plan b.found b.now in (
        (λ some. names_it (actor h.path) b.doing b.plan b.found b.now (λ none. some (b.excluded ∙ none.0, b.included ∙ none.1))),
        λ e i. (
          z.act,
          in_acts (actor h.path) b.doing (Confirming b.plan) b.found b.now,
          z.uid,
          leaves (actor h.path) b.doing b.plan b.found b.now e (subst (In e) b.excluded i),
        ),
        λ e i. (
          z.act,
          in_acts (actor h.path) b.doing (Confirming b.plan) b.found b.now,
          z.uid,
          joins_it (actor h.path) b.doing b.plan b.found b.now e (subst (In e) b.included i),
        ),
      )
  sent_so to h (ask.Bind a b c) s = tt
  sent_so to h (ask.Load a) s = tt
  sent_so to h (ask.Activate a b) s = tt
  sent_so to h (ask.Record a b c e) s = tt
  sent_so to h (ask.Invoke a b c e f) s = tt
  sent_so to h (ask.Vote a b c) s = tt

-- ---- along effects

-- each is so, or comes with these effects, behind which nothing is done on the disk
abbrev AreOrNew : Parts → List Effect → Seen → Type 0
AreOrNew v es M = (p : Post) → seen.In p M.sent → AskSo M.lines (asks p.message)
    ⊎ (((h : Head) (a : Ask) → asks p.message ≡ Some (h, a) → IsSentBy v.coord p.to h a) × AreIdle es)

walk : (e k : ℕ) (v : Parts) (outs : List Effect) (d : Disk) (M : Seen) → AllSo v.coord outs → Late outs → AreOrNew v outs M →
    Walks Stood e k outs (Up Stood k v) d M → Walks AsksAreSo e k outs (Up AsksAreSo k v) d M
walk e k v [] d M so late are stood = λ p there. ⊎_elim (λ old. old) (λ new. by p (asks p.message) refl (λ h a. new.0 h a)) (are p there)
  where
    by : (p : Post) (o : Option (Head × Ask)) → asks p.message ≡ o → ((h : Head) (a : Ask) → asks p.message ≡ Some (h, a) → IsSentBy
        v.coord p.to h a) →
        AskSo M.lines (asks p.message)
    by p None is new = subst (AskSo M.lines) (sym is) tt
    by p (Some q) is new = subst (AskSo M.lines) (sym is) (sent_so k d v M stood p.to q.0 q.1 (new q.0 q.1 is))
walk e k v (Do w ∷ es) d M so late are stood = (
  λ how p there. ask_later M.lines (numbered e (body.Halted k ∷ [])) (asks p.message) (was p there),
  walk e k v es (worked w d) M so.1 late (λ p there. inl (was p there)) stood.1,
)
  where
    was : AsksAreSo M
    was p there = ⊎_elim (λ old. old) (λ new. let z : AreIdle (Do w ∷ es) = new.1 in absurd z.0) (are p there)
walk e k v (Say b ∷ es) d M so late are stood = walk e k v es d (said e (b ∷ []) M) so.1 late
    (λ p there. ⊎_elim (λ old. inl (ask_later M.lines (numbered e (b ∷ [])) (asks p.message) old))
    (λ new. let z : AreIdle (Say b ∷ es) = new.1 in inr (new.0, z.1)) (are p there)) stood
walk e k v (Send to m ∷ es) d M so late are stood = λ more quiet. walk e k v es d
    (said e more (posted (record { from = k; to = to; message = m }) M)) so.1
    late.1 (λ p there. ⊎_elim (λ same. here more p same)
    (λ old. ⊎_elim (λ is. inl (ask_later M.lines (numbered e more) (asks p.message) is))
    (λ new. let z : AreIdle (Send to m ∷ es) = new.1 in inr (new.0, z.1)) (are p old)) there) (stood more quiet)
  where
    here : (more : List Body) (p : Post) → record { from = k; to = to; message = m } ≡ p → AskSo (M.lines ++ numbered e more)
        (asks p.message)
        ⊎ (((h : Head) (a : Ask) → asks p.message ≡ Some (h, a) → IsSentBy v.coord p.to h a) × AreIdle es)
    here more p same = ⊎_elim
        (λ none. inl (subst (AskSo (M.lines ++ numbered e more)) (sym none ∙ ap (λ (q : Post). asks q.message) same) tt))
        (λ idle. inr (
          (λ h a is. subst (λ (q : Post). IsSentBy v.coord q.to h a) same
              (so.0 h a (ap (λ (q : Post). asks q.message) same ∙ is))),
          idle,
        ))
        late.0

beside : (e k : ℕ) (v : Parts) (outs : List Effect) (d : Disk) (M : Seen) → AllSo v.coord outs → Late outs → AsksAreSo M →
    Walks Stood e k outs (Up Stood k v) d M → Walks (λ N. Stood N × AsksAreSo N) e k outs (Up (λ N. Stood N × AsksAreSo N) k v) d M
beside e k v outs d M so late are stood = Terms.walks_both Stood AsksAreSo e k outs (Up Stood k v) (Up AsksAreSo k v) d M stood
    (walk e k v outs d M so late (λ p there. inl (are p there)) stood)

-- ---- in every run

pub asking_keep : (hd : Header) → Keeps hd (λ M. Stood M × AsksAreSo M)
asking_keep hd = record {
  quiet = λ e bs M quiet g. (keeps.quiet e bs M quiet g.0, λ p there. ask_later M.lines (numbered e bs) (asks p.message) (g.1 p there));
  stop = λ e k d live M g.
      (keeps.stop e k d live M g.0, λ p there. ask_later M.lines (numbered e (body.Halted k ∷ [])) (asks p.message) (g.1 p there));
  message = λ e k d t v from m outs M g there meant is. let b = good k d t M g.0 in
      beside e k v outs d M (message_sends b.0 e k d t M b.1 from m v outs is) (message_late k d t v from m outs is) g.1
      (keeps.message e k d t v from m outs M g.0 there meant is);
  act = λ e k d t i M is free g. let did = acts_of i d.intents t.coord in let b = good k d t M g.0 in
      beside e k (with_coord t did.part) did.outs d M (act_sends b.0 e k d t M b.1 i is) (acts_late i d.intents t.coord) g.1
      (keeps.act e k d t i M is free g.0);
  begin = λ e k d t l how parent M new may free g. let did = begin_action l how parent (parent_of parent t.coord) t.coord in
      beside e k (with_coord t did.part) did.outs d (given l (record { node = k; serial = is_serial how }) M) (tt, tt) tt g.1
      (keeps.begin e k d t l how parent M new may free g.0);
  tick = λ e k d t M g. let b = good k d t M g.0 in
      beside e k (with_coord t (again_all t.coord.doings t.coord).part) (tick_outs (record { number = k; disk = d; live = Some t }) t) d M
      (tick_sends b.0 e k d t M b.1) (tick_late (record { number = k; disk = d; live = Some t }) t) g.1 (keeps.tick e k d t M g.0);
  restart = λ e k d M g. beside e k (parts_in k (d.inc + 1) d) (restart_outs hd k (d.inc + 1) d) d M (restart_asks hd k (d.inc + 1) d)
      (restart_late hd k (d.inc + 1) d) g.1 (keeps.restart e k d M g.0);
  first = λ st formed. (keeps.first st formed, λ p there. absurd there);
}
  where
    keeps : Keeps hd Stood
    keeps = stood_keep hd

    good : (k : ℕ) (d : Disk) (t : Parts) (M : Seen) → Stood (up k d t M) → IsGood (up k d t M)
    good k d t M stood = let z : IsKept (up k d t M) = stood.0.0.0.0.0.0.0 in z.0
