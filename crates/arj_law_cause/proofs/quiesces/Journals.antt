-- Lines of a quiesce, by themselves: what follows of those that stand in it, and what waits before and behind it.
use Rattle.arj_law.proofs.Reading.{acts-append, read-append, read_none}
use Rattle.arj_law_parts.proofs.Words
use Words.{◌≡◌, ◌∙◌, ◌+◌, ◌==◌, ◌&&◌, ◌||◌, not, ℕ, Bool, true, false, cond, if◌then◌else◌, List, [], ◌∷◌, ◌++◌, length, refl, sym, ap, subst, nat_lt}
use Words.{append_assoc, append-nil, filter-append, list_any-append, map-append, Option, Some, None, option_map, ◌⊎◌, inl, inr, ⊎_elim, AllByRecursion}
use Words.{In, and_parts, list_all, list_any, Body, Event, Line, Label, Start, name, Cause}
use Words.body
use Words.event
use Rattle.arj_law_parts.specs.steps.Halts.{halted_node}
use Rattle.arj_law_runs.proofs.Terms.{Act, act_in, acts}
use Rattle.arj_model.specs.Actions.{Halt, Placed, acts_from, begun_of, ended, ended_of, halt_of, halts, has_end, is_halted, is_over, numbered, read}
use Rattle.arj_model.specs.Calls.{committing_of, committings}
use Rattle.arj_model.specs.CauseNodes.{is_quiesce}
use Rattle.arj_model.specs.Follows.{AnswerFits}
use Rattle.arj_model.specs.Past.{Asked, Past, asked_of, block, is_refused, next}
use Rattle.arj_model.specs.Refusals.{asks_by, answers_to, has_ended, holds_of, is_ask_by, is_committing, last_asked, waits_for, was_called}
use Rattle.arj_law_cause.specs.kinds.Kinds.{is_limit}
use Rattle.arj_law_cause.specs.rounds.Known.{has_limit}
use Rattle.arj_law_cause.specs.rounds.Quiesces.{SaysQuiet, cuts_short}
use Rattle.arj_law_cause.specs.waits.commits.Commits.{CommitsFit, ends_commit}

abbrev line_of : ℕ → Body → Line
line_of n b = record { event = n; body = b }

or_parts : (a b : Bool) → a || b ≡ false → (a ≡ false) × (b ≡ false)
or_parts false false is = (refl, refl)
or_parts true b is = absurd (cc is)
or_parts false true is = absurd (cc is)

-- ---- lines that cut short

cut_halt : (b : Body) → cuts_short b ≡ false → halted_node b ≡ None
cut_halt (body.Halted n) is = absurd (cc is)
cut_halt b is = refl

cut_limit : (b : Body) → cuts_short b ≡ false → is_limit b ≡ false
cut_limit (body.Limit what) is = absurd (cc is)
cut_limit b is = refl

pub none_halts : (n : ℕ) (bs : List Body) → list_any cuts_short bs ≡ false →
    AllByRecursion (λ (l : Line). halted_node l.body ≡ None) (block n bs)
none_halts n [] none = tt
none_halts n (b ∷ bs) none =
    let p = or_parts (cuts_short b) (list_any cuts_short bs) none in (cut_halt b p.0, none_halts n bs p.1)

pub none_limits : (n : ℕ) (bs : List Body) → list_any cuts_short bs ≡ false → has_limit (block n bs) ≡ false
none_limits n [] none = refl
none_limits n (b ∷ bs) none =
    let p = or_parts (cuts_short b) (list_any cuts_short bs) none in λ i. cut_limit b p.0 i || none_limits n bs p.1 i

-- ---- the last line

-- some lines, and one more
pub snoc : (bs : List Body) → (bs ≡ []) ⊎ ((front : List Body) × (b : Body) × (bs ≡ front ++ b ∷ []))
snoc [] = inl refl
snoc (b ∷ bs) = ⊎_elim (λ none. inr ([], b, ap (λ (cs : List Body). b ∷ cs) none))
    (λ more. inr (b ∷ more.0, more.1, ap (λ (cs : List Body). b ∷ cs) more.2)) (snoc bs)

last_is : (xs ys : List Line) (a b : Line) → xs ++ a ∷ [] ≡ ys ++ b ∷ [] → a ≡ b
last_is [] [] a b is = cc is
last_is [] (y ∷ []) a b is = absurd (cc is)
last_is [] (y ∷ z ∷ ys) a b is = absurd (cc is)
last_is (x ∷ []) [] a b is = absurd (cc is)
last_is (x ∷ z ∷ xs) [] a b is = absurd (cc is)
last_is (x ∷ xs) (y ∷ ys) a b is = last_is xs ys a b (cc is)

-- the last line of a journal is that of the event that wrote some
pub says_last : (ls before : List Line) (n e : ℕ) (bs : List Body) → (bs ≡ [] → ⊥) →
    ls ++ block n bs ≡ before ++ line_of e (body.Quiet true) ∷ [] → SaysQuiet bs
says_last ls before n e bs some is = ⊎_elim (λ none. absurd (some none)) by (snoc bs)
  where
    by : (front : List Body) × (b : Body) × (bs ≡ front ++ b ∷ []) → SaysQuiet bs
    by m =
        let all : (ls ++ block n m.0) ++ line_of n m.1 ∷ [] ≡ before ++ line_of e (body.Quiet true) ∷ [] =
        append_assoc ls (block n m.0) (line_of n m.1 ∷ [])
        ∙ ap (λ ks. ls ++ ks) (sym (map-append (λ (b : Body). line_of n b) m.0 (m.1 ∷ [])))
        ∙ ap (λ cs. ls ++ block n cs) (sym m.2) ∙ is in
        let same : m.1 ≡ body.Quiet true = ap (λ (l : Line). l.body)
        (last_is (ls ++ block n m.0) before (line_of n m.1) (line_of e (body.Quiet true)) all) in
        (m.0, m.2 ∙ ap (λ (b : Body). m.0 ++ b ∷ []) same)

-- ---- a line of an event

pub in_block : (n : ℕ) (bs : List Body) (l : Line) → In l (block n bs) → In l.body bs
in_block n [] l there = absurd there
in_block n (b ∷ bs) l (inl same) = inl (ap (λ (k : Line). k.body) same)
in_block n (b ∷ bs) l (inr there) = inr (in_block n bs l there)

pub all_in : (P : Body → Type 0) (bs : List Body) → AllByRecursion P bs → (b : Body) → In b bs → P b
all_in P [] all b there = absurd there
all_in P (c ∷ cs) all b (inl same) = subst P same all.0
all_in P (c ∷ cs) all b (inr there) = all_in P cs all.1 b there

-- ---- commits that are under way

-- the line begins no action and calls no commit
abbrev pub is_late : Body → Bool
is_late (body.Began l k u p) = false
is_late (body.Committing l) = false
is_late b = true

late_begun : (b : Body) → is_late b ≡ true → begun_of b ≡ None
late_begun (body.Began l k u p) is = absurd (cc is)
late_begun b is = refl

late_called : (b : Body) (xs : List Act) → is_late b ≡ true → committing_of xs b ≡ None
late_called (body.Committing l) xs is = absurd (cc is)
late_called b xs is = refl

ends_more : (xs ys : List (Placed ℕ)) (id : ℕ) → has_end (xs ++ ys) id ≡ has_end xs id || has_end ys id
ends_more xs ys id = list_any-append (λ (e : Placed ℕ). e.it == id) xs ys

halts_more : (xs ys : List (Placed Halt)) (a : Act) → is_halted (xs ++ ys) a ≡ is_halted xs a || is_halted ys a
halts_more xs ys a = list_any-append (λ (h : Placed Halt). (h.it.node == a.uid.node) && nat_lt a.id h.it.begun) xs ys

-- whose commit is under way behind such a line had it under way before
pub back_one : (ls : List Line) (n : ℕ) (b : Body) (l : List ℕ) → is_late b ≡ true → is_committing (ls ++ line_of n b ∷ []) l ≡ true →
    is_committing ls l ≡ true
back_one ls n b l late is = by (act_in (acts ls) l) (sym here ∙ is)
  where
    same_acts : acts (ls ++ line_of n b ∷ []) ≡ acts ls
    same_acts = acts-append [] ls (line_of n b ∷ []) ∙ ap (λ o. numbered (acts ls) o) (late_begun b late)

    same_calls : committings (ls ++ line_of n b ∷ []) ≡ committings ls
    same_calls = read_none committing_of ls (line_of n b) (late_called b (acts ls) late)

    here : is_committing (ls ++ line_of n b ∷ []) l
        ≡ holds_of (λ (a : Act). was_called (committings ls) a.id && not (is_over (ls ++ line_of n b ∷ []) a)) (act_in (acts ls) l)
    here = λ i. holds_of (λ (a : Act). was_called (same_calls i) a.id && not (is_over (ls ++ line_of n b ∷ []) a)) (act_in (same_acts i) l)

    none_before : (a d c e : Bool) → (a || c) || (d || e) ≡ false → a || d ≡ false
    none_before false false c e off = refl
    none_before true d c e off = absurd (cc off)
    none_before false true true e off = absurd (cc off)
    none_before false true false e off = absurd (cc off)

    open_too : (a : Act) → is_over (ls ++ line_of n b ∷ []) a ≡ false → is_over ls a ≡ false
    open_too a opened =
        let more_ends = read ended_of (acts_from [] ls) (0 + length ls) (line_of n b ∷ []) in
        let more_halts = read halt_of (acts_from [] ls) (0 + length ls) (line_of n b ∷ []) in
        none_before (has_end (ended ls) a.id) (is_halted (halts ls) a) (has_end more_ends a.id) (is_halted more_halts a)
        (sym ((λ i. has_end (read-append ended_of [] 0 ls (line_of n b ∷ []) i) a.id
        || is_halted (read-append halt_of [] 0 ls (line_of n b ∷ []) i) a)
        ∙ (λ i. ends_more (ended ls) more_ends a.id i || halts_more (halts ls) more_halts a i))
        ∙ opened)

    shut : (x : Bool) → not x ≡ true → x ≡ false
    shut false on = refl
    shut true off = absurd (cc off)

    by : (o : Option Act) → holds_of (λ (a : Act). was_called (committings ls) a.id && not (is_over (ls ++ line_of n b ∷ []) a)) o ≡ true →
        holds_of (λ (a : Act). was_called (committings ls) a.id && not (is_over ls a)) o ≡ true
    by None off = absurd (cc off)
    by (Some a) on =
        let p = and_parts (was_called (committings ls) a.id) (not (is_over (ls ++ line_of n b ∷ []) a)) on in
        λ i. p.0 i && not (open_too a (shut (is_over (ls ++ line_of n b ∷ []) a) p.1) i)

-- a line that ends a commit is of one that was under way as the event began
pub ends_one : (st : Start) (acc : List Asked) (ls : List Line) (n : ℕ) (bs : List Body) (l : Label) (why : Cause) →
    ends_commit (body.Aborted l why) ≡ true → list_all is_late bs ≡ true → CommitsFit st acc ls n bs → In (body.Aborted l why) bs →
    is_committing ls (name l) ≡ true
ends_one st acc ls n [] l why ends late fit there = absurd there
ends_one st acc ls n (b ∷ bs) l why ends late fit (inl same) =
    subst (AnswerFits st acc ls) same (fit.0 (ap ends_commit same ∙ ends))
ends_one st acc ls n (b ∷ bs) l why ends late fit (inr there) =
    let p = and_parts (is_late b) (list_all is_late bs) late in
    back_one ls n b (name l) p.0 (ends_one st acc (ls ++ line_of n b ∷ []) n bs l why ends p.1 fit.1 there)

-- ---- what waits before and behind it

quiet_asks : (e : Event) (l : List ℕ) → is_quiesce e ≡ true → is_ask_by l e ≡ false
quiet_asks event.Quiesce l is = refl
quiet_asks (event.Call m x op) l is = absurd (cc is)
quiet_asks (event.Include m x n) l is = absurd (cc is)
quiet_asks e l is = refl

-- a quiesce asks nothing
pub asks_same : (p : Past) (e : Event) (bs : List Body) (l : List ℕ) → is_quiesce e ≡ true →
    asks_by (next p e bs).accepted l ≡ asks_by p.accepted l
asks_same p e bs l is = by (is_refused bs)
  where
    by : (b : Bool) → asks_by (if b then p.accepted else p.accepted ++ asked_of p e ∷ []) l ≡ asks_by p.accepted l
    by true = refl
    by false = filter-append (λ (a : Asked). is_ask_by l a.event) p.accepted (asked_of p e ∷ [])
        ∙ (λ i. asks_by p.accepted l ++ cond (quiet_asks e l is i) (asked_of p e ∷ []) [])
        ∙ append-nil (asks_by p.accepted l)

-- what waits is what was asked last
last_waits : (acc : List Asked) (ls : List Line) (l : List ℕ) (e : Event) → waits_for acc ls l ≡ Some e →
    option_map (λ (a : Asked). a.event) (last_asked (asks_by acc l)) ≡ Some e
last_waits acc ls l e is = by (has_ended ls l) (nat_lt (length (answers_to ls l)) (length (asks_by acc l))) is
  where
    by : (b c : Bool) → (if b then None else option_map (λ (a : Asked). a.event) (if c then last_asked (asks_by acc l) else None)) ≡ Some e →
        option_map (λ (a : Asked). a.event) (last_asked (asks_by acc l)) ≡ Some e
    by true c off = let never : ◌≡◌ {A = Option Event} None (Some e) = off in absurd (cc never)
    by false false off = let never : ◌≡◌ {A = Option Event} None (Some e) = off in absurd (cc never)
    by false true on = on

pub waits_same : (acc more : List Asked) (ls ks : List Line) (l : List ℕ) (e f : Event) → asks_by more l ≡ asks_by acc l →
    waits_for acc ls l ≡ Some e → waits_for more ks l ≡ Some f → f ≡ e
waits_same acc more ls ks l e f same one two = some_is (sym (last_waits more ks l f two)
    ∙ ap (λ xs. option_map (λ (a : Asked). a.event) (last_asked xs)) same ∙ last_waits acc ls l e one)
  where
    some_is : ◌≡◌ {A = Option Event} (Some f) (Some e) → f ≡ e
    some_is is = cc is
