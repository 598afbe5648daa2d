-- What is asked of all actions, asked of those that wait.
use Rattle.std.proofs.Common.{◌≡◌, ℕ, ◌+◌, ◌==◌, zero, suc, List, [], ◌∷◌, Bool, true, false, not, ◌&&◌, ◌||◌, refl, ap, sym, ◌∙◌, Option}
use Rattle.std.proofs.Common.{Some, None, arith, filter, if◌then◌else◌}
use Rattle.std.proofs.lemmas.Bool.Decides.{nat_tests}
use Rattle.std.specs.List.{list_any}
use Rattle.std.specs.Prelude.{slice_get}
use Rattle.arj_coord.specs.Waiting.{waiting, passes, waits_so, passes_at, any_passes, is_other, is_other_constituent}
use Rattle.arj_protocol.specs.Ask.{actor}
use Rattle.arj_protocol.specs.Coord.{Coord, Doing, Now, Idle, Calling, Committing, doing_of, of_root, calls_on, calls_now, branch_calls}
use Rattle.arj_protocol.specs.Coord.{others_call}
use Rattle.arj_protocol.specs.Step.{is_waiting_now, is_waiting, waits, is_committing_now, is_committing, is_sibling}
use Rattle.arj_protocol.specs.Tree.{Branch, at_place, is_open_below, root_of}
use Rattle.arj_protocol.specs.Words.{Uid, uid_eq}
use Rattle.arj_tree.specs.Stands.{AreNamed}
use Rattle.arj_start.specs.Kinds.{is_constituent}

same_number : (n : ℕ) → (n == n) ≡ true
same_number n = grind (arith, nat_tests)

and_false : (b : Bool) → (b && false) ≡ false
and_false true = refl
and_false false = refl

-- an action at work, by its place
doing_at : (c : Coord) (u : Uid) (n : ℕ) → u ≡ record { node = c.tree.node; inc = c.tree.inc; num = n } → doing_of u c ≡ at_place n c.doings
doing_at c u n is = ap (λ w. doing_of w c) is ∙ rw (same_number c.tree.node, same_number c.tree.inc) refl

-- these items are those from a place on
abbrev AreFrom : {A : Type 0} → ℕ → List A → List A → Type 0
AreFrom n all rest = (k : ℕ) → at_place (n + k) all ≡ slice_get rest k

all_from : {A : Type 0} (all : List A) → AreFrom 1 all all
all_from all k = let place : 1 + k ≡ suc k = omega arith in ap (λ m. at_place m all) place

next_from : {A : Type 0} (n : ℕ) (all rest : List A) (a : A) → AreFrom n all (a ∷ rest) → AreFrom (n + 1) all rest
next_from n all rest a are k = let place : (n + 1) + k ≡ n + suc k = omega arith in ap (λ m. at_place m all) place ∙ are (suc k)

none_from : {A : Type 0} (n : ℕ) (all : List A) → AreFrom n all [] → AreFrom (n + 1) all []
none_from n all are k = let place : (n + 1) + k ≡ n + suc k = omega arith in ap (λ m. at_place m all) place ∙ are (suc k)

first_from : {A : Type 0} (n : ℕ) (all rest : List A) (a : A) → AreFrom n all (a ∷ rest) → at_place n all ≡ Some a
first_from n all rest a are = let place : n ≡ n + zero = omega arith in ap (λ m. at_place m all) place ∙ are zero

empty_from : {A : Type 0} (n : ℕ) (all : List A) → AreFrom n all [] → at_place n all ≡ None
empty_from n all are = let place : n ≡ n + zero = omega arith in ap (λ m. at_place m all) place ∙ are zero

-- nothing passes where nothing waits
abbrev OfWaiting : (Now → Bool) → Type 0
OfWaiting test = (m : Now) → is_waiting_now m ≡ false → test m ≡ false

-- a question on what an action waits for, also where there is none
pub record Asks (test : Now → Bool) (asked : Option Doing → Bool) : Type 0 where
  pub none : asked None ≡ false
  pub some : (d : Doing) → asked (Some d) ≡ test d.now

-- where there are no more actions none passes
none_pass : (c : Coord) (on : Branch → Bool) (test : Now → Bool) (n : ℕ) (ds : List Doing) → AreFrom n c.tree.branches [] →
    false ≡ any_passes on test c (waiting n ds)
none_pass c on test n [] none = refl
none_pass c on test n (d ∷ ds) none = by (is_waiting_now d.now) (none_pass c on test (n + 1) ds (none_from n c.tree.branches none))
  where
    gone : passes_at on test c n ≡ false
    gone = ap (λ o. passes on o && waits_so test (at_place n c.doings)) (empty_from n c.tree.branches none)

    by : (t : Bool) → false ≡ any_passes on test c (waiting (n + 1) ds) →
        false ≡ any_passes on test c (if t then n ∷ waiting (n + 1) ds else waiting (n + 1) ds)
    by true ih = ih ∙ ap (λ b. b || any_passes on test c (waiting (n + 1) ds)) (sym gone)
    by false ih = ih

-- the actions from a place on, with what they wait for, are asked as those of them that wait
beside : (c : Coord) (on : Branch → Bool) (test : Now → Bool) (asked : Option Doing → Bool) → Asks test asked → OfWaiting test →
    (n : ℕ) (bs : List Branch) (ds : List Doing)
    → AreFrom n c.tree.branches bs → AreFrom n c.doings ds → AreNamed c.tree.node c.tree.inc n bs →
    list_any (λ b. on b && asked (doing_of (actor b.path) c)) bs ≡ any_passes on test c (waiting n ds)
beside c on test asked asks idle n [] ds bs_are ds_are named = none_pass c on test n ds bs_are
beside c on test asked asks idle n (b ∷ bs) [] bs_are ds_are named =
    let found : doing_of (actor b.path) c ≡ None = doing_at c (actor b.path) n named.0 ∙ empty_from n c.doings ds_are in
    let here : (on b && asked (doing_of (actor b.path) c)) ≡ false =
    ap (λ o. on b && asked o) found ∙ ap (λ t. on b && t) asks.none ∙ and_false (on b) in
    ap (λ t. t || list_any (λ b. on b && asked (doing_of (actor b.path) c)) bs) here
    ∙ beside c on test asked asks idle (n + 1) bs [] (next_from n c.tree.branches bs b bs_are) (none_from n c.doings ds_are) named.1.1
beside c on test asked asks idle n (b ∷ bs) (d ∷ ds) bs_are ds_are named =
    by (is_waiting_now d.now) refl (beside c on test asked asks idle (n + 1) bs ds (next_from n c.tree.branches bs b bs_are) (next_from n c.doings ds d ds_are) named.1.1)
  where
    found : doing_of (actor b.path) c ≡ Some d
    found = doing_at c (actor b.path) n named.0 ∙ first_from n c.doings ds d ds_are

    here : (on b && asked (doing_of (actor b.path) c)) ≡ (on b && test d.now)
    here = ap (λ o. on b && asked o) found ∙ ap (λ t. on b && t) (asks.some d)

    idle_here : is_waiting_now d.now ≡ false → (on b && asked (doing_of (actor b.path) c)) ≡ false
    idle_here is = here ∙ ap (λ t. on b && t) (idle d.now is) ∙ and_false (on b)

    there : passes_at on test c n ≡ (on b && test d.now)
    there = λ i. passes on (first_from n c.tree.branches bs b bs_are i) && waits_so test (first_from n c.doings ds d ds_are i)

    by : (t : Bool) → is_waiting_now d.now ≡ t →
        list_any (λ b. on b && asked (doing_of (actor b.path) c)) bs ≡ any_passes on test c (waiting (n + 1) ds)
        → ((on b && asked (doing_of (actor b.path) c)) || list_any (λ b. on b && asked (doing_of (actor b.path) c)) bs) ≡ any_passes on test c (if t then n ∷ waiting (n + 1) ds else waiting (n + 1) ds)
    by true is ih = (λ i. here i || ih i) ∙ ap (λ t. t || any_passes on test c (waiting (n + 1) ds)) (sym there)
    by false is ih = λ i. idle_here is i || ih i

-- all actions with what they wait for are asked as those that wait
pub asked_of : (c : Coord) (on : Branch → Bool) (test : Now → Bool) (asked : Option Doing → Bool) → Asks test asked → OfWaiting test →
    AreNamed c.tree.node c.tree.inc 1 c.tree.branches
    → list_any (λ b. on b && asked (doing_of (actor b.path) c)) c.tree.branches ≡ any_passes on test c (waiting 1 c.doings)
asked_of c on test asked asks idle named =
    beside c on test asked asks idle 1 c.tree.branches c.doings (all_from c.tree.branches) (all_from c.doings) named

-- ---- the questions

waits_asks : Asks is_waiting_now is_waiting
waits_asks = record { none = refl; some = λ d. refl }

commits_asks : Asks is_committing_now is_committing
commits_asks = record { none = refl; some = λ d. refl }

calls_asks : (x : ℕ) → Asks (calls_on x) (calls_now x)
calls_asks x = record { none = refl; some = λ d. refl }

waits_idle : OfWaiting is_waiting_now
waits_idle m is = is

commits_idle : OfWaiting is_committing_now
commits_idle Idle is = refl
commits_idle (Calling s) is = refl
commits_idle (Committing m) is = absurd (cc is)

calls_idle : (x : ℕ) → OfWaiting (calls_on x)
calls_idle x Idle is = refl
calls_idle x (Calling s) is = absurd (cc is)
calls_idle x (Committing m) is = refl

-- one that passes among those that pass another test
any_within : {A : Type 0} (on test both : A → Bool) (items : List A) → ((a : A) → (test a && on a) ≡ both a) →
    list_any on (filter test items) ≡ list_any both items
any_within on test both [] same = refl
any_within {A} on test both (a ∷ items) same = by (test a) refl (any_within on test both items same)
  where
    by : (t : Bool) → test a ≡ t → list_any on (filter test items) ≡ list_any both items →
        list_any on (if t then a ∷ filter test items else filter test items) ≡ (both a || list_any both items)
    by true is ih = (λ i. (ap (λ t. t && on a) (sym is) ∙ same a) i || ih i)
    by false is ih = ih ∙ ap (λ t. t || list_any both items) (ap (λ t. t && on a) (sym is) ∙ same a)

-- whether an open descendant waits
pub waits_below_is : (c : Coord) (u : Uid) (b : Bool) → AreNamed c.tree.node c.tree.inc 1 c.tree.branches →
    b ≡ any_passes (is_open_below u) is_waiting_now c (waiting 1 c.doings)
    → b ≡ list_any (λ w. is_open_below u w && waits c (actor w.path)) c.tree.branches
waits_below_is c u b named is = is ∙ sym (asked_of c (is_open_below u) is_waiting_now is_waiting waits_asks waits_idle named)

-- whether the commit of a sibling waits
pub sibling_is : (c : Coord) (w : Branch) (b : Bool) → AreNamed c.tree.node c.tree.inc 1 c.tree.branches
    → b ≡ any_passes (is_other_constituent (root_of w.path) (actor w.path)) is_committing_now c (waiting 1 c.doings)
    → b ≡ list_any (is_sibling w c) (filter (of_root (root_of w.path)) c.tree.branches)
sibling_is c w b named is =
    is ∙ sym (any_within (is_sibling w c) (of_root (root_of w.path)) (λ v. is_other_constituent (root_of w.path) (actor w.path) v && is_committing (doing_of (actor v.path) c)) c.tree.branches
    (λ v. moved (of_root (root_of w.path) v) (is_constituent v.kind) (not (uid_eq (actor v.path) (actor w.path))) (is_committing (doing_of (actor v.path) c)))
    ∙ asked_of c (is_other_constituent (root_of w.path) (actor w.path)) is_committing_now is_committing commits_asks commits_idle named)
  where
    moved : (p q r s : Bool) → (p && (q && (r && s))) ≡ ((p && (q && r)) && s)
    moved true true true s = refl
    moved true true false s = refl
    moved true false r s = refl
    moved false q r s = refl

-- whether another action of the root calls the object
pub others_are : (c : Coord) (root but : Uid) (x : ℕ) (b : Bool) → AreNamed c.tree.node c.tree.inc 1 c.tree.branches →
    b ≡ any_passes (is_other root but) (calls_on x) c (waiting 1 c.doings) → b ≡ others_call root but x c
others_are c root but x b named is =
    is ∙ sym (any_within (branch_calls x but c) (of_root root) (λ v. is_other root but v && calls_now x (doing_of (actor v.path) c)) c.tree.branches
    (λ v. moved (of_root root v) (not (uid_eq (actor v.path) but)) (calls_now x (doing_of (actor v.path) c)))
    ∙ asked_of c (is_other root but) (calls_on x) (calls_now x) (calls_asks x) (calls_idle x) named)
  where
    moved : (p q r : Bool) → (p && (q && r)) ≡ ((p && q) && r)
    moved true true r = refl
    moved true false r = refl
    moved false q r = refl
