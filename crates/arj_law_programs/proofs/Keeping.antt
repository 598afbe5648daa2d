-- The calls that a journal has of a program's open actions, and those that the program has heard.
use Rattle.std.proofs.Common.{◌≡◌, ◌∙◌, ◌<◌, ℕ, List, [], ◌∷◌, ◌++◌, map, refl, ap, sym, subst, arith, true, false}
use Rattle.std.proofs.Common.{Bool, Option, Some, None, cond, ◌&&◌, ◌||◌, ◌==◌, append-nil, eq-eqb, eqb-true, true≢false}
use Rattle.std.specs.Prelude.{⊤, filter}
use Rattle.std.specs.List.{AllByRecursion, list_all, list_any}
use Rattle.std.proofs.lemmas.Bool.{false_from_ne_true}
use Rattle.std.proofs.lemmas.List.{append_assoc, map-append}
use Rattle.std.proofs.lemmas.List.Elements.{filter-append}
use Rattle.std.proofs.lemmas.List.Folds.{list_all-append, list_any-append}
use Rattle.arj_journal.specs.declared.body.Kind.TheVariants as kind
use Rattle.arj_model.specs.Actions.{Act, Placed, act_in, chain_in, has_end, path, top_in}
use Rattle.arj_model.specs.Calls.{Said, ids}
use Rattle.arj_start.specs.Kinds.{is_serial}
use Rattle.arj_law_programs.proofs.Acts.{In, act_of_path, all_append, all_map, found_in}
use Rattle.arj_law_programs.proofs.Acts.{path_stays, chain_is, top_is}
use Rattle.arj_law_programs.proofs.Views.{View}
use Rattle.arj_law_programs.specs.Counts.{Told}

-- ---- tests

pub both_ways : {P : Type 0} (b : Bool) → b ≡ true → b ≡ false → P
both_ways b holds fails = absurd (true≢false (sym holds ∙ fails))

pub other_number : (m n : ℕ) → (m ≡ n → ⊥) → (m == n) ≡ false
other_number m n f = false_from_ne_true (m == n) (λ e. absurd (f (eqb-true m n e)))

pub and_both : (a b : Bool) → a ≡ true → b ≡ true → (a && b) ≡ true
and_both a b e f = (λ i. e i && b) ∙ f

pub and_second : (a b : Bool) → b ≡ false → (a && b) ≡ false
and_second true b e = e
and_second false b e = refl

pub or_second : (a b : Bool) → b ≡ true → (a || b) ≡ true
or_second true b e = refl
or_second false b e = e

pub or_neither : (a b : Bool) → a ≡ false → b ≡ false → (a || b) ≡ false
or_neither a b e f = (λ i. e i || b) ∙ f

pub or_false : (a : Bool) → (a || false) ≡ a
or_false true = refl
or_false false = refl

-- ---- what counts

-- the number is among these
abbrev pub among : List ℕ → ℕ → Bool
among is i = list_any (λ j. j == i) is

-- an action below a top counts: it is committed, or one of these
abbrev pub counts : List (Placed ℕ) → List ℕ → Act → Bool
counts ends is a = has_end ends a.id || among is a.id

-- the top has this number
abbrev pub is_top : ℕ → Option Act → Bool
is_top t None = false
is_top t (Some a) = a.id == t

-- the call with this path counts
abbrev pub keeps : List (Placed ℕ) → List ℕ → ℕ → List Act → Bool
keeps ends is t p = is_top t (top_in p) && list_all (counts ends is) (chain_in p)

-- an answered call of a journal
abbrev pub told_at : Placed Said → Told
told_at s = record { x = s.it.x; op = s.it.op; answer = s.it.answer }

-- those that count
abbrev pub kept : List (Placed ℕ) → List ℕ → ℕ → List (Placed Said) → List Told
kept ends is t ss = map told_at (filter (λ s. keeps ends is t s.it.path) ss)

pub filter_same : {A : Type 0} (f g : A → Bool) (xs : List A) → AllByRecursion (λ x. f x ≡ g x) xs → filter f xs ≡ filter g xs
filter_same f g [] all = refl
filter_same f g (x ∷ xs) all = let ih = filter_same f g xs all.1 in λ i. cond (all.0 i) (x ∷ ih i) (ih i)

pub all_same : {A : Type 0} (f g : A → Bool) (xs : List A) → AllByRecursion (λ x. f x ≡ g x) xs → list_all f xs ≡ list_all g xs
all_same f g [] all = refl
all_same f g (x ∷ xs) all = let ih = all_same f g xs all.1 in λ i. all.0 i && ih i

pub kept_same : (e f : List (Placed ℕ)) (is js : List ℕ) (t : ℕ) (ss : List (Placed Said)) →
    AllByRecursion (λ (s : Placed Said). keeps e is t s.it.path ≡ keeps f js t s.it.path) ss → kept e is t ss ≡ kept f js t ss
kept_same e f is js t ss all =
    ap (map told_at) (filter_same (λ s. keeps e is t s.it.path) (λ s. keeps f js t s.it.path) ss all)

kept_more : (e : List (Placed ℕ)) (is : List ℕ) (t : ℕ) (ss : List (Placed Said)) (s : Placed Said) →
    kept e is t (ss ++ s ∷ []) ≡ kept e is t ss ++ map told_at (cond (keeps e is t s.it.path) (s ∷ []) [])
kept_more e is t ss s =
    ap (map told_at) (filter-append (λ s. keeps e is t s.it.path) ss (s ∷ []))
    ∙ map-append told_at (filter (λ s. keeps e is t s.it.path) ss) (cond (keeps e is t s.it.path) (s ∷ []) [])

pub kept_out : (e : List (Placed ℕ)) (is : List ℕ) (t : ℕ) (ss : List (Placed Said)) (s : Placed Said) → keeps e is t s.it.path ≡ false →
    kept e is t (ss ++ s ∷ []) ≡ kept e is t ss
kept_out e is t ss s fails =
    kept_more e is t ss s ∙ (λ i. kept e is t ss ++ map told_at (cond (fails i) (s ∷ []) [])) ∙ append-nil (kept e is t ss)

pub kept_with : (e : List (Placed ℕ)) (is : List ℕ) (t : ℕ) (ss : List (Placed Said)) (s : Placed Said) → keeps e is t s.it.path ≡ true →
    kept e is t (ss ++ s ∷ []) ≡ kept e is t ss ++ told_at s ∷ []
kept_with e is t ss s holds = kept_more e is t ss s ∙ (λ i. kept e is t ss ++ map told_at (cond (holds i) (s ∷ []) []))

-- where the top is another one
pub keeps_other : (e : List (Placed ℕ)) (is : List ℕ) (t : ℕ) (p : List Act) → is_top t (top_in p) ≡ false → keeps e is t p ≡ false
keeps_other e is t p fails = λ i. fails i && list_all (counts e is) (chain_in p)

-- ---- a program's open actions

-- An action of a program, by its label and the calls that count of it so far.
pub record Mark : Type 0 where
  pub label : List ℕ
  pub said : List Told

-- the calls that count if all of them commit
abbrev pub sum_of : Mark → List Mark → List Told
sum_of top [] = top.said
sum_of top (b ∷ bs) = sum_of top bs ++ b.said

-- the innermost
abbrev pub inner_mark : Mark → List Mark → Mark
inner_mark top [] = top
inner_mark top (b ∷ bs) = b

-- the actions below the top, the outermost first
abbrev pub chain_of : List Act → List Act
chain_of [] = []
chain_of (a ∷ below) = chain_of below ++ a ∷ []

-- their paths
abbrev pub Stack : List Act → Act → Mark → List Act → List Mark → Type 0
Stack us t top [] [] = path us top.label ≡ t ∷ []
Stack us t top (a ∷ below) (b ∷ bs) = (path us b.label ≡ t ∷ (chain_of below ++ a ∷ [])) × Stack us t top below bs
Stack us t top _ _ = ⊥

-- of each of them, with those that it is in, the calls that count
abbrev pub Live : List (Placed ℕ) → List (Placed Said) → ℕ → Mark → List Act → List Mark → Type 0
Live e ss t top [] [] = kept e [] t ss ≡ top.said
Live e ss t top (a ∷ below) (b ∷ bs) = (kept e (ids (a ∷ below)) t ss ≡ sum_of top (b ∷ bs)) × Live e ss t top below bs
Live e ss t top _ _ = ⊥

-- each began after those that it is in
abbrev pub Falls : List Act → Type 0
Falls [] = ⊤
Falls (a ∷ below) = AllByRecursion (λ (x : Act). x.id < a.id) below × Falls below

-- a call of the top that was made below an action was made below this one too
abbrev pub NestsIn : List (Placed Said) → ℕ → Act → List Act → Type 0
NestsIn ss t a [] = ⊤
NestsIn ss t a (p ∷ ps) = AllByRecursion (λ (s : Placed Said). is_top t (top_in s.it.path) ≡ true →
    among (ids (chain_in s.it.path)) a.id ≡ true → among (ids (chain_in s.it.path)) p.id ≡ true) ss

abbrev pub Nests : List (Placed Said) → ℕ → List Act → Type 0
Nests ss t [] = ⊤
Nests ss t (a ∷ below) = NestsIn ss t a below × Nests ss t below

-- The open actions of a program: its top, and those below it, the innermost first.
pub record Open (v : View) (top : Mark) (t : Act) (below : List Act) (bs : List Mark) : Type 0 where
  pub kind : t.kind ≡ kind.Top
  pub stack : Stack v.acts t top below bs
  pub live : Live v.ends v.said t.id top below bs
  pub undone : AllByRecursion (λ (a : Act). has_end v.ends a.id ≡ false) below
  pub falls : Falls below
  pub nests : Nests v.said t.id below

-- so it is of these, and of each rest of them
abbrev pub Rests : (List Act → Type 0) → List Act → Type 0
Rests P [] = P []
Rests P (a ∷ below) = P (a ∷ below) × Rests P below

pub all_rests : (P : List Act → Type 0) → ((os : List Act) → P os) → (below : List Act) → Rests P below
all_rests P f [] = f []
all_rests P f (a ∷ below) = (f (a ∷ below), all_rests P f below)

pub map_rests : (P Q : List Act → Type 0) → ((os : List Act) → P os → Q os) → (below : List Act) → Rests P below → Rests Q below
map_rests P Q f [] r = f [] r
map_rests P Q f (a ∷ below) r = (f (a ∷ below) r.0, map_rests P Q f below r.1)

-- where as much counts, as much is live
pub live_rests : (e f : List (Placed ℕ)) (ss rs : List (Placed Said)) (t : ℕ) (top : Mark) (below : List Act) (bs : List Mark) →
    Rests (λ os. kept f (ids os) t rs ≡ kept e (ids os) t ss) below → Live e ss t top below bs → Live f rs t top below bs
live_rests e f ss rs t top [] [] same l = same ∙ l
live_rests e f ss rs t top (a ∷ below) (b ∷ bs) same l = (same.0 ∙ l.0, live_rests e f ss rs t top below bs same.1 l.1)
live_rests e f ss rs t top [] (b ∷ bs) same l = absurd l
live_rests e f ss rs t top (a ∷ below) [] same l = absurd l

pub live_here : (e : List (Placed ℕ)) (ss : List (Placed Said)) (t : ℕ) (top : Mark) (below : List Act) (bs : List Mark) →
    Live e ss t top below bs → kept e (ids below) t ss ≡ sum_of top bs
live_here e ss t top [] [] l = l
live_here e ss t top (a ∷ below) (b ∷ bs) l = l.0
live_here e ss t top [] (b ∷ bs) l = absurd l
live_here e ss t top (a ∷ below) [] l = absurd l

-- ---- numbers of open actions

low_out : (n : ℕ) (below : List Act) → AllByRecursion (λ (x : Act). x.id < n) below → among (ids below) n ≡ false
low_out n [] all = refl
low_out n (a ∷ below) all =
    or_neither (a.id == n) (among (ids below) n)
    (other_number a.id n (λ e. let low : a.id < n = all.0 in absurd (omega (arith, low, e)))) (low_out n below all.1)

pub out_of_rests : (n : ℕ) (below : List Act) → AllByRecursion (λ (x : Act). x.id < n) below → Rests (λ os. among (ids os) n ≡ false) below
out_of_rests n [] all = refl
out_of_rests n (a ∷ below) all = (low_out n (a ∷ below) all, out_of_rests n below all.1)

pub among_these : (below : List Act) → AllByRecursion (λ (x : Act). among (ids below) x.id ≡ true) below
among_these [] = tt
among_these (a ∷ below) = (
  (λ i. eq-eqb a.id a.id refl i || among (ids below) a.id),
  all_map (λ (x : Act). among (ids below) x.id ≡ true) (λ x. among (ids (a ∷ below)) x.id ≡ true)
      (λ x e. or_second (a.id == x.id) (among (ids below) x.id) e) below (among_these below),
)

ids_append : (p q : List Act) → ids (p ++ q) ≡ ids p ++ ids q
ids_append p q = map-append (λ (a : Act). a.id) p q

-- open actions are on the chain of the innermost
pub among_chain : (below : List Act) → AllByRecursion (λ (x : Act). among (ids (chain_of below)) x.id ≡ true) below
among_chain [] = tt
among_chain (a ∷ below) = (
  cut a.id ∙ or_second (among (ids (chain_of below)) a.id) ((a.id == a.id) || false) (λ i. eq-eqb a.id a.id refl i || false),
  all_map (λ (x : Act). among (ids (chain_of below)) x.id ≡ true) (λ x. among (ids (chain_of below ++ a ∷ [])) x.id ≡ true)
      (λ x e. cut x.id ∙ (λ i. e i || ((a.id == x.id) || false))) below (among_chain below),
)
  where
    cut : (n : ℕ) → among (ids (chain_of below ++ a ∷ [])) n ≡ (among (ids (chain_of below)) n || ((a.id == n) || false))
    cut n = ap (λ is. among is n) (ids_append (chain_of below) (a ∷ []))
        ∙ list_any-append (λ j. j == n) (ids (chain_of below)) (a.id ∷ [])

-- all of them count where all are among these
pub all_count : (e : List (Placed ℕ)) (is : List ℕ) (below : List Act) → AllByRecursion (λ (x : Act). among is x.id ≡ true) below →
    list_all (counts e is) (chain_of below) ≡ true
all_count e is [] all = refl
all_count e is (a ∷ below) all =
    list_all-append (counts e is) (chain_of below) (a ∷ [])
    ∙ and_both (list_all (counts e is) (chain_of below)) (counts e is a && true) (all_count e is below all.1)
    (and_both (counts e is a) true (or_second (has_end e a.id) (among is a.id) all.0) refl)

-- one that doesn't count
last_fails : (f : Act → Bool) (p : List Act) (a : Act) → f a ≡ false → list_all f (p ++ a ∷ []) ≡ false
last_fails f p a fails = list_all-append f p (a ∷ []) ∙ and_second (list_all f p) (f a && true) (λ i. fails i && true)

-- a call that is made in the innermost of these
pub keeps_here : (e : List (Placed ℕ)) (is : List ℕ) (t : Act) (c : List Act) → is_serial t.kind ≡ false →
    keeps e is t.id (t ∷ c) ≡ list_all (counts e is) c
keeps_here e is t c plain =
    (λ i. is_top t.id (top_is t c plain i) && list_all (counts e is) (chain_is t c plain i))
    ∙ (λ i. eq-eqb t.id t.id refl i && list_all (counts e is) c)

-- ---- what stands of stacks

pub stack_at : (us : List Act) (t : Act) (top : Mark) (below : List Act) (bs : List Mark) → Stack us t top below bs →
    path us (let m = inner_mark top bs in m.label) ≡ t ∷ chain_of below
stack_at us t top [] [] s = s
stack_at us t top (a ∷ below) (b ∷ bs) s = s.0
stack_at us t top [] (b ∷ bs) s = absurd s
stack_at us t top (a ∷ below) [] s = absurd s

pub top_there : (us : List Act) (t : Act) (top : Mark) (below : List Act) (bs : List Mark) → Stack us t top below bs →
    act_in us top.label ≡ Some t
top_there us t top [] [] s = act_of_path us top.label [] t s
top_there us t top (a ∷ below) (b ∷ bs) s = top_there us t top below bs s.1
top_there us t top [] (b ∷ bs) s = absurd s
top_there us t top (a ∷ below) [] s = absurd s

pub stack_in : (us : List Act) (t : Act) (top : Mark) (below : List Act) (bs : List Mark) → Stack us t top below bs →
    AllByRecursion (λ (a : Act). In a us) below
stack_in us t top [] [] s = tt
stack_in us t top (a ∷ below) (b ∷ bs) s =
    ((found_in us b.label a (act_of_path us b.label (t ∷ chain_of below) a s.0)).0, stack_in us t top below bs s.1)
stack_in us t top [] (b ∷ bs) s = absurd s
stack_in us t top (a ∷ below) [] s = absurd s

pub stack_more : (us : List Act) (u t : Act) (top : Mark) (below : List Act) (bs : List Mark) → act_in us u.label ≡ None →
    Stack us t top below bs → Stack (u ∷ us) t top below bs
stack_more us u t top [] [] new s = path_stays us u top.label [] t new s ∙ s
stack_more us u t top (a ∷ below) (b ∷ bs) new s =
    (path_stays us u b.label (t ∷ chain_of below) a new s.0 ∙ s.0, stack_more us u t top below bs new s.1)
stack_more us u t top [] (b ∷ bs) new s = absurd s
stack_more us u t top (a ∷ below) [] new s = absurd s

-- ---- another action begins

pub open_more : (v : View) (u t : Act) (top : Mark) (below : List Act) (bs : List Mark) → act_in v.acts u.label ≡ None →
    Open v top t below bs →
    Open (record v { acts = u ∷ v.acts }) top t below bs
open_more v u t top below bs new o = record {
  kind = o.kind;
  stack = stack_more v.acts u t top below bs new o.stack;
  live = o.live;
  undone = o.undone;
  falls = o.falls;
  nests = o.nests;
}

-- ---- a call of another program

nests_other : (ss : List (Placed Said)) (s : Placed Said) (t : ℕ) (below : List Act) → is_top t (top_in s.it.path) ≡ false →
    Nests ss t below →
    Nests (ss ++ s ∷ []) t below
nests_other ss s t [] fails n = tt
nests_other ss s t (a ∷ []) fails n = (tt, tt)
nests_other ss s t (a ∷ p ∷ ps) fails n = (
  all_append (λ (r : Placed Said). is_top t (top_in r.it.path) ≡ true → among (ids (chain_in r.it.path)) a.id ≡ true →
      among (ids (chain_in r.it.path)) p.id ≡ true) ss (s ∷ []) n.0 (
        (λ holds there. both_ways (is_top t
            (top_in s.it.path)) holds fails),
        tt,
      ),
  nests_other ss s t (p ∷ ps) fails n.1,
)

pub open_other_call : (v : View) (s : Placed Said) (t : Act) (top : Mark) (below : List Act) (bs : List Mark) →
    is_top t.id (top_in s.it.path) ≡ false → Open v top t below bs → Open (record v { said = v.said ++ s ∷ [] }) top t below bs
open_other_call v s t top below bs fails o = record {
  kind = o.kind;
  stack = o.stack;
  live = live_rests v.ends v.ends v.said (v.said ++ s ∷ []) t.id top below bs
      (all_rests (λ os. kept v.ends (ids os) t.id (v.said ++ s ∷ []) ≡ kept v.ends (ids os) t.id v.said)
      (λ os. kept_out v.ends (ids os) t.id v.said s (keeps_other v.ends (ids os) t.id s.it.path fails)) below) o.live;
  undone = o.undone;
  falls = o.falls;
  nests = nests_other v.said s t.id below fails o.nests;
}

-- ---- a call of the innermost action

-- the mark with a call more
abbrev pub with_call : Told → Mark → Mark
with_call c m = record { label = m.label; said = m.said ++ c ∷ [] }

-- the innermost with a call more
abbrev pub top_with : Told → Mark → List Mark → Mark
top_with c top [] = with_call c top
top_with c top (b ∷ bs) = top

abbrev pub blocks_with : Told → List Mark → List Mark
blocks_with c [] = []
blocks_with c (b ∷ bs) = with_call c b ∷ bs

nests_own : (ss : List (Placed Said)) (s : Placed Said) (t : ℕ) (below : List Act) →
    AllByRecursion (λ (x : Act). among (ids (chain_in s.it.path)) x.id ≡ true) below → Nests ss t below → Nests (ss ++ s ∷ []) t below
nests_own ss s t [] all n = tt
nests_own ss s t (a ∷ []) all n = (tt, tt)
nests_own ss s t (a ∷ p ∷ ps) all n = (
  all_append (λ (r : Placed Said). is_top t (top_in r.it.path) ≡ true → among (ids (chain_in r.it.path)) a.id ≡ true →
      among (ids (chain_in r.it.path)) p.id ≡ true) ss (s ∷ []) n.0 ((λ holds there. (let t = all.1 in t.0)), tt),
  nests_own ss s t (p ∷ ps) all.1 n.1,
)

module _ (e : List (Placed ℕ)) (ss : List (Placed Said)) (s : Placed Said) (t : Act) (plain : is_serial t.kind ≡ false) where
  kept_own : (below : List Act) → s.it.path ≡ t ∷ chain_of below →
      kept e (ids below) t.id (ss ++ s ∷ []) ≡ kept e (ids below) t.id ss ++ told_at s ∷ []
  kept_own below is =
      kept_with e (ids below) t.id ss s
      (ap (keeps e (ids below) t.id) is ∙ keeps_here e (ids below) t (chain_of below) plain
      ∙ all_count e (ids below) below (among_these below))

  kept_above : (a : Act) (below os : List Act) → s.it.path ≡ t ∷ (chain_of below ++ a ∷ []) → has_end e a.id ≡ false →
      among (ids os) a.id ≡ false → kept e (ids os) t.id (ss ++ s ∷ []) ≡ kept e (ids os) t.id ss
  kept_above a below os is undone out =
      kept_out e (ids os) t.id ss s
      (ap (keeps e (ids os) t.id) is ∙ keeps_here e (ids os) t (chain_of below ++ a ∷ []) plain
      ∙ last_fails (counts e (ids os)) (chain_of below) a (or_neither (has_end e a.id) (among (ids os) a.id) undone out))

  live_own : (top : Mark) (below : List Act) (bs : List Mark) → s.it.path ≡ t ∷ chain_of below →
      AllByRecursion (λ (a : Act). has_end e a.id ≡ false) below → Falls below → Live e ss t.id top below bs →
      Live e (ss ++ s ∷ []) t.id (top_with (told_at s) top bs) below (blocks_with (told_at s) bs)
  live_own top [] [] is undone falls l = kept_own [] is ∙ ap (λ cs. cs ++ told_at s ∷ []) l
  live_own top (a ∷ below) (b ∷ bs) is undone falls l = (
    kept_own (a ∷ below) is ∙ ap (λ cs. cs ++ told_at s ∷ []) l.0 ∙ append_assoc (sum_of top bs) b.said (told_at s ∷ []),
    live_rests e e ss (ss ++ s ∷ []) t.id top below bs
        (map_rests (λ os. among (ids os) a.id ≡ false) (λ os. kept e (ids os) t.id (ss ++ s ∷ []) ≡ kept e (ids os) t.id ss)
        (λ os out. kept_above a below os is undone.0 out) below (out_of_rests a.id below falls.0)) l.1,
  )
  live_own top [] (b ∷ bs) is undone falls l = absurd l
  live_own top (a ∷ below) [] is undone falls l = absurd l

stack_marks : (us : List Act) (t : Act) (top : Mark) (c : Told) (below : List Act) (bs : List Mark) → Stack us t top below bs →
    Stack us t (top_with c top bs) below (blocks_with c bs)
stack_marks us t top c [] [] s = s
stack_marks us t top c (a ∷ below) (b ∷ bs) s = s
stack_marks us t top c [] (b ∷ bs) s = absurd s
stack_marks us t top c (a ∷ below) [] s = absurd s

pub open_own_call : (v : View) (s : Placed Said) (t : Act) (top : Mark) (below : List Act) (bs : List Mark) → is_serial t.kind ≡ false →
    s.it.path ≡ t ∷ chain_of below → Open v top t below bs →
    Open (record v { said = v.said ++ s ∷ [] }) (top_with (told_at s) top bs) t below (blocks_with (told_at s) bs)
open_own_call v s t top below bs plain is o = record {
  kind = o.kind;
  stack = stack_marks v.acts t top (told_at s) below bs o.stack;
  live = live_own v.ends v.said s t plain top below bs is o.undone o.falls o.live;
  undone = o.undone;
  falls = o.falls;
  nests = nests_own v.said s t.id below
      (subst (λ c. AllByRecursion (λ (x : Act). among (ids c) x.id ≡ true) below)
      (sym (chain_is t (chain_of below) plain) ∙ ap chain_in (sym is)) (among_chain below)) o.nests;
}
