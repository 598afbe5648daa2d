-- An abort ends the open actions below its own and then that one, the newest first, as the journal has them.
use Rattle.arj_law_parts.proofs.Words
use Words.{length-map}
use Words.{◌≡◌, ◌⊎◌, ◌∙◌, ◌≤◌, ◌<◌, ◌+◌, ◌==◌, ◌&&◌, ◌||◌, not, ℕ, zero, suc, Bool, true, false, cond, List, [], ◌∷◌, ◌++◌, filter}
use Words.{length, map, refl, sym, ap, subst, arith, nat_tests, inl, inr, ⊎_elim, Option, Some, None, is_some, In, append_assoc}
use Words.{append-nil, and_parts, eqb-true, filter-append, map-append, slice_get, in_filter, is_on, uid_eq, uid_is, uid_same, name, actor}
use Words.{Uid, Body, Header, Label, Branch, Coord, Doing, Node, Parts, Say, World, all_aborted, at_place, branch_named, branch_of, ended}
use Words.{ended_at, ended_branch, End, is_own, latest_first, is_open_below, open_below, say_for, says, uid_at, uids_of, Idle, Tree}
use Words.{family_of, nat_le, root_of, set_place, with_family}
use Words.body
use Words.cause
use Words.ending
use Rattle.arj_law_runs.proofs.Terms.{Act, act_in, acts, path, uids, Holds, found_by, placed, on_tree}
use Rattle.arj_law_parts.proofs.steps.CoordNames.{same_all}
use Rattle.arj_law_parts.specs.steps.Named.{names_of}
use Rattle.arj_law_runs.proofs.follow.Halts.{KnowsAll}
use Rattle.arj_law_runs.proofs.follow.Labeled.{KnowsFinds, label_there}
use Rattle.arj_law_runs.proofs.follow.Uids.{count_of}
use Rattle.arj_law_runs.proofs.journal.{Closed.one_act, Ties.named_label}
use Rattle.arj_law_cause.proofs.follow.causes.Above.{ends_with}
use Rattle.arj_law_cause.proofs.follow.causes.{Standing.IsOne, Standing.apart, Standing.below_one, Standing.its_uid, Standing.named_one}
use Rattle.arj_law_cause.proofs.follow.causes.{Standing.one_of, Standing.own_number}
use Rattle.arj_law_cause.proofs.follow.lines.Numbers
use Numbers.{AreInTurn, aborted_so, in_path, began_before, down_from, in_turn, is_at, number_of}
use Rattle.arj_law_cause.proofs.follow.lines.Saying.{say_all}
use Rattle.arj_model.specs.Actions.{is_over}
use Rattle.arj_model.specs.Own.{AreAborted, aborted_of}

-- ---- lists of numbers

-- these many from a number on, the greatest first
abbrev seg : ℕ → ℕ → List ℕ
seg s zero = []
seg s (suc m) = seg (suc s) m ++ s ∷ []

seg_front : (s m : ℕ) → seg s (suc m) ≡ (s + m) ∷ seg s m
seg_front s zero = ap (λ j. j ∷ []) (none s)
  where
    none : (n : ℕ) → n ≡ n + 0
    none n = omega arith
seg_front s (suc m) = ap (λ js. js ++ s ∷ []) (seg_front (suc s) m) ∙ ap (λ j. j ∷ seg s (suc m)) (shift s m)
  where
    shift : (n k : ℕ) → suc n + k ≡ n + suc k
    shift n k = omega arith

down_seg : (n : ℕ) → down_from n ≡ seg 1 n
down_seg zero = refl
down_seg (suc n) = (λ i. one n i ∷ down_seg n i) ∙ sym (seg_front 1 n)
  where
    one : (m : ℕ) → suc m ≡ 1 + m
    one m = omega arith

in_down : (m n : ℕ) → In m (down_from n) → (1 ≤ m) × (m ≤ n)
in_down m zero i = absurd i
in_down m (suc n) (inl same) = (omega (arith, same), omega (arith, same))
in_down m (suc n) (inr i) = let r = in_down m n i in (r.0, omega (arith, r.1))

-- a test that takes one number more than another, and none below it
split_at : (p q : ℕ → Bool) (m n : ℕ) → m ≤ n → 1 ≤ m → p m ≡ true → q m ≡ false → ((j : ℕ) → j < m → (p j ≡ false) × (q j ≡ false)) →
    ((j : ℕ) → m < j → p j ≡ q j) → filter p (down_from n) ≡ filter q (down_from n) ++ m ∷ []
split_at p q m zero le some its off below above = absurd (omega (arith, le, some))
split_at p q m (suc n) le some its off below above =
    by (suc n == m) refl (λ more. split_at p q m n more some its off below above)
  where
    none : (r : ℕ → Bool) (k : ℕ) → ((j : ℕ) → j ≤ k → r j ≡ false) → filter r (down_from k) ≡ []
    none r zero off_all = refl
    none r (suc k) off_all = (λ i. cond (off_all (suc k) (omega arith) i) (suc k ∷ filter r (down_from k)) (filter r (down_from k)))
        ∙ none r k (λ j small. off_all j (omega (arith, small)))

    less : (a b c : ℕ) → suc b ≡ c → a ≤ b → a < c
    less a b c e small = omega (arith, e, small)

    by : (z : Bool) → (suc n == m) ≡ z → (m ≤ n → filter p (down_from n) ≡ filter q (down_from n) ++ m ∷ []) →
        cond (p (suc n)) (suc n ∷ filter p (down_from n)) (filter p (down_from n))
        ≡ cond (q (suc n)) (suc n ∷ filter q (down_from n)) (filter q (down_from n)) ++ m ∷ []
    by true e rest =
        let same : suc n ≡ m = eqb-true (suc n) m e in
        (λ i. cond ((ap p same ∙ its) i) (same i ∷ none p n (λ j small. (below j (less j n m same small)).0) i)
        (none p n (λ j small. (below j (less j n m same small)).0) i))
        ∙ sym (λ i. cond ((ap q same ∙ off) i) (suc n ∷ filter q (down_from n)) (none q n (λ j small. (below j
        (less j n m same small)).1) i)
        ++ m ∷ [])
    by false e rest =
        let more : m ≤ n = lower m n le (λ same. absurd (cc (sym (eq_true (suc n) m same) ∙ e))) in
        either (p (suc n)) (q (suc n)) (above (suc n) (omega (arith, more))) (rest more)
      where
        eq_true : (a b : ℕ) → a ≡ b → (a == b) ≡ true
        eq_true a b same = grind (arith, nat_tests, same)

        lower : (a b : ℕ) → a ≤ suc b → (suc b ≡ a → ⊥) → a ≤ b
        lower a b small other = ⊎_elim (λ x. x) (λ same. absurd (other same)) (two a b small)
          where
            two : (a b : ℕ) → a ≤ suc b → (a ≤ b) ⊎ (suc b ≡ a)
            two a b small = choose (nat_le a b) refl
              where
                choose : (z : Bool) → nat_le a b ≡ z → (a ≤ b) ⊎ (suc b ≡ a)
                choose true is = inl (grind (arith, nat_tests, is))
                choose false is = inr (grind (arith, nat_tests, is, small))

        either : (a b : Bool) → a ≡ b → filter p (down_from n) ≡ filter q (down_from n) ++ m ∷ [] →
            cond a (suc n ∷ filter p (down_from n)) (filter p (down_from n))
            ≡ cond b (suc n ∷ filter q (down_from n)) (filter q (down_from n)) ++ m ∷ []
        either true true same r = ap (λ (js : List ℕ). suc n ∷ js) r
        either false false same r = r
        either true false same r = absurd (cc same)
        either false true same r = absurd (cc same)

-- ---- branches by their numbers

-- a test of what stands at a place
abbrev of_some : (Branch → Bool) → Option Branch → Bool
of_some T None = false
of_some T (Some b) = T b

abbrev at_test : (Branch → Bool) → List Branch → ℕ → Bool
at_test T bs j = of_some T (at_place j bs)

module _ (T : Branch → Bool) (all : List Branch) where
  -- the latest first, by their numbers
  latest_down : (s : ℕ) (bs : List Branch) (found : List Uid) →
      ((i : ℕ) (b : Branch) → slice_get bs i ≡ Some b → (at_place (s + i) all ≡ Some b) × ((let u = actor b.path in u.num) ≡ s + i)) →
      map (λ (u : Uid). u.num) (latest_first (filter T bs) found)
      ≡ filter (at_test T all) (seg s (length bs)) ++ map (λ (u : Uid). u.num) found
  latest_down s [] found at = refl
  latest_down s (b ∷ bs) found at = by (T b) refl (λ more. latest_down (suc s) bs more next)
    where
      zero_more : (n : ℕ) → n + 0 ≡ n
      zero_more n = omega arith

      shift : (n i : ℕ) → n + suc i ≡ suc n + i
      shift n i = omega arith

      next : (i : ℕ) (c : Branch) → slice_get bs i ≡ Some c →
          (at_place (suc s + i) all ≡ Some c) × ((let u = actor c.path in u.num) ≡ suc s + i)
      next i c is = let r = at (suc i) c is in (ap (λ j. at_place j all) (sym (shift s i)) ∙ r.0, r.1 ∙ shift s i)

      here : at_place s all ≡ Some b
      here = ap (λ j. at_place j all) (sym (zero_more s)) ∙ (at 0 b refl).0

      num : (let u = actor b.path in u.num) ≡ s
      num = (at 0 b refl).1 ∙ zero_more s

      test : at_test T all s ≡ T b
      test = ap (of_some T) here

      last : (z : Bool) → T b ≡ z → filter (at_test T all) (seg s (suc (length bs)))
          ≡ filter (at_test T all) (seg (suc s) (length bs)) ++ cond z (s ∷ []) []
      last z is = filter-append (at_test T all) (seg (suc s) (length bs)) (s ∷ [])
          ∙ (λ i. filter (at_test T all) (seg (suc s) (length bs)) ++ cond ((test ∙ is) i) (s ∷ []) [])

      by : (z : Bool) → T b ≡ z → ((more : List Uid) → map (λ (u : Uid). u.num) (latest_first (filter T bs) more)
          ≡ filter (at_test T all) (seg (suc s) (length bs)) ++ map (λ (u : Uid). u.num) more) →
          map (λ (u : Uid). u.num) (latest_first (cond z (b ∷ filter T bs) (filter T bs)) found)
          ≡ filter (at_test T all) (seg s (suc (length bs))) ++ map (λ (u : Uid). u.num) found
      by true is rest =
          rest (actor b.path ∷ found)
          ∙ ap (λ j. filter (at_test T all) (seg (suc s) (length bs)) ++ j ∷ map (λ (u : Uid). u.num) found) num
          ∙ sym (ap (λ js. js ++ map (λ (u : Uid). u.num) found) (last true is)
          ∙ append_assoc (filter (at_test T all) (seg (suc s) (length bs))) (s ∷ []) (map (λ (u : Uid). u.num) found))
      by false is rest =
          rest found
          ∙ sym (ap (λ js. js ++ map (λ (u : Uid). u.num) found)
          (last false is ∙ append-nil (filter (at_test T all) (seg (suc s) (length bs)))))

-- ---- the lines of an abort

own_ended : (u : Uid) (e : End) (t : Tree) (v : Uid) → is_own v (ended_at u e t) ≡ is_own v t
own_ended u e t v = by (branch_of u t)
  where
    listed : (b : Branch) (z : Bool) → (let m : Tree = record t { branches = set_place u.num (record b { ended = Some e }) t.branches } in
        is_own v (cond z m (with_family (root_of b.path) (let f = family_of (root_of b.path) m in
        record f { ends = f.ends ++ (u, e) ∷ [] }) m))) ≡ is_own v t
    listed b true = refl
    listed b false = refl

    by : (o : Option Branch) → is_own v (ended_branch u e t o) ≡ is_own v t
    by None = refl
    by (Some b) = listed b (nat_le (length (uids_of b.path)) 1)

own_after : (u : Uid) (c : Coord) (v : Uid) → is_own v (ended u ending.Abort c).tree ≡ is_own v c.tree
own_after u c v = ap (is_own v) (on_tree u (λ (d : Doing). record d { now = Idle }) (record c { tree = ended_at u ending.Abort c.tree }))
    ∙ own_ended u ending.Abort c.tree v

-- one line for each action, by the labels that the coordinator has at work
abbrev pub Lines : Coord → List Uid → List Body → Type 0
Lines c [] [] = Unit {0}
Lines c (u ∷ us) (body.Aborted m cause.Asked ∷ bs) = (at_place u.num (names_of c) ≡ Some m) × Lines c us bs
Lines c us bs = ⊥

-- an action of this coordinator says a line by its label
says_label : (u : Uid) (f : Label → Body) (c : Coord) (m : Label) → is_own u c.tree ≡ true → at_place u.num (names_of c) ≡ Some m →
    says u f c ≡ Say (f m) ∷ []
says_label u f c m own at =
    let q = label_there c.doings u.num m at in
    ap (say_for f) ((λ i. cond (own i) (at_place u.num c.doings) None) ∙ q.1) ∙ ap (λ x. Say (f x) ∷ []) q.2

-- the action is this coordinator's, and has a label
abbrev HasLabel : Coord → Uid → Type 0
HasLabel c u = (is_own u c.tree ≡ true) × (m : Label) × (at_place u.num (names_of c) ≡ Some m)

pub all_said : (us : List Uid) (c : Coord) → ((v : Uid) → In v us → HasLabel c v) →
    (own : List Body) × ((all_aborted us c).outs ≡ say_all own) × Lines c us own
all_said [] c each = ([], refl, tt)
all_said (u ∷ us) c each =
    let its = each u (inl refl) in
    let d = ended u ending.Abort c in
    let names : names_of d ≡ names_of c = (same_all (u ∷ []) c).names in
    let rest = all_said us d (λ v i. let e = each v (inr i) in (own_after u c v ∙ e.0, e.1, ap (at_place v.num) names ∙ e.2)) in (
      body.Aborted its.1 cause.Asked ∷ rest.0,
      (λ i. says_label u (λ l. body.Aborted l cause.Asked) c its.1 its.0 its.2 i ++ rest.1 i),
      (its.2, moved d us rest.0 names rest.2),
    )
  where
    moved : (e : Coord) (vs : List Uid) (bs : List Body) → names_of e ≡ names_of c → Lines e vs bs → Lines c vs bs
    moved e [] [] same all = tt
    moved e (v ∷ vs) (body.Aborted m cause.Asked ∷ bs) same all = (ap (at_place v.num) (sym same) ∙ all.0, moved e vs bs same all.1)
    moved e (v ∷ vs) [] same all = absurd all
    moved e [] (b ∷ bs) same all = absurd all
    moved e (v ∷ vs) (b ∷ bs) same all = absurd all

-- lines of such actions, as those of the journal with the same numbers
pub pair_up : (c : Coord) (as_begun : List Act) (us : List Uid) (bs : List Body) → map number_of as_begun ≡ map (λ (u : Uid). u.num) us →
    Lines c us bs → ((a : Act) → In a as_begun → (m : Label) → at_place (number_of a) (names_of c) ≡ Some m → name m ≡ a.label) →
    AreAborted as_begun bs
pair_up c [] [] [] same lines each = tt
pair_up c (a ∷ xs) (u ∷ us) (body.Aborted m cause.Asked ∷ bs) same lines each =
    let heads : number_of a ≡ u.num = (let e : number_of a ∷ map number_of xs ≡ u.num ∷ map (λ (v : Uid). v.num) us = same in cc) in
    let tails : map number_of xs ≡ map (λ (v : Uid). v.num) us = (let e : number_of a ∷ map number_of xs ≡ u.num ∷ map (λ
    (v : Uid). v.num) us = same in cc) in
    (each a (inl refl) m (ap (λ j. at_place j (names_of c)) heads ∙ lines.0), pair_up c xs us bs tails lines.1 (λ b i. each b (inr i)))
pair_up c [] (u ∷ us) bs same lines each = absurd (cc same)
pair_up c (a ∷ xs) [] bs same lines each = absurd (cc same)
pair_up c as_begun us bs same lines each = absurd lines

-- ---- filters

filter_in : {A : Type 0} (p q : A → Bool) (xs : List A) → ((x : A) → In x xs → p x ≡ true → q x ≡ true) → filter p xs ≡ filter p
    (filter q xs)
filter_in p q [] so = refl
filter_in p q (x ∷ xs) so = by (p x) refl (q x) refl (so x (inl refl)) (filter_in p q xs (λ y i. so y (inr i)))
  where
    by : (a : Bool) → p x ≡ a → (b : Bool) → q x ≡ b → (p x ≡ true → q x ≡ true) → filter p xs ≡ filter p (filter q xs) →
        cond a (x ∷ filter p xs) (filter p xs) ≡ filter p (cond b (x ∷ filter q xs) (filter q xs))
    by true e true g its rest = (λ i. x ∷ rest i) ∙ sym (λ i. cond (e i) (x ∷ filter p (filter q xs)) (filter p (filter q xs)))
    by true e false g its rest = absurd (cc (sym (its e) ∙ g))
    by false e true g its rest = rest ∙ sym (λ i. cond (e i) (x ∷ filter p (filter q xs)) (filter p (filter q xs)))
    by false e false g its rest = rest

map_filter : {A : Type 0} (f : A → ℕ) (p : A → Bool) (q : ℕ → Bool) (xs : List A) → ((x : A) → In x xs → p x ≡ q (f x)) →
    map f (filter p xs) ≡ filter q (map f xs)
map_filter f p q [] same = refl
map_filter f p q (x ∷ xs) same = by (p x) (q (f x)) (same x (inl refl)) (map_filter f p q xs (λ y i. same y (inr i)))
  where
    by : (a b : Bool) → a ≡ b → map f (filter p xs) ≡ filter q (map f xs) →
        map f (cond a (x ∷ filter p xs) (filter p xs)) ≡ cond b (f x ∷ filter q (map f xs)) (filter q (map f xs))
    by true true e rest = ap (λ js. f x ∷ js) rest
    by false false e rest = rest
    by true false e rest = absurd (cc e)
    by false true e rest = absurd (cc e)

in_mapped : {A B : Type 0} (f : A → B) (xs : List A) (x : A) → In x xs → In (f x) (map f xs)
in_mapped f [] x i = absurd i
in_mapped f (y ∷ ys) x (inl same) = inl (ap f same)
in_mapped f (y ∷ ys) x (inr i) = inr (in_mapped f ys x i)

place_some : {A : Type 0} (xs : List A) (j : ℕ) → 1 ≤ j → j ≤ length xs → (x : A) × (at_place j xs ≡ Some x)
place_some xs zero some few = absurd (omega (arith, some))
place_some {A} xs (suc j) some few = by xs j few
  where
    by : (ys : List A) (i : ℕ) → suc i ≤ length ys → (y : A) × (slice_get ys i ≡ Some y)
    by [] i few = absurd (omega (arith, few))
    by (y ∷ ys) zero few = (y, refl)
    by (y ∷ ys) (suc i) few = by ys i (omega (arith, few))

pub on_in : (us : List Act) (v : Uid) → is_on (uids us) v ≡ true → (b : Act) × In b us × (b.uid ≡ v)
on_in [] v on = absurd (cc on)
on_in (u ∷ us) v on = by (uid_eq u.uid v) refl on (on_in us v)
  where
    by : (z : Bool) → uid_eq u.uid v ≡ z → (z || is_on (uids us) v) ≡ true → (is_on (uids us) v ≡ true → (b : Act) × In b us × (b.uid
        ≡ v)) →
        (b : Act) × In b (u ∷ us) × (b.uid ≡ v)
    by true e so rest = (u, inl refl, uid_is u.uid v e)
    by false e so rest = let r = rest so in (r.0, inr r.1, r.2)

on_last : (us : List Uid) (v : Uid) → is_on (us ++ v ∷ []) v ≡ true
on_last [] v = λ i. uid_same v i || false
on_last (u ∷ us) v = by (uid_eq u v) (on_last us v)
  where
    by : (z : Bool) → is_on (us ++ v ∷ []) v ≡ true → (z || is_on (us ++ v ∷ []) v) ≡ true
    by true rest = refl
    by false rest = rest

of_place : {A B : Type 0} (f : A → B) (xs : List A) (j : ℕ) (x : A) → at_place j xs ≡ Some x → at_place j (map f xs) ≡ Some (f x)
of_place {A} f xs zero x is = let no_way : ◌≡◌ {A = Option A} None (Some x) = is in absurd (cc no_way)
of_place {A} f xs (suc i) x is = by xs i is
  where
    by : (ys : List A) (i : ℕ) → slice_get ys i ≡ Some x → slice_get (map f ys) i ≡ Some (f x)
    by [] i no_way = let none : ◌≡◌ {A = Option A} None (Some x) = no_way in absurd (cc none)
    by (y ∷ ys) zero here = let same : y ≡ x = cc in ap (λ z. Some (f z)) same
    by (y ∷ ys) (suc i) more = by ys i more

-- ---- the abort of an action

module _ (hd : Header) (w : World) (h : Holds hd KnowsAll w) (f : Holds hd KnowsFinds w) (k : ℕ) (n : Node)
    (there : at_place k w.nodes ≡ Some n) (t : Parts) (live : n.live ≡ Some t) (l : Label) (b : Branch)
    (named : branch_named l t.coord ≡ Some b) (opened : is_some b.ended ≡ false) (turn : AreInTurn (acts w.lines))
    (count : count_of t.coord.tree.node t.coord.tree.inc (acts w.lines) ≡ length t.coord.tree.branches) where
  abbrev xs : List Act
  xs = acts w.lines

  abbrev bs : List Branch
  bs = t.coord.tree.branches

  abbrev m : ℕ
  m = (named_one hd w h f k n there t live l b named).0

  abbrev u : Uid
  u = uid_at m t.coord

  abbrev top : Act
  top = (named_one hd w h f k n there t live l b named).2

  here : branch_of u t.coord.tree ≡ Some b
  here = (named_one hd w h f k n there t live l b named).1

  one : IsOne w.lines t.coord.doings u b top
  one = (named_one hd w h f k n there t live l b named).3

  found : act_in xs (name l) ≡ Some top
  found = (named_one hd w h f k n there t live l b named).4

  actor_is : actor b.path ≡ u
  actor_is = its_uid hd w h f k n there t live u b here

  own_is_own : is_own u t.coord.tree ≡ true
  own_is_own = own_number hd w h f k n there t live m

  at_m : at_place m bs ≡ Some b
  at_m = (found_by u t.coord.tree b here).1

  abbrev own : Act → Bool
  own a = is_at t.coord.tree.node t.coord.tree.inc a

  abbrev ends : Act → Bool
  ends a = not (is_over w.lines a) && is_on (uids (path xs a.label)) top.uid

  abbrev open_on : Branch → Bool
  open_on c = not (is_some c.ended) && is_on (uids_of c.path) u

  -- the action at a place
  act_at : (j : ℕ) (c : Branch) → at_place j bs ≡ Some c → (a : Act) × IsOne w.lines t.coord.doings (uid_at j t.coord) c a
  act_at j c at = one_of hd w h f k n there t live (uid_at j t.coord) c
      ((λ i. cond (own_number hd w h f k n there t live j i) (at_place j bs) None) ∙ at)

  its : (a : Act) → In a xs → own a ≡ true → (c : Branch) → at_place (number_of a) bs ≡ Some c → IsOne w.lines t.coord.doings a.uid c a
  its a i is c at =
      let o = one_of hd w h f k n there t live a.uid c ((λ j. cond (is j) (at_place (number_of a) bs) None) ∙ at) in
      let x = o.1 in
      subst (IsOne w.lines t.coord.doings a.uid c) (one_act xs (apart hd w h f) o.0 a x.among i x.uid) o.1

  same_ends : (a : Act) (c : Branch) → IsOne w.lines t.coord.doings a.uid c a → ends a ≡ open_on c
  same_ends a c o = λ i. not (o.over i) && (ap (λ us. is_on us top.uid) o.path_is ∙ ap (is_on (uids_of c.path)) one.uid) i

  filtered : filter ends xs ≡ filter ends (filter own xs)
  filtered = filter_in ends own xs (λ a i is.
      let p = and_parts (not (is_over w.lines a)) (is_on (uids (path xs a.label)) top.uid) is in
      let c = below_one hd w h f k n there t live a top.uid i p.1 (ap (λ v. is_own v t.coord.tree) one.uid ∙ own_is_own) in
      (found_by a.uid t.coord.tree c.0 c.1).0)

  numbers : map number_of (filter own xs) ≡ down_from (length bs)
  numbers = in_turn t.coord.tree.node t.coord.tree.inc xs turn ∙ ap down_from count

  ends_numbers : map number_of (filter ends xs) ≡ filter (at_test open_on bs) (down_from (length bs))
  ends_numbers =
      ap (map number_of) filtered
      ∙ map_filter number_of ends (at_test open_on bs) (filter own xs) (λ a i.
      let q = in_filter own a xs i in
      let r = in_down (number_of a) (length bs) (subst (In (number_of a)) numbers (in_mapped number_of (filter own xs) a i)) in
      let c = place_some bs (number_of a) r.0 r.1 in
      same_ends a c.0 (its a q.0 q.1 c.0 c.1) ∙ sym (ap (of_some open_on) c.1))
      ∙ ap (filter (at_test open_on bs)) numbers

  few : m ≤ length bs
  few = within bs m at_m
    where
      short : (cs : List Branch) (i : ℕ) → slice_get cs i ≡ Some b → suc i ≤ length cs
      short [] i at = let no_way : ◌≡◌ {A = Option Branch} None (Some b) = at in absurd (cc no_way)
      short (c ∷ cs) zero at = omega arith
      short (c ∷ cs) (suc i) at = let rest = short cs i at in omega (arith, rest)

      within : (cs : List Branch) (i : ℕ) → at_place i cs ≡ Some b → i ≤ length cs
      within cs zero at = omega arith
      within cs (suc i) at = short cs i at

  some : 1 ≤ m
  some = by m at_m
    where
      by : (i : ℕ) → at_place i bs ≡ Some b → 1 ≤ i
      by zero at = let no_way : ◌≡◌ {A = Option Branch} None (Some b) = at in absurd (cc no_way)
      by (suc i) at = omega arith

  on_own : is_on (uids_of b.path) u ≡ true
  on_own =
      let e = ends_with xs (name l) top found in
      ap (λ us. is_on us u) (sym (ap (λ z. uids (path xs z)) (sym (named_label xs (name l) top found)) ∙ one.path_is))
      ∙ ap (λ us. is_on us u) (ap uids e.1 ∙ map-append (λ (a : Act). a.uid) e.0 (top ∷ []))
      ∙ ap (λ v. is_on (uids e.0 ++ v ∷ []) u) one.uid ∙ on_last (uids e.0) u

  -- nothing that began before the action is below it
  none_before : (j : ℕ) (c : Branch) → at_place j bs ≡ Some c → j < m → is_on (uids_of c.path) u ≡ false
  none_before j c at less = by (is_on (uids_of c.path) u) refl
    where
      by : (z : Bool) → is_on (uids_of c.path) u ≡ z → z ≡ false
      by false is = refl
      by true is =
          let o = act_at j c at in
          let x = o.1 in
          let r = on_in (path xs (let a = o.0 in a.label)) u (ap (λ us. is_on us u) x.path_is ∙ is) in
          let in_xs = in_path xs (let a = o.0 in a.label) r.0 r.1 in
          let same : r.0 ≡ top = one_act xs (apart hd w h f) r.0 top in_xs one.among (r.2 ∙ sym one.uid) in
          let own_a : own o.0 ≡ true = ap (λ v. is_own v t.coord.tree) x.uid ∙ own_number hd w h f k n there t live j in
          let own_top : own top ≡ true = ap (λ v. is_own v t.coord.tree) one.uid ∙ own_is_own in
          let le = began_before xs (apart hd w h f) turn t.coord.tree.node t.coord.tree.inc o.0 top x.among own_a own_top
          (subst (λ z. In z (path xs (let a = o.0 in a.label))) same r.1) in
          absurd (over (number_of top) (number_of o.0) le (ap (λ (v : Uid). v.num) one.uid) (ap (λ (v : Uid). v.num) x.uid) less)
        where
          over : (a c : ℕ) → a ≤ c → a ≡ m → c ≡ j → j < m → ⊥
          over a c le is at less = omega (arith, le, is, at, less)

  abbrev below : Branch → Bool
  below c = is_open_below u c

  split : filter (at_test open_on bs) (down_from (length bs)) ≡ filter (at_test below bs) (down_from (length bs)) ++ m ∷ []
  split = split_at (at_test open_on bs) (at_test below bs) m (length bs) few some its_on its_off before behind
    where
      test : (T : Branch → Bool) (j : ℕ) (c : Branch) → at_place j bs ≡ Some c → at_test T bs j ≡ T c
      test T j c at = ap (of_some T) at

      its_on : at_test open_on bs m ≡ true
      its_on = test open_on m b at_m ∙ (λ i. not (opened i) && on_own i)

      and_none : (x y : Bool) → ((x && false) && y) ≡ false
      and_none true y = refl
      and_none false y = refl

      its_off : at_test below bs m ≡ false
      its_off = test below m b at_m
          ∙ (λ i. (is_on (uids_of b.path) u && not ((ap (λ v. uid_eq v u) actor_is ∙ uid_same u) i)) && not (is_some b.ended))
          ∙ and_none (is_on (uids_of b.path) u) (not (is_some b.ended))

      before : (j : ℕ) → j < m → (at_test open_on bs j ≡ false) × (at_test below bs j ≡ false)
      before j less = by (at_place j bs) refl
        where
          last : (x : Bool) → (x && false) ≡ false
          last true = refl
          last false = refl

          by : (o : Option Branch) → at_place j bs ≡ o →
              (of_some open_on o ≡ false) × (of_some below o ≡ false)
          by None at = (refl, refl)
          by (Some c) at =
              let off = none_before j c at less in (
                (λ i. not (is_some c.ended) && off i) ∙ last (not (is_some c.ended)),
                (λ i. (off i && not (uid_eq (actor c.path) u)) && not (is_some c.ended)),
              )

      behind : (j : ℕ) → m < j → at_test open_on bs j ≡ at_test below bs j
      behind j more = by (at_place j bs) refl
        where
          turn_so : (x y : Bool) → (not x && y) ≡ ((y && not false) && not x)
          turn_so true true = refl
          turn_so true false = refl
          turn_so false true = refl
          turn_so false false = refl

          other : (c : Branch) → at_place j bs ≡ Some c → uid_eq (actor c.path) u ≡ false
          other c at = by (uid_eq (actor c.path) u) refl
            where
              its_actor : actor c.path ≡ uid_at j t.coord
              its_actor = its_uid hd w h f k n there t live (uid_at j t.coord) c
                  ((λ i. cond (own_number hd w h f k n there t live j i) (at_place j bs) None) ∙ at)

              by : (z : Bool) → uid_eq (actor c.path) u ≡ z → z ≡ false
              by false is = refl
              by true is = absurd (differ j m more (ap (λ (v : Uid). v.num) (sym its_actor ∙ uid_is (actor c.path) u is)))
                where
                  differ : (a c : ℕ) → c < a → a ≡ c → ⊥
                  differ a c less same = omega (arith, less, same)

          by : (o : Option Branch) → at_place j bs ≡ o →
              of_some open_on o ≡ of_some below o
          by None at = refl
          by (Some c) at = turn_so (is_some c.ended) (is_on (uids_of c.path) u)
              ∙ sym (λ i. (is_on (uids_of c.path) u && not (other c at i)) && not (is_some c.ended))

  abbrev us : List Uid
  us = open_below u t.coord.tree ++ u ∷ []

  us_numbers : map (λ (v : Uid). v.num) us ≡ filter (at_test below bs) (down_from (length bs)) ++ m ∷ []
  us_numbers =
      map-append (λ (v : Uid). v.num) (open_below u t.coord.tree) (u ∷ [])
      ∙ ap (λ js. js ++ m ∷ []) (latest_down below bs 1 bs [] at
      ∙ append-nil (filter (at_test below bs) (seg 1 (length bs)))
      ∙ ap (filter (at_test below bs)) (sym (down_seg (length bs))))
    where
      one_more : (i : ℕ) → 1 + i ≡ suc i
      one_more i = omega arith

      at : (i : ℕ) (c : Branch) → slice_get bs i ≡ Some c → (at_place (1 + i) bs ≡ Some c) × ((let v = actor c.path in v.num) ≡ 1 + i)
      at i c is = (
        ap (λ j. at_place j bs) (one_more i) ∙ is,
        ap (λ (v : Uid). v.num) (its_uid hd w h f k n there t live (uid_at (suc i) t.coord) c
            ((λ j. cond (own_number hd w h f k n there t live (suc i) j) (at_place (suc i) bs) None) ∙ is)) ∙ sym (one_more i),
      )

  -- each of them has its label
  labelled : (v : Uid) → In v us → HasLabel t.coord v
  labelled v i = by_list (open_below u t.coord.tree) (λ z j. of_below z j) i
    where
      at_branch : (j : ℕ) (c : Branch) → at_place j bs ≡ Some c → HasLabel t.coord (uid_at j t.coord)
      at_branch j c at =
          let o = (act_at j c at).1 in (
            own_number hd w h f k n there t live j,
            (let d = o.doing in d.label),
            of_place (λ
                (d : Doing). d.label) t.coord.doings j o.doing o.does,
          )

      of_below : (z : Uid) → In z (open_below u t.coord.tree) → HasLabel t.coord z
      of_below z j =
          let r = in_latest (filter below bs) [] z j in
          ⊎_elim (λ c. let q = in_filter below c.0 bs c.1 in
          let p = placed c.0 bs q.0 in
          subst (HasLabel t.coord) (sym (its_uid hd w h f k n there t live (uid_at p.0 t.coord) c.0
          ((λ i. cond (own_number hd w h f k n there t live p.0 i) (at_place p.0 bs) None) ∙ p.1)) ∙ c.2) (at_branch p.0 c.0 p.1))
          (λ none. absurd none) r
        where
          in_latest : (cs : List Branch) (more : List Uid) (z : Uid) → In z (latest_first cs more) →
              ((c : Branch) × In c cs × (actor c.path ≡ z)) ⊎ In z more
          in_latest [] more z j = inr j
          in_latest (c ∷ cs) more z j = ⊎_elim (λ r. inl (r.0, inr r.1, r.2))
              (λ r. by r) (in_latest cs (actor c.path ∷ more) z j)
            where
              by : In z (actor c.path ∷ more) → ((e : Branch) × In e (c ∷ cs) × (actor e.path ≡ z)) ⊎ In z more
              by (inl same) = inl (c, inl refl, same)
              by (inr i) = inr i

      by_list : (vs : List Uid) → ((z : Uid) → In z vs → HasLabel t.coord z) → In v (vs ++ u ∷ []) → HasLabel t.coord v
      by_list [] each (inl same) = subst (HasLabel t.coord) same (at_branch m b at_m)
      by_list [] each (inr none) = absurd none
      by_list (z ∷ vs) each (inl same) = subst (HasLabel t.coord) same (each z (inl refl))
      by_list (z ∷ vs) each (inr i) = by_list vs (λ y j. each y (inr j)) i

  -- the lines, as the journal has them
  pub abort_lines : (own_lines : List Body) × ((all_aborted (open_below (actor b.path) t.coord.tree ++ actor b.path ∷ []) t.coord).outs
      ≡ say_all own_lines) × AreAborted (aborted_of w.lines (act_in xs (name l))) own_lines
  abort_lines =
      let r = all_said us t.coord labelled in (
        r.0,
        ap (λ v. (all_aborted (open_below v t.coord.tree ++ v ∷ []) t.coord).outs) actor_is ∙ r.1,
        subst (λ o. AreAborted (aborted_of w.lines o) r.0) (sym found) (subst (λ as_begun. AreAborted as_begun r.0)
            (sym (aborted_so w.lines xs (apart hd w h f) top one.among xs (apart hd w h f) (λ c i. i)))
            (pair_up t.coord (filter ends xs) us r.0 (ends_numbers ∙ split ∙ sym us_numbers) r.2 label_of)),
      )
    where
      some_is : {A : Type 0} (a c : A) → Some a ≡ Some c → a ≡ c
      some_is {A} a c is = let j : ◌≡◌ {A = Option A} (Some a) (Some c) = is in cc

      label_of : (a : Act) → In a (filter ends xs) → (z : Label) → at_place (number_of a) (names_of t.coord) ≡ Some z → name z ≡ a.label
      label_of a i z at =
          let j = in_filter own a xs (in_filter ends a (filter own xs) (subst (In a) filtered i)).0 in
          let r = in_down (number_of a) (length bs) (subst (In (number_of a)) numbers
          (in_mapped number_of (filter own xs) a (in_filter ends a (filter own xs) (subst (In a) filtered i)).0)) in
          let c = place_some bs (number_of a) r.0 r.1 in
          let o = its a j.0 j.1 c.0 c.1 in
          by o.doing o.does o.label_is
        where
          by : (d : Doing) → at_place (number_of a) t.coord.doings ≡ Some d → a.label ≡ name d.label → name z ≡ a.label
          by d does same =
              ap name (some_is z d.label (sym at ∙ of_place (λ (e : Doing). e.label) t.coord.doings (number_of a) d does)) ∙ sym same

  -- and how many they are
  pub abort_many : length (open_below (actor b.path) t.coord.tree ++ actor b.path ∷ []) ≡ length (aborted_of w.lines (act_in xs (name l)))
  abort_many = ap (λ v. length (open_below v t.coord.tree ++ v ∷ [])) actor_is
      ∙ sym (length-map us (λ (v : Uid). v.num))
      ∙ ap (λ (ns : List ℕ). length ns) (sym (ends_numbers ∙ split ∙ sym us_numbers))
      ∙ length-map (filter ends xs) number_of
      ∙ ap (λ (as_begun : List Act). length as_begun)
      (sym (aborted_so w.lines xs (apart hd w h f) top one.among xs (apart hd w h f) (λ c i. i)))
      ∙ ap (λ o. length (aborted_of w.lines o)) (sym found)
