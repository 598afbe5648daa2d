-- Which actions the lines of two journals, one behind the other, say are committed.
use Rattle.arj_law.proofs.Terms
use Terms.{◌≡◌, ◌<◌, ℕ, ◌+◌, List, [], ◌∷◌, ◌++◌, length, map, Bool, true, false, cond, ◌&&◌, ◌||◌, Option, Some, None, refl, sym, ◌∙◌, ap}
use Terms.{subst, arith, ⊎_elim, AllByRecursion, list_any, eq-eqb, or_left, or_right, list_any-append, Uid, uid_eq, Line, Act, Begun}
use Terms.{Placed, acts, acts_after, acts_from, begun_of, committed, is_committed, numbered, read, recovered, recovered_of, root_in, top_in}
use Terms.{Call, Top, committed_calls, committing_of, committings, root_or, top_by, top_of, tops, uid_of_id, AreApart, call_behind}
use Terms.{calls_behind, top_behind, tops_behind}
use Rattle.arj_base.proofs.Uids.{uid_same}
use Rattle.arj_law.proofs.Common.{all_both, all_filter_map, all_map, never}
use Rattle.arj_law.proofs.JoinedActs.{act_behind, acts_join}
use Rattle.arj_law.proofs.JoinedCalls.{IsNew, IsOld, calls_join, calls_low, commits_join, ends_join, first_all, new_acts, new_committed}
use Rattle.arj_law.proofs.JoinedCalls.{old_acts, old_committed, other_number, path_of, read_all, records, records_join, top_all, tops_join}
use Rattle.arj_law.proofs.JoinedCalls.{tops_low}
use Rattle.arj_law.proofs.JoinedLast.{uid_first, uid_second}
use Rattle.arj_law.proofs.JoinedLists.{all_over, all_front}
use Rattle.arj_law.proofs.Reading.{acts-append, read-append}
use Rattle.std.proofs.lemmas
use lemmas.List.Elements.{All-contains, All-contains_itself, All-from_recursion, recursion_from_All, Contains-append_cases}
use lemmas.List.Elements.{Contains-append_right}
use Rattle.std.specs.Prelude.{Contains}

-- an action with this Uid is committed
abbrev pub is_decided : List Line → Uid → Bool
is_decided lines u = list_any (λ (a : Act). uid_eq a.uid u && is_committed (committed lines) (recovered lines) a) (acts lines)

-- ---- what stands in a list

pub from_map : {A B : Type 0} (f : A → B) (xs : List A) (y : B) → Contains (map f xs) y → (x : A) × Contains xs x × (f x ≡ y)
from_map {A} {B} f xs y there = All-contains Found (map f xs) y (All-from_recursion Found (map f xs)
    (all_over (Contains xs) Found f (λ a i. (a, i, refl)) xs (recursion_from_All (Contains xs) xs (All-contains_itself xs)))) there
  where
    Found : B → Type 0
    Found z = (x : A) × Contains xs x × (f x ≡ z)

all_under : {A B : Type 0} (Q : B → Type 0) (f : A → B) (xs : List A) → AllByRecursion Q (map f xs) → AllByRecursion (λ a. Q (f a)) xs
all_under Q f [] qs = tt
all_under Q f (x ∷ xs) qs = (qs.0, all_under Q f xs qs.1)

pub into_map : {A B : Type 0} (f : A → B) (xs : List A) (x : A) → Contains xs x → Contains (map f xs) (f x)
into_map f xs x there = All-contains (λ a. Contains (map f xs) (f a)) xs x (All-from_recursion (λ a. Contains (map f xs) (f a)) xs
    (all_under (Contains (map f xs)) f xs (recursion_from_All (Contains (map f xs)) (map f xs) (All-contains_itself (map f xs))))) there

-- ---- the front of a journal

front_apart : (first ls rest : List Line) → AreApart first (ls ++ rest) → AreApart first ls
front_apart first ls rest apart = record {
  labels = all_front _ ls rest apart.labels;
  found = all_front _ (recovered ls) (read recovered_of (acts ls) (0 + length ls) rest)
      (subst (AllByRecursion _) (read-append recovered_of [] 0 ls rest) apart.found);
  past = all_map (λ (u : Placed Uid). AllByRecursion (λ (a : Act). uid_eq u.it a.uid ≡ false) (acts (ls ++ rest)))
      (λ u. AllByRecursion (λ (a : Act). uid_eq u.it a.uid ≡ false) (acts ls))
      (λ u h. first_all (λ a. uid_eq u.it a.uid ≡ false) (acts ls) rest
      (subst (AllByRecursion (λ (a : Act). uid_eq u.it a.uid ≡ false)) (acts-append [] ls rest) h)) (recovered first) apart.past;
}

-- ---- numbers tell actions apart

abbrev AreNumbered : List Act → Type 0
AreNumbered [] = Unit {0}
AreNumbered (a ∷ us) = (a.id ≡ length us) × AreNumbered us

numbered_so : (us : List Act) (ls : List Line) → AreNumbered us → AreNumbered (acts_from us ls)
numbered_so us [] h = h
numbered_so us (l ∷ ls) h = numbered_so (acts_after us l.body) ls (by (begun_of l.body))
  where
    by : (o : Option Begun) → AreNumbered (numbered us o)
    by None = h
    by (Some b) = (refl, h)

ids_below : (us : List Act) → AreNumbered us → AllByRecursion (λ (a : Act). a.id < length us) us
ids_below [] h = tt
ids_below (a ∷ us) h = (
  (let at : a.id ≡ length us = h.0 in omega (arith, at)),
  all_map (λ (b : Act). b.id < length us) (λ b. b.id < length (a ∷ us)) (λ b low. omega (arith, low)) us (ids_below us h.1),
)

its_uid : (us : List Act) → AreNumbered us → AllByRecursion (λ (a : Act). uid_of_id us a.id ≡ a.uid) us
its_uid [] h = tt
its_uid (a ∷ us) h = (
  (λ i. cond (eq-eqb a.id a.id refl i) a.uid (uid_of_id us a.id)),
  all_map (λ (b : Act). (b.id < length us) × (uid_of_id us b.id ≡ b.uid)) (λ b. uid_of_id (a ∷ us) b.id ≡ b.uid)
      (λ b e. (λ i. cond (other_number a.id b.id (λ same. let low = e.0 in let at : a.id ≡ length us = h.0 in
      omega (arith, same, low, at)) i) a.uid (uid_of_id us b.id)) ∙ e.1) us
      (all_both (λ (b : Act). b.id < length us) (λ b. uid_of_id us b.id ≡ b.uid) us (ids_below us h.1) (its_uid us h.1)),
)

-- ---- both journals

module _ (first second : List Line) (apart : AreApart first second) where
  abbrev k : ℕ
  k = length (acts first)

  abbrev both : List Line
  both = first ++ second

  abbrev E : List (Placed ℕ)
  E = ends_join (length first) k (committed first) (committed second)

  abbrev R : List (Placed Uid)
  R = records first second apart

  abbrev tests : Uid → List (Placed ℕ) → List (Placed Uid) → Act → Bool
  tests u ends found a = uid_eq a.uid u && is_committed ends found a

  parts : (u : Uid) → is_decided both u ≡ (list_any (tests u E R) (map (act_behind k) (acts second)) || list_any (tests u E R) (acts first))
  parts u =
      (λ i. list_any (tests u (commits_join first second apart i) (records_join first second apart i)) (acts_join first second i))
      ∙ list_any-append (tests u E R) (map (act_behind k) (acts second)) (acts first)

  of_first : (u : Uid) (us : List Act) → AllByRecursion (IsOld first second apart) us →
      list_any (tests u E R) us ≡ list_any (tests u (committed first) (recovered first)) us
  of_first u [] olds = refl
  of_first u (a ∷ us) olds = (λ i. (uid_eq a.uid u && old_committed first second apart a olds.0 i) || of_first u us olds.1 i)

  of_second : (u : Uid) (us : List Act) → AllByRecursion (IsNew first second apart) us →
      list_any (tests u E R) (map (act_behind k) us) ≡ list_any (tests u (committed second) (recovered second)) us
  of_second u [] news = refl
  of_second u (a ∷ us) news = (λ i. (uid_eq a.uid u && new_committed first second apart a news.0 i) || of_second u us news.1 i)

  -- what either journal says both say
  decided_is : (u : Uid) → is_decided both u ≡ (is_decided second u || is_decided first u)
  decided_is u =
      parts u ∙ (λ i. of_second u (acts second) (new_acts first second apart) i || of_first u (acts first) (old_acts first second apart) i)

  pub undecided_second : (u : Uid) → is_decided both u ≡ false → is_decided second u ≡ false
  undecided_second u off = by (is_decided second u) (is_decided first u) (sym (decided_is u) ∙ off)
    where
      by : (a b : Bool) → (a || b) ≡ false → a ≡ false
      by true b e = never true refl e
      by false b e = refl

  pub decided_first : (u : Uid) → is_decided first u ≡ true → is_decided both u ≡ true
  decided_first u on = decided_is u ∙ or_right (is_decided second u) (is_decided first u) on

-- a committed top is one
module _ (lines : List Line) where
  abbrev IsItself : Act → Type 0
  IsItself a =
      (uid_of_id (acts lines) a.id ≡ a.uid) × (is_committed (committed lines) (recovered lines) a ≡ true → is_decided lines a.uid ≡ true)

  there : (us : List Act) → AllByRecursion (λ (a : Act). is_committed (committed lines) (recovered lines) a ≡ true →
      list_any (λ (b : Act). uid_eq b.uid a.uid && is_committed (committed lines) (recovered lines) b) us ≡ true) us
  there [] = tt
  there (b ∷ us) = (
    (λ on. or_left (uid_eq b.uid b.uid && is_committed (committed lines) (recovered lines) b) (list_any
        (λ (c : Act). uid_eq c.uid b.uid && is_committed (committed lines) (recovered lines) c) us) ((λ i. uid_same b.uid i && on i))),
    all_map (λ (a : Act). is_committed (committed lines) (recovered lines) a ≡ true →
        list_any (λ (c : Act). uid_eq c.uid a.uid && is_committed (committed lines) (recovered lines) c) us ≡ true)
        (λ a. is_committed (committed lines) (recovered lines) a ≡ true →
        list_any (λ (c : Act). uid_eq c.uid a.uid && is_committed (committed lines) (recovered lines) c) (b ∷ us) ≡ true)
        (λ a h on. or_right (uid_eq b.uid a.uid && is_committed (committed lines) (recovered lines) b)
        (list_any (λ (c : Act). uid_eq c.uid a.uid && is_committed (committed lines) (recovered lines) c) us) (h on)) us (there us),
  )

  themselves : AllByRecursion IsItself (acts lines)
  themselves = all_both (λ (a : Act). uid_of_id (acts lines) a.id ≡ a.uid) (λ a. is_committed (committed lines) (recovered lines) a ≡ true →
      is_decided lines a.uid ≡ true) (acts lines) (its_uid (acts lines) (numbered_so [] lines tt)) (there (acts lines))

  pub tops_decided : AllByRecursion (λ (t : Top). is_decided lines (uid_of_id (acts lines) t.id) ≡ true) (tops lines)
  tops_decided = all_filter_map (λ (m : Placed (List Act)). (m.at < 0 + length lines) × AllByRecursion IsItself m.it) (λ (t : Top).
      is_decided lines (uid_of_id (acts lines) t.id) ≡ true) (top_of (committed lines) (recovered lines)) by (committings lines)
      (read_all IsItself (AllByRecursion IsItself) committing_of (path_of IsItself) [] 0 lines themselves)
    where
      by : (m : Placed (List Act)) (t : Top) → (m.at < 0 + length lines) × AllByRecursion IsItself m.it →
          top_of (committed lines) (recovered lines) m ≡ Some t → is_decided lines (uid_of_id (acts lines) t.id) ≡ true
      by m t h e = at (top_in m.it) refl e
        where
          from : (top : Act) (b : Bool) → is_committed (committed lines) (recovered lines) top ≡ b → IsItself top →
              cond b (Some (record { id = top.id; root = root_or top.id (root_in m.it); at = m.at })) None ≡ Some t →
              is_decided lines (uid_of_id (acts lines) t.id) ≡ true
          from top true on self g =
              let same : record { id = top.id; root = root_or top.id (root_in m.it); at = m.at } ≡ t = cc g in
              subst (λ (z : Top). is_decided lines (uid_of_id (acts lines) z.id) ≡ true) same (ap (is_decided lines) self.0 ∙ self.1 on)
          from top false on self g = absurd (cc g)

          at : (o : Option Act) → top_in m.it ≡ o → top_by (committed lines) (recovered lines) m o ≡ Some t →
              is_decided lines (uid_of_id (acts lines) t.id) ≡ true
          at None is g = absurd (cc g)
          at (Some top) is g = from top (is_committed (committed lines) (recovered lines) top) refl (top_all IsItself m.it top h.1 is) g

-- ---- tops that are new behind so many lines of the second journal

-- A top of both that no line of the first journal, and none of the front of the second, says is committed is one of the second, and so
-- it is there.
pub new_of_second : (first ls rest : List Line) (apart : AreApart first (ls ++ rest)) (t : Top) →
    Contains (tops (first ++ (ls ++ rest))) t → is_decided (first ++ ls) (uid_of_id (acts (first ++ (ls ++ rest))) t.id) ≡ false
    → (u : Top) × Contains (tops (ls ++ rest)) u × (top_behind (length first) (length (acts first)) u ≡ t)
    × (is_decided ls (uid_of_id (acts (ls ++ rest)) u.id) ≡ false)
new_of_second first ls rest apart t in_both off = ⊎_elim old new (Contains-append_cases (tops first) (tops_behind first (tops second)) t
    (subst (λ ts. Contains ts t) (tops_join first second apart) in_both))
  where
    second : List Line
    second = ls ++ rest

    Found : Type 0
    Found = (u : Top) × Contains (tops second) u × (top_behind (length first) (length (acts first)) u ≡ t)
        × (is_decided ls (uid_of_id (acts second) u.id) ≡ false)

    old : Contains (tops first) t → Found
    old i =
        let said = All-contains (λ (z : Top). (z.id < length (acts first)) × (is_decided first (uid_of_id (acts first) z.id) ≡ true))
        (tops first) t
        (All-from_recursion (λ (z : Top). (z.id < length (acts first)) × (is_decided first (uid_of_id (acts first) z.id) ≡ true))
        (tops first)
        (all_both (λ (z : Top). z.id < length (acts first)) (λ z. is_decided first (uid_of_id (acts first) z.id) ≡ true) (tops first)
        (all_map _ (λ (z : Top). z.id < length (acts first)) (λ z l. l.0) (tops first) (tops_low first second apart))
        (tops_decided first))) i in
        absurd (never (is_decided (first ++ ls) (uid_of_id (acts (first ++ second)) t.id)) (ap (is_decided (first ++ ls)) (uid_first first
        second apart t.id said.0) ∙ decided_first first ls (front_apart first ls rest apart) (uid_of_id (acts first) t.id) said.1) off)

    new : Contains (tops_behind first (tops second)) t → Found
    new i =
        let f = from_map (top_behind (length first) (length (acts first))) (tops second) t i in
        let u : Top = f.0 in
        let same : top_behind (length first) (length (acts first)) u ≡ t = f.2 in
        let uid : uid_of_id (acts (first ++ second)) t.id ≡ uid_of_id (acts second) u.id = ap
        (λ (z : Top). uid_of_id (acts (first ++ second)) z.id) (sym same) ∙ uid_second first second apart u.id in (
          u,
          f.1,
          same,
          undecided_second first ls (front_apart first ls rest apart) (uid_of_id (acts second) u.id)
              (ap (is_decided (first ++ ls)) (sym uid) ∙ off),
        )

-- a surviving call of such a top is one of the second
pub call_of_second : (first second : List Line) (apart : AreApart first second) (c : Call) (i : ℕ) →
    Contains (committed_calls (first ++ second)) c → c.top ≡ i + length (acts first) →
    (d : Call) × Contains (committed_calls second) d × (call_behind (length first) (length (acts first)) d ≡ c)
call_of_second first second apart c i there top = ⊎_elim old (λ j.
    from_map (call_behind (length first) (length (acts first))) (committed_calls second) c j) (Contains-append_cases (committed_calls first)
    (calls_behind first (committed_calls second)) c (subst (λ cs. Contains cs c) (calls_join first second apart) there))
  where
    old : Contains (committed_calls first) c →
        (d : Call) × Contains (committed_calls second) d × (call_behind (length first) (length (acts first)) d ≡ c)
    old j =
        let low : c.top < length (acts first) = All-contains (λ (d : Call). d.top < length (acts first)) (committed_calls first) c
        (All-from_recursion (λ (d : Call). d.top < length (acts first)) (committed_calls first) (all_map
        _ (λ (d : Call). d.top < length (acts first)) (λ d l. l.1) (committed_calls first) (calls_low first second apart))) j in
        absurd (omega (arith, low, top))

-- a top of the second is one of both
pub top_of_both : (first second : List Line) (apart : AreApart first second) (u : Top) → Contains (tops second) u →
    Contains (tops (first ++ second)) (top_behind (length first) (length (acts first)) u)
top_of_both first second apart u i = subst (λ ts. Contains ts (top_behind (length first) (length (acts first)) u))
    (sym (tops_join first second apart)) (Contains-append_right (tops first) (tops_behind first (tops second))
    (top_behind (length first) (length (acts first)) u) (into_map (top_behind (length first) (length (acts first))) (tops second) u i))
