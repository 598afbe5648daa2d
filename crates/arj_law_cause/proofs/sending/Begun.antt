-- Of how many actions a node has something, a record, or what is at work: of no more than began, by the journal.
use Rattle.arj_law_parts.proofs.Words
use Words.{◌≡◌, ◌∙◌, ◌≤◌, ◌==◌, not, ℕ, suc, Bool, true, false, cond, List, [], ◌∷◌, ◌++◌, filter, length, map, refl, sym, ap, subst}
use Words.{arith}
use Words.{inl, inr, AllByRecursion, Some, In, in_from, in_to, Contains, Ordering, Less, Equal, Greater}
use Words.{match_ordering}
use Words.{uid_eq, uid_is, uid_order, uid_same, Uid, put_uid, uid_set, with_uid, Parts, Node, Header, holders}
use Words.{◌&&◌, prepared_actions, server_holders, locks_of, at_uid, Intent}
use Words.{Seen}
use Rattle.arj_law_parts.proofs.parts.Keys.{in_at, order_itself, sorted_put}
use Rattle.std.proofs.lemmas.List.{length-map}
use Rattle.arj_law_parts.proofs.moves.Happens.{keeps_asked}
use Rattle.arj_law_parts.specs.moves.Keeps.{KeepsAsked}
use Rattle.arj_law_parts.specs.parts.Actions.{Action, act_of}
use Rattle.arj_law_parts.specs.parts.Objects.{AreAbove, AreSorted}
use Rattle.arj_law_disk_view.specs.running.Records.{AreRecorded, IsRecorded}
use Rattle.arj_law_runs.proofs.Terms.{Act, acts}
use Rattle.arj_law_runs.proofs.follow.Uids.{KnowsNext, count_of, next_keep}
use Rattle.arj_law_runs.proofs.resting.Quiesces.{asked_both}
use Rattle.arj_law_runs.specs.journal.Paths.{AreAlike}
use Rattle.arj_law_runs.specs.kept.Worlds.{IsGoodOf, IsMemory, IsUp}
use Rattle.arj_law_promise.proofs.settling.{ConfirmKnown.IsNaming, ConfirmRuns.naming_keep, Settled.sorted_as}
use Rattle.arj_law_serial.proofs.Terms.{ArePastIn, IsBegun, all_append, all_keys, all_set}
use Rattle.arj_law_serial.proofs.holding.Running.{alike_of}
use Rattle.arj_law_serial.proofs.past.Handling.{holders_begun}
use Rattle.arj_law_cause.proofs.spelled.Lists.{filter_shorter}

-- ---- actions, each once

-- of actions in whichever words, each with its Uid
module _ {A : Type 0} (of : A → Uid) where
  -- one of these has this Uid
  abbrev pub IsOneOf : List A → Uid → Type 0
  IsOneOf begun u = (a : A) × Contains begun a × (of a ≡ u)

  -- so it is of each key
  abbrev pub AreOneOf : {X : Type 0} → List A → List (Uid × X) → Type 0
  AreOneOf {X} begun m = AllByRecursion (λ (e : Uid × X). IsOneOf begun e.0) m

  -- another action than this
  abbrev isnt : Uid → A → Bool
  isnt u a = not (uid_eq (of a) u)

  pub is_in : (test : A → Bool) (a : A) (xs : List A) → In a xs → test a ≡ true → In a (filter test xs)
  is_in test a [] there on = absurd there
  is_in test a (x ∷ xs) (inl same) on = by (test x) (ap test same ∙ on)
    where
      by : (b : Bool) → b ≡ true → In a (cond b (x ∷ filter test xs) (filter test xs))
      by true is = inl same
      by false is = absurd (cc is)
  is_in test a (x ∷ xs) (inr there) on = by (test x) (is_in test a xs there on)
    where
      by : (b : Bool) → In a (filter test xs) → In a (cond b (x ∷ filter test xs) (filter test xs))
      by true i = inr i
      by false i = i

  -- without one that is there they are fewer
  fewer : (test : A → Bool) (a : A) (xs : List A) → In a xs → test a ≡ false → suc (length (filter test xs)) ≤ length xs
  fewer test a [] there off = absurd there
  fewer test a (x ∷ xs) (inl same) off = by (test x) (ap test same ∙ off) (filter_shorter test xs)
    where
      one : (p q : ℕ) → p ≤ q → suc p ≤ suc q
      one p q le = omega (arith, le)

      by : (b : Bool) → b ≡ false → length (filter test xs) ≤ length xs →
          suc (length (cond b (x ∷ filter test xs) (filter test xs))) ≤ suc (length xs)
      by true is le = absurd (cc is)
      by false is le = one (length (filter test xs)) (length xs) le
  fewer test a (x ∷ xs) (inr there) off = by (test x) (fewer test a xs there off)
    where
      one : (p q : ℕ) → suc p ≤ q → suc (suc p) ≤ suc q
      one p q le = omega (arith, le)

      none : (p q : ℕ) → suc p ≤ q → suc p ≤ suc q
      none p q le = omega (arith, le)

      by : (b : Bool) → suc (length (filter test xs)) ≤ length xs →
          suc (length (cond b (x ∷ filter test xs) (filter test xs))) ≤ suc (length xs)
      by true le = one (length (filter test xs)) (length xs) le
      by false le = none (length (filter test xs)) (length xs) le

  module _ {X : Type 0} where
    -- what stands behind a key is begun also among the others
    others : (u : Uid) (begun : List A) (m : List (Uid × X)) → AreAbove u m → AreOneOf begun m → AreOneOf (filter (isnt u) begun) m
    others u begun [] above all = tt
    others u begun (e ∷ es) above all =
        let a = all.0.0 in (
          (a, in_to a (filter (isnt u) begun) (is_in (isnt u) a begun (in_from a begun all.0.1) (on (uid_eq (of a) u) refl)), all.0.2),
          others u begun es above.1 all.1,
        )
      where
        on : (b : Bool) → uid_eq (of all.0.0) u ≡ b → not b ≡ true
        on false is = refl
        on true is =
            let same : e.0 ≡ u = sym all.0.2 ∙ uid_is (of all.0.0) u is in
            let no_way : ◌≡◌ {A = Ordering} Less Equal = sym above.0 ∙ ap (uid_order u) same ∙ order_itself u in absurd (cc no_way)

    -- keys that increase are no more than the actions, of which each is one
    pub no_more : (m : List (Uid × X)) (begun : List A) → AreSorted m → AreOneOf begun m → length m ≤ length begun
    no_more [] begun sorted all = least (length begun)
      where
        least : (a : ℕ) → 0 ≤ a
        least a = omega arith
    no_more (e ∷ es) begun sorted all =
        let a = all.0.0 in
        less (length es) (length (filter (isnt e.0) begun)) (length begun)
        (no_more es (filter (isnt e.0) begun) sorted.1 (others e.0 begun es sorted.0 all.1))
        (fewer (isnt e.0) a begun (in_from a begun all.0.1) (ap (λ u. not (uid_eq u e.0)) all.0.2 ∙ ap not (uid_same e.0)))
      where
        less : (a b c : ℕ) → a ≤ b → suc b ≤ c → suc a ≤ c
        less a b c x y = omega (arith, x, y)

-- ---- sets

-- a set, as keys
abbrev keyed : List Uid → List (Uid × ℕ)
keyed us = map {A = Uid} {B = Uid × ℕ} (λ u. (u, 0)) us

keyed_with : (u : Uid) (us : List Uid) → keyed (with_uid u us) ≡ put_uid u 0 (keyed us)
keyed_with u [] = refl
keyed_with u (w ∷ ws) = by (uid_order u w) (keyed_with u ws)
  where
    by : (r : Ordering) → keyed (with_uid u ws) ≡ put_uid u 0 (keyed ws) →
        keyed (match_ordering r (u ∷ w ∷ ws) (w ∷ ws) (w ∷ with_uid u ws))
        ≡ match_ordering r ((u, 0) ∷ (w, 0) ∷ keyed ws) ((w, 0) ∷ keyed ws) ((w, 0) ∷ put_uid u 0 (keyed ws))
    by Less ih = refl
    by Equal ih = refl
    by Greater ih = ap (λ (es : List (Uid × ℕ)). (w, 0) ∷ es) ih

set_sorted : (us : List Uid) → AreSorted (keyed (uid_set us))
set_sorted [] = tt
set_sorted (u ∷ us) = subst AreSorted (sym (keyed_with u (uid_set us))) (sorted_put u 0 (keyed (uid_set us)) (set_sorted us))

keys_begun : (begun : List Action) (us : List Uid) → AllByRecursion (IsBegun begun) us → AreOneOf act_of begun (keyed us)
keys_begun begun [] all = tt
keys_begun begun (u ∷ us) all = (all.0, keys_begun begun us all.1)

set_no_more : (begun : List Action) (us : List Uid) → AllByRecursion (IsBegun begun) (uid_set us) → length (uid_set us) ≤ length begun
set_no_more begun us all = subst (λ n. n ≤ length begun) (length-map {A = Uid} {B = Uid × ℕ} (uid_set us) (λ u. (u, 0)))
    (no_more act_of (keyed (uid_set us)) begun (set_sorted us) (keys_begun begun (uid_set us) all))

all_from : {A : Type 0} (P : A → Type 0) (xs : List A) → ((x : A) → In x xs → P x) → AllByRecursion P xs
all_from P [] each = tt
all_from P (x ∷ xs) each = (each x (inl refl), all_from P xs (λ y i. each y (inr i)))

-- ---- by the journal

alike_long : (begun : List Action) (xs : List Act) → AreAlike begun xs → length begun ≡ length xs
alike_long [] [] is = refl
alike_long (a ∷ begun) (b ∷ xs) is = ap suc (alike_long begun xs is.3)
alike_long [] (b ∷ xs) is = absurd is
alike_long (a ∷ begun) [] is = absurd is

-- what is known of who was begun, and told, and of records; and of how many actions a node has in its incarnation
abbrev pub Known : Seen → Type 0
Known M = IsNaming M × KnowsNext M

pub known_kept : (hd : Header) → KeepsAsked hd Known
known_kept hd = asked_both hd IsNaming KnowsNext (keeps_asked hd IsNaming (naming_keep hd)) (keeps_asked hd KnowsNext (next_keep hd))

-- So many at most are at a node: of whom it has something, its actions, what it tells again, its records, and who has prepared there.
pub record FewAt (a : ℕ) (x : Node) : Type 0 where
  pub asked : (t : Parts) → x.live ≡ Some t → length (holders x.disk t) ≤ a
  pub works : (t : Parts) → x.live ≡ Some t → length t.coord.doings ≤ a
  pub telling : (t : Parts) → x.live ≡ Some t → length t.coord.telling ≤ a
  pub records : length (let d = x.disk in d.intents) ≤ a
  pub ready : length (uid_set (let d = x.disk in prepared_actions d.store ++ prepared_actions d.names)) ≤ a

module _ {X : Type 0} where
  -- what is found under each key of a sorted map
  all_begun : (begun : List Action) (m : List (Uid × X)) → AreSorted m → ((u : Uid) (x : X) → at_uid u m ≡ Some x → IsBegun begun u) →
      AreOneOf act_of begun m
  all_begun begun m sorted found = all_from (λ (e : Uid × X). IsBegun begun e.0) m (λ e i. found e.0 e.1 (in_at e m sorted i))

-- at a node of what is known
module _ (hd : Header) (M : Seen) (known : Known M) where
  abbrev begun : List Action
  begun = let n = known.0.0.1 in n.0

  good : IsGoodOf begun M
  good = let n = known.0.0.1 in n.1

  past : ArePastIn begun M
  past = let n = known.0.0.1 in let z = n.2 in z.0.0.0

  recorded : AreRecorded begun M
  recorded = let n = known.0.0.1 in let z = n.2 in z.0.0.1

  many : length begun ≡ length (acts M.lines)
  many = let n = known.0.0.1 in let z = n.2 in alike_long begun (acts M.lines) (alike_of hd 0 0 begun M z.1.1)

  within : (a : ℕ) → a ≤ length begun → a ≤ length (acts M.lines)
  within a le = subst (λ n. a ≤ n) many le

  few_set : (us : List Uid) → AllByRecursion (IsBegun begun) (uid_set us) → length (uid_set us) ≤ length (acts M.lines)
  few_set us all = within (length (uid_set us)) (set_no_more begun us all)

  few_map : {X : Type 0} (m : List (Uid × X)) → AreSorted m → ((u : Uid) (x : X) → at_uid u m ≡ Some x → IsBegun begun u) →
      length m ≤ length (acts M.lines)
  few_map m sorted found = within (length m) (no_more act_of m begun sorted (all_begun begun m sorted found))

  module _ (k : ℕ) (x : Node) (here : M.nodes k ≡ Some x) where
    its : IsRecorded begun x
    its = recorded k x here

    rooted : (u : Uid) (i : Intent) → at_uid u (let d = x.disk in d.intents) ≡ Some i → IsBegun begun u
    rooted u i is = let r = its in let c = r.disk in let s = c.each u i is in (s.0, s.1, s.2)

    ready_begun : AllByRecursion (IsBegun begun) (uid_set (let d = x.disk in prepared_actions d.store ++ prepared_actions d.names))
    ready_begun =
        let d = x.disk in
        let p = past.nodes k x here in
        all_set (IsBegun begun) (prepared_actions d.store ++ prepared_actions d.names) (all_append (IsBegun begun) (prepared_actions
        d.store)
        (prepared_actions d.names) (all_keys (IsBegun begun) d.store.pend p.store) (all_keys (IsBegun begun) d.names.pend p.names))

    asked_few : (t : Parts) → x.live ≡ Some t → length (holders x.disk t) ≤ length (acts M.lines)
    asked_few t live =
        let d = x.disk in
        let p = past.nodes k x here in
        let l = p.live t live in
        few_set (server_holders t.server ++ locks_of t.naming ++ prepared_actions d.store ++ prepared_actions d.names)
        (holders_begun begun good.begun d t p.store p.names (record { calls = l.calls; keys = l.keys; entries = l.entries }))

    pub up_here : (t : Parts) → x.live ≡ Some t → IsUp begun M.sent M.labels k (let d = x.disk in d.inc) t
    up_here t live = let g = good in let p = g.places k x here in
        subst (IsMemory begun M.sent M.labels k (let d = x.disk in d.inc)) live p.memory

    works_few : (t : Parts) → x.live ≡ Some t → length t.coord.doings ≤ length (acts M.lines)
    works_few t live =
        let u = up_here t live in
        let f = u.faithful in
        let n = (known.1.1 k x here).1 t live in
        less (length t.coord.doings) (length t.coord.tree.branches) (count_of k (let d = x.disk in d.inc) (acts M.lines))
        (length (acts M.lines)) f.works n.1 (filter_shorter (λ (a : Act). ((let u = a.uid in u.node) == k)
        && ((let u = a.uid in u.inc) == (let d = x.disk in d.inc))) (acts M.lines))
      where
        less : (a b c e : ℕ) → a ≡ b → c ≡ b → c ≤ e → a ≤ e
        less a b c e one two le = omega (arith, one, two, le)

    telling_few : (t : Parts) → x.live ≡ Some t → length t.coord.telling ≤ length (acts M.lines)
    telling_few t live =
        let r = its in
        let l = r.live t live in
        few_map t.coord.telling (sorted_as t.coord.telling l.1) (λ u j is. let h = l.0 in let i = h.told u j is in rooted u i.0 i.1)

    pub few_at : FewAt (length (acts M.lines)) x
    few_at = record {
      asked = asked_few;
      works = works_few;
      telling = telling_few;
      records = let r = its in let c = r.disk in few_map (let d = x.disk in d.intents) (sorted_as (let d = x.disk in d.intents) c.sorted)
          rooted;
      ready = let d = x.disk in few_set (prepared_actions d.store ++ prepared_actions d.names) ready_begun;
    }
