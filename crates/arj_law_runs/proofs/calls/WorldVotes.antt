-- What a server votes for a top is used by the top's plan at that server.
use Rattle.arj_law_parts.proofs.Words
use Words.{◌≡◌, ◌⊎◌, ◌<◌, ◌==◌, ◌&&◌, ◌||◌, ℕ, List, [], ◌∷◌, ◌++◌, Bool, true, false, cond, Option, Some, None, refl, sym, ◌∙◌, ap, subst}
use Words.{inl, inr, ⊎_elim, arith, length, Contains, is_some, AllByRecursion, is_eq, match_ordering, nat_cmp, Ordering, Less}
use Words.{Equal, Greater, and_parts, eqb-true, uid_is, uid_same, in_filter_map, in_find, in_from, Uid, Ask, End, Head, Message}
use Words.{ObjectState, asks, is_on, last_uid, object, uid_eq, uids_of, actor, Machine, plan_of, Committing, Coord}
use Words.{made_over, Doing, doing_of, Copy, Over, changed_state, end_copy, is_of, Did, did_nothing, at_number, each}
use Words.{put_number, Server, apply_ends, changed_states, end_new, end_one, is_told, Branch, behind, branch_of, is_own, Post}
use Words.list
use Words.ask
use Words.ending
use Words.message
use Rattle.arj_law_runs.proofs.Terms
use Terms.{taken_end, Action, IsBusy, IsGoodCoord, IsVoting, IsTree, Paths, IsSaidSo, brought, brought_by, told_by, FitsAsk, ends_in}
use Terms.{FitsMessage, IsDecided, Seals, SealsAsked, has_commit_of, is_commit, on_own, doing_by, found_by, over_below, In, Call, IsAsked}
use Terms.{IsSaidToCommit, call_in, HasNoServer, IsAnswered, IsCalledBy, IsCovered, IsOwn, IsPlanned, IsSpent, IsUsed, IsVotedIn}
use Terms.{KnowsCalls, WasRefused, WasSpent, AreFromCalls, IsSource, AreKeyed}
use Rattle.arj_law_parts.specs.parts.Messages.{FitsAsked, IsAsker, SealsAsk}
use Rattle.arj_law_runs.proofs.{calls.CoordSends.asked_call, calls.ServerCalls.never, calls.ServerCalls.some_is}
use Rattle.arj_law_runs.proofs.calls.CoordTrees.{IsBelow, is_below, nothing_behind}
use Rattle.arj_law_runs.specs.calls.Coords.{IsThere}

-- ---- each object once

above_put : (k j : ℕ) (c : Copy) (m : List (ℕ × Copy)) → j < k → AllByRecursion (λ (e : ℕ × Copy). j < e.0) m →
    AllByRecursion (λ (e : ℕ × Copy). j < e.0) (put_number k c m)
above_put k j c [] less all = (less, tt)
above_put k j c (e ∷ es) less all = by (nat_cmp k e.0) (above_put k j c es less all.1)
  where
    by : (r : Ordering) → AllByRecursion (λ (f : ℕ × Copy). j < f.0) (put_number k c es) →
        AllByRecursion (λ (f : ℕ × Copy). j < f.0) (match_ordering r ((k, c) ∷ e ∷ es) ((e.0, c) ∷ es) (e ∷ put_number k c es))
    by Less ih = (less, all)
    by Equal ih = all
    by Greater ih = (all.0, ih)

above_all : (k j : ℕ) (m : List (ℕ × Copy)) → k < j → AllByRecursion (λ (e : ℕ × Copy). j < e.0) m →
    AllByRecursion (λ (e : ℕ × Copy). k < e.0) m
above_all k j [] less all = tt
above_all k j (e ∷ es) less all = (omega (arith, less, all.0), above_all k j es less all.1)

pub keyed_put : (k : ℕ) (c : Copy) (m : List (ℕ × Copy)) → AreKeyed m → AreKeyed (put_number k c m)
keyed_put k c [] keyed = (tt, tt)
keyed_put k c (e ∷ es) keyed = by (nat_cmp k e.0) refl (keyed_put k c es keyed.1)
  where
    less : nat_cmp k e.0 ≡ Less → k < e.0
    less is = grind (arith, is)

    more : nat_cmp k e.0 ≡ Greater → e.0 < k
    more is = grind (arith, is)

    by : (r : Ordering) → nat_cmp k e.0 ≡ r → AreKeyed (put_number k c es) →
        AreKeyed (match_ordering r ((k, c) ∷ e ∷ es) ((e.0, c) ∷ es) (e ∷ put_number k c es))
    by Less is ih = ((less is, above_all k e.0 es (less is) keyed.0), keyed)
    by Equal is ih = keyed
    by Greater is ih = (above_put k e.0 c es (more is) keyed.0, ih)

above_each : (f : ℕ → Copy → Copy) (k : ℕ) (m : List (ℕ × Copy)) → AllByRecursion (λ (e : ℕ × Copy). k < e.0) m →
    AllByRecursion (λ (e : ℕ × Copy). k < e.0) (each f m)
above_each f k [] all = tt
above_each f k (e ∷ es) all = (all.0, above_each f k es all.1)

pub keyed_each : (f : ℕ → Copy → Copy) (m : List (ℕ × Copy)) → AreKeyed m → AreKeyed (each f m)
keyed_each f [] keyed = tt
keyed_each f (e ∷ es) keyed = (above_each f e.0 es keyed.0, keyed_each f es keyed.1)

pub keyed_told : (n : ℕ) (es : List (Uid × End)) (s : Server) → AreKeyed s.objects →
    AreKeyed (let d = apply_ends n es s in let z = d.part in z.objects)
keyed_told n [] s keyed = keyed
keyed_told n (e ∷ es) s keyed = let d = end_one n e.0 e.1 s in keyed_told n es d.part (by (is_told e.0 s))
  where
    by : (b : Bool) →
        AreKeyed (let d = cond {A = Did Server} b (did_nothing s) (end_new n e.0 (taken_end e.0 e.1 s) s) in let z = d.part in z.objects)
    by true = keyed
    by false = keyed_each (λ x. end_copy e.0 (taken_end e.0 e.1 s)) s.objects keyed

-- what stands in such a list is found
found_at : (x : ℕ) (c : Copy) (m : List (ℕ × Copy)) → AreKeyed m → list.In (x, c) m → at_number x m ≡ Some c
found_at x c [] keyed i = absurd i
found_at x c (e ∷ es) keyed (inl same) = subst (λ (z : ℕ × Copy). at_number z.0 (e ∷ es) ≡ Some z.1) same (here e)
  where
    here : (z : ℕ × Copy) → at_number z.0 (z ∷ es) ≡ Some z.1
    here z = λ i. cond (itself z.0 i) (Some z.1) (at_number z.0 es)
      where
        itself : (n : ℕ) → is_eq (nat_cmp n n) ≡ true
        itself n = grind arith
found_at x c (e ∷ es) keyed (inr i) =
    (λ j. cond (apart e.0 x (above x e.0 es keyed.0 i) j) (Some e.1) (at_number x es)) ∙ found_at x c es keyed.1 i
  where
    apart : (a b : ℕ) → a < b → is_eq (nat_cmp b a) ≡ false
    apart a b less = grind (arith, less)

    above : (x k : ℕ) (m : List (ℕ × Copy)) → AllByRecursion (λ (f : ℕ × Copy). k < f.0) m → list.In (x, c) m → k < x
    above x k [] all none = absurd none
    above x k (f ∷ fs) all (inl same) = subst (λ (z : ℕ × Copy). k < z.0) same all.0
    above x k (f ∷ fs) all (inr j) = above x k fs all.1 j

-- a state that a top votes is of an overlay of its own
pub voted_over : (top : Uid) (s : Server) → AreKeyed s.objects → (st : ObjectState) → list.In st (changed_states top s) →
    (x : ℕ) × (c : Copy) × (e : Over) × (at_number x s.objects ≡ Some c) × list.In e c.stack × (last_uid e.holder ≡ top) × (st.uid.num ≡ x)
voted_over top s keyed st i =
    let f = in_filter_map (λ (e : ℕ × Copy). changed_state top e.0 e.1) st s.objects i in
    let c = (f.0).1 in
    let o = made_over top (f.0).0 c st f.2 in
    let p = in_find (is_of top) o.0 c.stack o.1 in (
      (f.0).0,
      c,
      o.0,
      found_at (f.0).0 c s.objects keyed f.1,
      p.0,
      uid_is (last_uid (let e = o.0 in e.holder)) top p.1,
      ap (λ (z : ObjectState). z.uid.num) (sym o.2),
    )

-- ---- who says that an action committed

has_commit : (u : Uid) (es : List (Uid × End)) → list.In (u, ending.Commit) es → has_commit_of u es ≡ true
has_commit u [] i = absurd i
has_commit u (e ∷ es) (inl same) =
    subst (λ (x : Uid × End). has_commit_of u (x ∷ es) ≡ true) (sym same) (λ i. (uid_same u i && true) || has_commit_of u es)
has_commit u (e ∷ es) (inr i) = later (uid_eq e.0 u && is_commit e.1) (has_commit u es i)
  where
    later : (b : Bool) → has_commit_of u es ≡ true → (b || has_commit_of u es) ≡ true
    later true h = refl
    later false h = h

none_in : (x : Uid × End) → Contains [] x → ⊥
none_in x c = absurd (in_from x [] c)

brought_seals : (m : Message) (u : Uid) → Contains (brought m) (u, ending.Commit) → Seals m u
brought_seals m u c = by (asks m) c
  where
    asked : (h : Head) (a : Ask) → Contains (ends_in a) (u, ending.Commit) → SealsAsk h a u
    asked h (ask.Invoke x b i ends op) c = has_commit u ends (in_from (u, ending.Commit) ends c)
    asked h (ask.Vote i ties ends) c = inl (has_commit u ends (in_from (u, ending.Commit) ends c))
    asked h (ask.Bind x i avoid) c = none_in (u, ending.Commit) c
    asked h (ask.Load x) c = none_in (u, ending.Commit) c
    asked h (ask.Activate b st) c = none_in (u, ending.Commit) c
    asked h (ask.Record x b i g) c = none_in (u, ending.Commit) c
    asked h (ask.Prepare states) c = none_in (u, ending.Commit) c
    asked h (ask.Confirm grants ex inc) c = none_in (u, ending.Commit) c

    by : (o : Option (Head × Ask)) → Contains (brought_by o) (u, ending.Commit) → SealsAsked m o u
    by None c = absurd (none_in (u, ending.Commit) c)
    by (Some a) c = asked a.0 a.1 c

told_seals : (m : Message) (u : Uid) → Contains (told_by m) (u, ending.Commit) → Seals m u
told_seals (message.Told m) u c = has_commit u m.ends (in_from (u, ending.Commit) m.ends c)
told_seals (message.Acked m) u c = absurd (none_in (u, ending.Commit) c)
told_seals (message.Query m) u c = absurd (none_in (u, ending.Commit) c)
told_seals (message.Hello m) u c = absurd (none_in (u, ending.Commit) c)
told_seals (message.Bind m) u c = absurd (none_in (u, ending.Commit) c)
told_seals (message.Bound m) u c = absurd (none_in (u, ending.Commit) c)
told_seals (message.Load m) u c = absurd (none_in (u, ending.Commit) c)
told_seals (message.Loaded m) u c = absurd (none_in (u, ending.Commit) c)
told_seals (message.Activate m) u c = absurd (none_in (u, ending.Commit) c)
told_seals (message.Activated m) u c = absurd (none_in (u, ending.Commit) c)
told_seals (message.RecordMsg m) u c = absurd (none_in (u, ending.Commit) c)
told_seals (message.Recorded m) u c = absurd (none_in (u, ending.Commit) c)
told_seals (message.Invoke m) u c = absurd (none_in (u, ending.Commit) c)
told_seals (message.Invoked m) u c = absurd (none_in (u, ending.Commit) c)
told_seals (message.Vote m) u c = absurd (none_in (u, ending.Commit) c)
told_seals (message.Voted m) u c = absurd (none_in (u, ending.Commit) c)
told_seals (message.Prepare m) u c = absurd (none_in (u, ending.Commit) c)
told_seals (message.Prepared m) u c = absurd (none_in (u, ending.Commit) c)
told_seals (message.Confirm m) u c = absurd (none_in (u, ending.Commit) c)
told_seals (message.Confirmed m) u c = absurd (none_in (u, ending.Commit) c)

-- ---- a vote

on_either : (us vs : List Uid) (w : Uid) → is_on (us ++ vs) w ≡ true → (is_on us w ≡ true) ⊎ (is_on vs w ≡ true)
on_either [] vs w on = inr on
on_either (x ∷ xs) vs w on = one (uid_eq x w) on (on_either xs vs w)
  where
    one : (b : Bool) → (b || is_on (xs ++ vs) w) ≡ true → (is_on (xs ++ vs) w ≡ true → (is_on xs w ≡ true) ⊎ (is_on vs w ≡ true)) →
        ((b || is_on xs w) ≡ true) ⊎ (is_on vs w ≡ true)
    one true h ih = inl refl
    one false h ih = ih h

-- what stands behind an action with which the first part ends
pub behind_after : (u : Uid) (us vs : List Uid) → behind u us ≡ [] → is_on us u ≡ true → behind u (us ++ vs) ≡ vs
behind_after u [] vs none on = absurd (cc on)
behind_after u (w ∷ us) vs none on = by (uid_eq w u) none on (behind_after u us vs)
  where
    by : (b : Bool) → cond b us (behind u us) ≡ [] → (b || is_on us u) ≡ true →
        (behind u us ≡ [] → is_on us u ≡ true → behind u (us ++ vs) ≡ vs) → cond b (us ++ vs) (behind u (us ++ vs)) ≡ vs
    by true none on ih = ap (λ ws. ws ++ vs) none
    by false none on ih = ih none on

pub on_first : (us vs : List Uid) (w : Uid) → is_on us w ≡ true → is_on (us ++ vs) w ≡ true
on_first [] vs w on = let no_way : false ≡ true = on in cc
on_first (x ∷ xs) vs w on = one (uid_eq x w) on (on_first xs vs w)
  where
    one : (b : Bool) → (b || is_on xs w) ≡ true → (is_on xs w ≡ true → is_on (xs ++ vs) w ≡ true) → (b || is_on (xs ++ vs) w) ≡ true
    one true h ih = refl
    one false h ih = ih h

pub asker_of : (acts : List Action) (h : Head) (a : Ask) → FitsAsk acts h a → IsAsker acts h.path
asker_of acts h (ask.Bind x i avoid) f = f
asker_of acts h (ask.Load x) f = f
asker_of acts h (ask.Activate b st) f = f
asker_of acts h (ask.Record x b i g) f = f
asker_of acts h (ask.Invoke x b i ends op) f = f.0
asker_of acts h (ask.Vote i ties ends) f = f.0
asker_of acts h (ask.Prepare states) f = f
asker_of acts h (ask.Confirm grants ex inc) f = f

-- a message that asks fits by its request
pub fits_asked : (acts : List Action) (m : Message) (h : Head) (a : Ask) → asks m ≡ Some (h, a) → FitsMessage acts m → FitsAsk acts h a
fits_asked acts m h a is f = subst (FitsAsked acts m) is f

module _ (acts : List Action) (paths : Paths) (tree : IsTree paths) (sent : List Post) (senders : (p : Post) (h : Head) (a : Ask) →
    In p sent → asks p.message ≡ Some (h, a) → (let u = actor h.path in u.node) ≡ p.from) (fit : (p : Post) → In p sent →
    FitsMessage acts p.message)
    (c : Coord) (good : IsGoodCoord acts paths c) (knows : KnowsCalls paths sent c) (seals : (p : Post) (u : Uid) → In p sent →
    Seals p.message u → u.node ≡ p.from) (says : (p : Post) → In p sent → p.from ≡ c.tree.node → IsSaidSo c.tree p.message) where
  -- who was said to commit did
  pub said_commit : (u : Uid) → is_own u c.tree ≡ true → IsSaidToCommit sent u → IsDecided u ending.Commit c.tree
  said_commit u own s = ⊎_elim
      (λ (b : Contains (brought s.post.message) (u, ending.Commit)).
      (says s.post s.posted (sym (seals s.post u s.posted (brought_seals s.post.message u b)) ∙ node)).brings u ending.Commit b own)
      (λ (t : Contains (told_by s.post.message) (u, ending.Commit)).
      (says s.post s.posted (sym (seals s.post u s.posted (told_seals s.post.message u t)) ∙ node)).commits u t own) s.said
    where
      node : u.node ≡ c.tree.node
      node = eqb-true u.node c.tree.node (and_parts (u.node == c.tree.node) (u.inc == c.tree.inc) own).0

  pub vote_fits : (k : ℕ) (s : Server) → (k ≡ 0 → ⊥) → AreFromCalls sent k s → AreKeyed s.objects →
      ((x : ℕ) (e : Copy) (o : Over) → at_number x s.objects ≡ Some e → list.In o e.stack → o.holder ≡ paths (last_uid o.holder)) →
      (top : Uid) (d : Doing) (m : Machine) → doing_of top c ≡ Some d → d.now ≡ Committing m → (st : ObjectState) →
      list.In st (changed_states top s) → IsVotedIn sent c (plan_of m) st.uid.num k
  vote_fits k s some_node from keyed overs top d m found now st i = by (covered.calls k call own on_top)
    where
      v : (x : ℕ) × (e : Copy) × (o : Over) × (at_number x s.objects ≡ Some e) × list.In o e.stack × (last_uid o.holder ≡ top)
          × (st.uid.num ≡ x)
      v = voted_over top s keyed st i

      source : IsSource sent k s v.0 (let e = v.1 in e.binding) (let o = v.2 in o.holder)
      source = from v.0 v.1 v.2 v.3 v.4

      call : Call
      call = source.call

      covered : IsCovered sent c.tree c top m
      covered = knows.plans top d m found now

      holder : (let o = v.2 in o.holder) ≡ paths top
      holder = overs v.0 v.1 v.2 v.3 v.4 ∙ ap paths v.5

      voting : IsVoting c.tree top (plan_of m)
      voting = subst (IsBusy c.tree top) now (good.busy top d found)

      on_itself : is_on (paths top) top ≡ true
      on_itself =
          let b = voting.asking in
          ap (λ us. is_on us top) (sym (good.tree.lists.paths_are top b.branch b.found))
          ∙ ap (is_on (uids_of b.branch.path)) (sym (good.tree.lists.places top b.branch b.found)) ∙ on_own b.branch.path

      on_top : is_on (uids_of (let h = (let q = source.call in q.head) in h.path)) top ≡ true
      on_top = ap (λ us. is_on us top) source.path
          ∙ on_first (let o = v.2 in o.holder) source.rest top (ap (λ us. is_on us top) holder ∙ on_itself)

      asked : IsAsked sent source.from k source.call
      asked = source.asked

      q : (a : Ask) × (asks asked.message ≡ Some ((let z = source.call in z.head), a))
          × (call_in (let z = source.call in z.head) a ≡ Some source.call)
      q = asked_call asked.message source.call asked.call

      asker : IsAsker acts (let h = (let z = source.call in z.head) in h.path)
      asker = asker_of acts (let z = source.call in z.head) q.0 (fits_asked acts asked.message (let z = source.call in
          z.head) q.0 q.1 (fit (record { from = source.from; to = k; message = asked.message }) asked.posted))

      -- the caller is of this coordinator, as the top is
      home : (b : Branch) × (branch_of (actor (let a = asker.0 in a.path)) c.tree ≡ Some b) × (b.path ≡ (let a = asker.0 in a.path))
      home = good.home asker.0 top asker.1 (ap (λ p. is_on (uids_of p) top) asker.2 ∙ on_top) (doing_by top c d found).0

      its_own : is_own (actor (let h = (let z = source.call in z.head) in h.path)) c.tree ≡ true
      its_own = subst (λ p. is_own (actor p) c.tree ≡ true) asker.2 (found_by (actor (let a = asker.0 in a.path)) c.tree home.0 home.1).0

      its_node : source.from ≡ c.tree.node
      its_node = sym (senders (record { from = source.from; to = k; message = asked.message }) (let z = source.call in
          z.head) q.0 asked.posted q.1) ∙ eqb-true (actor (let h = (let z = source.call in z.head) in h.path)).node c.tree.node
          (and_parts ((actor (let h = (let z = source.call in z.head) in h.path)).node == c.tree.node)
          ((actor (let h = (let z = source.call in z.head) in h.path)).inc == c.tree.inc) its_own).0

      own : IsOwn sent c k call
      own = record { asked = subst (λ n. IsAsked sent n k source.call) its_node source.asked; own = its_own; writing = source.writing }

      -- no action of its path was aborted
      unspent : IsSpent c.tree (uids_of (let h = (let z = source.call in z.head) in h.path)) → ⊥
      unspent (w, on, a) =
          ⊎_elim above below (on_either (let o = v.2 in o.holder) source.rest w (ap (λ us. is_on us w) (sym source.path) ∙ on))
        where
          below : is_on source.rest w ≡ true → ⊥
          below on =
              let b = said_commit w (found_by w c.tree a.0 a.1).0 (source.committed w on) in
              let no_way : ◌≡◌ {A = End} ending.Commit ending.Abort = some_is
              (sym b.2 ∙ ap (λ (z : Branch). z.ended) (some_is (sym b.1 ∙ a.1)) ∙ a.2) in absurd (cc no_way)

          above : is_on (let o = v.2 in o.holder) w ≡ true → ⊥
          above on =
              let b = voting.asking in
              never (over_below paths tree c.tree good.tree.lists good.tree.closed w a.0 a.1 (ap is_some a.2) top b.branch b.found
              (ap (λ us. is_on us w) (sym holder) ∙ on)) b.opened

      -- the call is by the top's path, with what was said to commit behind it
      path : uids_of (let h = call.head in h.path) ≡ uids_of (plan_of m).path ++ source.rest
      path = source.path ∙ ap (λ vs. vs ++ source.rest)
          (holder ∙ sym (good.tree.lists.paths_are top voting.asking.branch voting.asking.found) ∙ ap uids_of voting.asking.path)

      -- all of them are of this coordinator
      own_rest : (w : Uid) → is_on source.rest w ≡ true → is_own w c.tree ≡ true
      own_rest w on =
          let its : uids_of (let h = call.head in h.path) ≡ paths (actor (let a = asker.0 in a.path)) = ap uids_of (sym (home.2 ∙ asker.2))
          ∙ good.tree.lists.paths_are (actor (let a = asker.0 in a.path)) home.0 home.1 in
          let below : IsBelow paths tree c.tree good.tree.lists good.tree.closed top voting.asking.branch voting.asking.found
          (paths (actor (let a = asker.0 in a.path))) = is_below paths tree c.tree good.tree.lists good.tree.closed top
          voting.asking.branch voting.asking.found (length (paths (actor (let a = asker.0 in a.path))))
          (actor (let a = asker.0 in a.path)) home.0 (omega arith) home.1 (ap (λ vs. is_on vs top) (sym its) ∙ on_top) in
          let behind_it : behind top (paths (actor (let a = asker.0 in a.path))) ≡ source.rest = ap (behind top)
          (sym its ∙ source.path ∙ ap (λ vs. vs ++ source.rest) holder) ∙ behind_after top (paths top) source.rest
          (nothing_behind paths tree c.tree good.tree.lists good.tree.closed top voting.asking.branch voting.asking.found) on_itself in
          let b = below.over voting.childless w (ap (λ vs. is_on vs w) behind_it ∙ on) in
          (found_by w c.tree b.0 b.1).0

      called : IsAnswered c (uids_of (let h = call.head in h.path)) call.x → IsCalledBy sent c (uids_of (plan_of m).path) st.uid.num
      called a = record {
        rest = source.rest;
        answered = subst (λ vs. IsAnswered c vs st.uid.num) path
            (subst (λ x. IsAnswered c (uids_of (let h = call.head in h.path)) x) (source.object ∙ sym v.6) a);
        own = own_rest;
        merged = source.committed;
      }

      by : IsPlanned sent c.tree c (plan_of m).used k call → IsVotedIn sent c (plan_of m) st.uid.num k
      by (WasRefused r) = absurd (source.unrefused r)
      by (HasNoServer z) = absurd (some_node z)
      by (WasSpent s) = absurd (unspent s)
      by (IsThere u a) = (subst (λ x. IsUsed (plan_of m).used x k) (source.object ∙ sym v.6) u, called a)
